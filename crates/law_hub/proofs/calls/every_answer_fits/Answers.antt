use Rattle.law_hub.proofs.Answered.{all_fit}
use Rattle.law_hub.proofs.calls.every_answer_fits.Goals as goal

pub returns : goal.returns
returns c = all_fit
