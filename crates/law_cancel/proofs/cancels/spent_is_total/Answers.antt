use Rattle.law_cancel.proofs.Answering.{spent_by_itself}
use Rattle.law_cancel.proofs.cancels.spent_is_total.Goals as goal

pub returns : goal.returns
returns c = spent_by_itself
