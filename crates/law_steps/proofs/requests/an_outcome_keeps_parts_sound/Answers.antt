use Rattle.law_steps.proofs.CancelSound.{settle_sound}
use Rattle.law_steps.proofs.requests.an_outcome_keeps_parts_sound.Goals as goal

pub returns : goal.returns
returns c = settle_sound
