use Rattle.law_sound.proofs.Steps.{settle_step_sound}
use Rattle.law_sound.proofs.tasks.a_future_is_resolved.Goals as goal

pub returns : goal.returns
returns c = settle_step_sound
