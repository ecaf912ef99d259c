use Rattle.law_sound.proofs.Steps.{begin_step_sound}
use Rattle.law_sound.proofs.tasks.a_step_begins.Goals as goal

pub returns : goal.returns
returns c = begin_step_sound
