use Rattle.law_sound.proofs.Steps.{due_step_sound}
use Rattle.law_sound.proofs.taking.timers_fall_due.Goals as goal

pub returns : goal.returns
returns c = due_step_sound
