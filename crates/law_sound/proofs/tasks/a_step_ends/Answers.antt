use Rattle.law_sound.proofs.Steps.{pause_step_sound, suspend_step_sound, finish_step_sound}
use Rattle.law_sound.proofs.tasks.a_step_ends.Goals as goal

pub returns-clause-pauses : goal.returns-clause-pauses
returns-clause-pauses c = pause_step_sound

pub returns-clause-suspends : goal.returns-clause-suspends
returns-clause-suspends c = suspend_step_sound

pub returns-clause-finishes : goal.returns-clause-finishes
returns-clause-finishes c = finish_step_sound
