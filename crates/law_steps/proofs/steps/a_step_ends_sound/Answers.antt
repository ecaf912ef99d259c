use Rattle.law_steps.proofs.Ending.{pause_sound, finish_sound}
use Rattle.law_steps.proofs.Waiting.{suspend_sound}
use Rattle.law_steps.proofs.steps.a_step_ends_sound.Goals as goal

pub returns-clause-pauses : goal.returns-clause-pauses
returns-clause-pauses c = pause_sound

pub returns-clause-suspends : goal.returns-clause-suspends
returns-clause-suspends c = suspend_sound

pub returns-clause-finishes : goal.returns-clause-finishes
returns-clause-finishes c = finish_sound
