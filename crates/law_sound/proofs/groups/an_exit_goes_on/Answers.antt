use Rattle.law_sound.proofs.GroupSteps.{exit_begin_sound, exit_woken_step_sound}
use Rattle.law_sound.proofs.groups.an_exit_goes_on.Goals as goal

pub returns-clause-begins : goal.returns-clause-begins
returns-clause-begins c = exit_begin_sound

pub returns-clause-woken : goal.returns-clause-woken
returns-clause-woken c = exit_woken_step_sound
