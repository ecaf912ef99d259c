use Rattle.law_sound.proofs.TimeoutSteps.{enter_timeout_sound, reschedule_sound, exit_timeout_sound}
use Rattle.law_sound.proofs.timeouts.a_timeout_is_entered_and_left.Goals as goal

pub returns-clause-enter : goal.returns-clause-enter
returns-clause-enter c = enter_timeout_sound

pub returns-clause-reschedule : goal.returns-clause-reschedule
returns-clause-reschedule c = reschedule_sound

pub returns-clause-exit : goal.returns-clause-exit
returns-clause-exit c = exit_timeout_sound
