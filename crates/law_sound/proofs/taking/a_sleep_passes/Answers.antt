use Rattle.law_sound.proofs.Steps.{later_step_sound, sleep_done_sound, revoke_step_sound}
use Rattle.law_sound.proofs.taking.a_sleep_passes.Goals as goal

pub returns-clause-later : goal.returns-clause-later
returns-clause-later c = later_step_sound

pub returns-clause-done : goal.returns-clause-done
returns-clause-done c = sleep_done_sound

pub returns-clause-revoke : goal.returns-clause-revoke
returns-clause-revoke c = revoke_step_sound
