use Rattle.law_sound.proofs.Steps.{request_step_sound, uncancel_step_sound}
use Rattle.law_sound.proofs.requests.a_cancel_is_asked_and_taken_back.Goals as goal

pub returns-clause-ask : goal.returns-clause-ask
returns-clause-ask c = request_step_sound

pub returns-clause-uncancel : goal.returns-clause-uncancel
returns-clause-uncancel c = uncancel_step_sound
