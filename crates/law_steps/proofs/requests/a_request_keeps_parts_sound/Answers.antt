use Rattle.law_steps.proofs.CancelSound.{cancel_sound}
use Rattle.law_steps.proofs.requests.a_request_keeps_parts_sound.Goals as goal

pub returns : goal.returns
returns c = cancel_sound
