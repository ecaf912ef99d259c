use Rattle.law_turns.proofs.Streaming.{reply_sound}
use Rattle.law_turns.proofs.steps.requests_keep_it_sound.Goals as goal

pub returns : goal.returns
returns g c = reply_sound
