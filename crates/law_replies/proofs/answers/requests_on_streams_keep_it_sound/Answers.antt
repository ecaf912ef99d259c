use Rattle.law_replies.proofs.Streaming.{streams_reply_in}
use Rattle.law_replies.proofs.answers.requests_on_streams_keep_it_sound.Goals as goal

pub returns : goal.returns
returns g c = λ added task s step asked says is. streams_reply_in added task s step asked says is
