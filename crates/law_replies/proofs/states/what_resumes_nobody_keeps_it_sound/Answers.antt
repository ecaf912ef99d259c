use Rattle.law_replies.proofs.Nobody.{nobody}
use Rattle.law_replies.proofs.states.what_resumes_nobody_keeps_it_sound.Goals as goal

pub returns : goal.returns
returns g c = nobody
