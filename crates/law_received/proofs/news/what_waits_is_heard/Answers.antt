use Rattle.law_received.proofs.Due.{due_heard}
use Rattle.law_received.proofs.news.what_waits_is_heard.Goals as goal

pub returns : goal.returns
returns c = due_heard
