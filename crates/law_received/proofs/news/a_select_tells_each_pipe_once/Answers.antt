use Rattle.law_received.proofs.Select.{told_once}
use Rattle.law_received.proofs.Woken.{woken_due}
use Rattle.law_received.proofs.news.a_select_tells_each_pipe_once.Goals as goal

pub returns : goal.returns
returns c = record {
  tells = told_once;
  wakes = woken_due;
}
