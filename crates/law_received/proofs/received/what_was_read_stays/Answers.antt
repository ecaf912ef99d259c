use Rattle.law_walk.proofs.Turning.{run_ordered}
use Rattle.law_received.proofs.Going.{have_tells, over_now, over_tells, read_now, walks}
use Rattle.law_received.proofs.received.what_was_read_stays.Goals as goal

pub returns : goal.returns
returns c laws = record {
  reads = λ limit added turns s from read let_go between it.
      run_ordered (walks (have_tells from read let_go s.streams s.events)) limit added turns s (read_now s from read let_go between it);
  over = λ limit added turns s from read let_go between it failed.
      run_ordered (walks (over_tells from read let_go)) limit added turns s (over_now s from read let_go between it failed);
}
