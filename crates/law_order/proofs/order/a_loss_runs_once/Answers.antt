use Rattle.law_walk.proofs.Turning.{below_ordered, run_ordered}
use Rattle.law_order.proofs.Losing.{begins_lost, lost_kept, runs_after, runs_once}
use Rattle.law_order.proofs.Walking.{kept_walks}
use Rattle.law_order.proofs.order.a_loss_runs_once.Goals as goal

pub returns : goal.returns
returns c laws = record {
  of_a_run = λ limit added most state program answers turns.
      run_ordered (kept_walks lost_kept) limit added turns _ (begins_lost most state program answers);
  from_any = λ limit added turns s once. run_ordered (kept_walks lost_kept) limit added turns s once;
  callbacks = λ limit added bar count s once. below_ordered (kept_walks lost_kept) limit added bar count s once;
  once = runs_once;
  none_before = runs_after;
}
