use Rattle.law_walk.proofs.Turning.{below_ordered, run_ordered}
use Rattle.law_order.proofs.Walking.{kept_walks}
use Rattle.law_order.proofs.Whole.{begins_whole, whole_kept}
use Rattle.law_order.proofs.losses.every_state_is_whole.Goals as goal

pub returns : goal.returns
returns c laws = record {
  of_a_run = λ limit added most state program answers turns.
      run_ordered (kept_walks whole_kept) limit added turns _ (begins_whole most state program answers);
  from_any = λ limit added turns s whole. run_ordered (kept_walks whole_kept) limit added turns s whole;
  callbacks = λ limit added bar count s whole. below_ordered (kept_walks whole_kept) limit added bar count s whole;
}
