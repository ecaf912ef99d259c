use Rattle.law_walk.proofs.Turning.{below_ordered, mids_ordered, run_ordered, turn_ordered}
use Rattle.law_order.proofs.Beginning.{begins}
use Rattle.law_order.proofs.Moving.{order_kept}
use Rattle.law_order.proofs.Walking.{kept_walks}
use Rattle.law_order.proofs.order.every_state_is_in_order.Goals as goal

pub returns : goal.returns
returns c laws = record {
  of_a_run = λ limit added most state program answers turns.
      run_ordered (kept_walks order_kept) limit added turns _ (begins most state program answers);
  from_any = λ limit added turns s ordered. run_ordered (kept_walks order_kept) limit added turns s ordered;
  turn = λ limit added s ordered. turn_ordered (kept_walks order_kept) limit added s ordered;
  between = λ limit added s ordered. mids_ordered (kept_walks order_kept) limit added s ordered;
  callbacks = λ limit added bar count s ordered. below_ordered (kept_walks order_kept) limit added bar count s ordered;
}
