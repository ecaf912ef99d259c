use Rattle.law_walk.proofs.Turning.{run_ordered, turn_ordered}
use Rattle.law_received.proofs.Going.{begins, order_tells, walks}
use Rattle.law_received.proofs.Replies.{held_behind, held_rest, read_front, read_one}
use Rattle.law_received.proofs.received.what_reads_took_is_a_front.Goals as goal

pub returns : goal.returns
returns c laws = record {
  of_a_run = λ limit added most state program answers turns.
      run_ordered (walks order_tells) limit added turns _ (begins most state program answers);
  from_any = λ limit added turns s between. run_ordered (walks order_tells) limit added turns s between;
  turn = λ limit added s between. turn_ordered (walks order_tells) limit added s between;
  begins = begins;
  front = read_front;
  behind = held_behind;
  one = read_one;
  rest = held_rest;
}
