use Rattle.model_wire.specs.declared.event.Handed.TheVariants as to
use Rattle.law_walk.proofs.Turning.{run_ordered}
use Rattle.law_order.proofs.Moving.{over_kept}
use Rattle.law_order.proofs.Walking.{kept_walks}
use Rattle.law_order.proofs.Whole.{all_closed, is_ended, never_child}
use Rattle.law_order.proofs.losses.the_outside_is_asked_to_close_once.Goals as goal

pub returns : goal.returns
returns c laws = record {
  connection = all_closed;
  child = λ s whole id. all_closed s whole (to.Child id) (never_child id s.events);
  over = λ s whole whom some. whole.closed whom some;
  nothing_after = λ limit added turns s whom whole some.
      run_ordered (kept_walks (over_kept whom _)) limit added turns s (is_ended s whole whom some);
}
