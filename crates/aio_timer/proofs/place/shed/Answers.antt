use Rattle.std.proofs.Common.{sym, ◌∙◌}
use Rattle.std.specs.BinaryHeap.{heap_items}
use Rattle.aio_timer.proofs.Keeping.{shed_one}
use Rattle.aio_timer.proofs.place.shed.Goals as goal

pub loop-places-init : goal.loop-places-init
loop-places-init c = record { heap = c.requires; kept = λ place live among. among }

pub loop-places-preserved : goal.loop-places-preserved
loop-places-preserved c =
    record {
      heap = c.pop_first.ensures.heap c.loop-places.invariant.heap;
      kept = λ place live among.
          shed_one c.args.entries.now (heap_items c.loop-places.places) c.pop_first.result (heap_items c.pop_first.new.places)
          (sym c.is_dead_first.ensures.dead ∙ c.loop-places-test.true) c.pop_first.ensures.first c.pop_first.ensures.moved
          place live (c.loop-places.invariant.kept place live among);
    }

pub returns : goal.returns
returns c =
    record {
      heap = c.loop-places.invariant.heap;
      first = sym c.is_dead_first.ensures.dead ∙ c.loop-places-test.false;
      kept = c.loop-places.invariant.kept;
    }
