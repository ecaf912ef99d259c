-- No live place left.
use Rattle.std.specs.BinaryHeap.{IsHeap, heap_items, heap_len}
use Rattle.aio_timer.specs.Kept.{KeepsStanding, later_cmp}
use Rattle.aio_timer.proofs.place.shed.Given as goal

abbrev pub invariant-loop-places : goal.invariant-loop-places
invariant-loop-places l =
    record {
      heap : IsHeap later_cmp (heap_items l.places);
      kept : KeepsStanding l.entries (heap_items l.initial.places) (heap_items l.places);
    }

abbrev pub decreases-loop-places : goal.decreases-loop-places
decreases-loop-places l = heap_len l.places
