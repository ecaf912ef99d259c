use Rattle.std.proofs.Common.{◌∷◌}
use Rattle.std.specs.BinaryHeap.{heap_items}
use Rattle.std.proofs.lemmas.List.Sorted.{Contains-permutation}
use Rattle.aio_timer.proofs.place.enter.Goals as goal

pub shed-requires : goal.shed-requires
shed-requires c = c.in-Ok.ensures.heap_order c.requires.heap

pub returns : goal.returns
returns c =
    record {
      heap = c.shed.ensures.heap;
      first = c.shed.ensures.first;
      kept = λ place live among.
          c.shed.ensures.kept place live
          (Contains-permutation (record { 0 = c.args.place } ∷ heap_items c.args.places.now) (heap_items c.push.new.self) place
          c.in-Ok.ensures.permutation among);
    }
