use Rattle.std.proofs.Common.{◌≤◌, drop, length}
use Rattle.aio_flat.specs.Places.{HasPlaces}
use Rattle.aio_flat.proofs.places.places_in.Given as goal

abbrev pub invariant-loop-at : goal.invariant-loop-at
invariant-loop-at l = record {
  in_range : l.at ≤ length l.coroutines;
  has : HasPlaces l.places l.count l.at (drop l.at l.coroutines);
}

abbrev pub decreases-loop-at : goal.decreases-loop-at
decreases-loop-at l = l.at
