use Rattle.std.proofs.Common.{◌≤◌, drop, length}
use Rattle.aio_flat.specs.Numbers.{HasNumbers}
use Rattle.aio_flat.proofs.numbers.numbers_in.Given as goal

abbrev pub invariant-loop-at : goal.invariant-loop-at
invariant-loop-at l = record {
  in_range : l.at ≤ length l.names;
  has : HasNumbers l.numbers (length l.names) l.at (drop l.at l.names);
}

abbrev pub decreases-loop-at : goal.decreases-loop-at
decreases-loop-at l = l.at
