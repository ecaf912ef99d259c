use Rattle.std.proofs.Common.{◌≡◌, ℕ}
use Rattle.aio_postbox.proofs.Grouping.{Grouped}
use Rattle.aio_postbox.proofs.four.in_fours.Given as goal

abbrev pub invariant-loop-n : goal.invariant-loop-n
invariant-loop-n g l = (all : ℕ) × (all ≡ 1024) × Grouped all l._n l.left.items l.fours.items
