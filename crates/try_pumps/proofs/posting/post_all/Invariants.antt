use Rattle.std.proofs.Common.{◌≡◌, ◌≤◌, length}
use Rattle.try_pumps.proofs.posting.post_all.Given as goal

abbrev pub invariant-loop-number : goal.invariant-loop-number
invariant-loop-number g l = (length l.poster.posted ≡ l.number) × (l.number ≤ l.posts)
