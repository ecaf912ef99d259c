-- What was let go does not live, and nothing else changes.
use Rattle.std.proofs.Common.{◌≡◌, length}
use Rattle.aio_ready.specs.Queue.{from_live}
use Rattle.aio_ready.proofs.ready.Ready.next_below.Given as goal

abbrev pub invariant-loop-handle : goal.invariant-loop-handle
invariant-loop-handle l =
    (from_live l.self.below ≡ from_live l.initial.self.below)
    × (l.self.after ≡ l.initial.self.after)
    × (l.self.given ≡ l.initial.self.given)

abbrev pub decreases-loop-handle : goal.decreases-loop-handle
decreases-loop-handle l = length l.self.below
