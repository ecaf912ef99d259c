use Rattle.std.proofs.Common.{◌-◌, length, slice_get, take}
use Rattle.model_loop.specs.Futures.{made_before}
use Rattle.algorithm_parts.specs.Shape.{members_at}
use Rattle.algorithm_parts.specs.Quiet.{QuietAll}
use Rattle.aio_cancel.specs.Awaitables.{parts}
use Rattle.aio_cancel.proofs.quiet.look_all.Given as goal

abbrev pub invariant-loop-member : goal.invariant-loop-member
invariant-loop-member l = QuietAll l.seen.visited (parts l.body) (made_before l.id (take l.place (members_at (slice_get l.body.futures l.id)))) l.again

abbrev pub decreases-loop-member : goal.decreases-loop-member
decreases-loop-member l = length (members_at (slice_get l.body.futures l.id)) - l.place
