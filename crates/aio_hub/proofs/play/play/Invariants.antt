use Rattle.std.proofs.Common.{length}
use Rattle.aio_hub.specs.Plays.{PostsFront}
use Rattle.aio_hub.proofs.play.play.Given as goal

abbrev pub invariant-loop-kind : goal.invariant-loop-kind
invariant-loop-kind g l = PostsFront l.initial.left.items l.left.items l.initial.seat l.seat l.moved l.ending

abbrev pub decreases-loop-kind : goal.decreases-loop-kind
decreases-loop-kind g l = length l.left.items
