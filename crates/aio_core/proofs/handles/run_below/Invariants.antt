-- From wherever it began a state was come to, from which the rest runs as from the first.
use Rattle.std.proofs.Common.{length}
use Rattle.aio_core.proofs.Running.{HasReached}
use Rattle.aio_core.proofs.handles.run_below.Given as goal

abbrev pub invariant-loop-action : goal.invariant-loop-action
invariant-loop-action g l =
    HasReached g.X.Extra.added g.W.Wire.outside l.fn.body l.fn.wire l.body l.wire

abbrev pub decreases-loop-action : goal.decreases-loop-action
decreases-loop-action g l = length l.body.parts.queue.below
