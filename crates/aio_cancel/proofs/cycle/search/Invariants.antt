-- What was looked at, and what is left to look at, are all that is led to.
use Rattle.std.proofs.Common.{◌≡◌, []}
use Rattle.algorithm_parts.specs.Weight.{weight}
use Rattle.algorithm_parts.specs.Open.{CanWalk}
use Rattle.algorithm_parts.specs.Seek.{CanSeek}
use Rattle.aio_cancel.specs.Awaitables.{parts}
use Rattle.aio_cancel.specs.Noted.{noted}
use Rattle.aio_cancel.proofs.cycle.search.Given as goal

abbrev pub invariant-loop-go : goal.invariant-loop-go
invariant-loop-go l = record {
  seeks : CanSeek (parts l.body) l.from l.to l.seen.visited (noted l.notes) l.go l.stack.frames;
  walks : CanWalk l.stack.room l.seen.tasks l.go l.stack.frames [] (parts l.body);
  room : l.stack.room ≡ l.fn.stack.room;
  marks : l.seen.tasks ≡ l.fn.seen.tasks;
}

abbrev pub decreases-loop-go : goal.decreases-loop-go
decreases-loop-go l = weight l.go l.stack.frames l.seen.visited (parts l.body)
