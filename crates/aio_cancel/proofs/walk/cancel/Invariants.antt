-- What is left of the request is the whole of it.
use Rattle.std.proofs.Common.{◌≡◌}
use Rattle.model_loop.specs.Cancel.{cancel as cancel_of}
use Rattle.algorithm_parts.specs.Walk.{run}
use Rattle.algorithm_parts.specs.Weight.{weight}
use Rattle.algorithm_parts.specs.Open.{CanWalk}
use Rattle.algorithm_parts.specs.Quiet.{Sound}
use Rattle.aio_cancel.specs.Noted.{noted}
use Rattle.aio_cancel.specs.Awaitables.{parts, Appended}
use Rattle.aio_cancel.proofs.walk.cancel.Given as goal

abbrev pub invariant-loop-go : goal.invariant-loop-go
invariant-loop-go l = record {
  walks : CanWalk l.stack.room l.seen.tasks l.go l.stack.frames l.seen.visited (parts l.body);
  same : run l.go l.stack.frames l.seen.visited (parts l.body) ≡ cancel_of l.target (parts l.fn.body);
  sound : Sound l.seen.visited (parts l.body) (noted l.notes);
  queue : Appended l.fn.body.queue l.body.queue;
  room : l.stack.room ≡ l.fn.stack.room;
  marks : l.seen.tasks ≡ l.fn.seen.tasks;
}

abbrev pub decreases-loop-go : goal.decreases-loop-go
decreases-loop-go l = weight l.go l.stack.frames l.seen.visited (parts l.body)
