-- The members so far are what those before raised.
use Rattle.std.proofs.Common.{◌≡◌, take}
use Rattle.model_loop.specs.Children.{failures}
use Rattle.aio_task.specs.View.{parts}
use Rattle.aio_group.proofs.failures.members_of.Given as goal

abbrev pub invariant-loop-task : goal.invariant-loop-task
invariant-loop-task l = l.members.items ≡ failures (parts l.parts) (take l.task-index l.failed)
