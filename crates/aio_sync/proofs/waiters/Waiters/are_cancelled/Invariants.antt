use Rattle.std.proofs.Common.{◌≡◌}
use Rattle.model_sync.specs.Locks.{are_cancelled}
use Rattle.aio_task.specs.View.{parts as parts_of}
use Rattle.aio_sync.proofs.waiters.Waiters.are_cancelled.Given as goal

abbrev pub invariant-loop-waiter : goal.invariant-loop-waiter
invariant-loop-waiter l = are_cancelled (parts_of l.parts) l.waiter-iterator ≡ are_cancelled (parts_of l.parts) l.self
