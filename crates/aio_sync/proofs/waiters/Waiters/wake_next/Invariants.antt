use Rattle.std.proofs.Common.{◌≡◌, true, length}
use Rattle.std.specs.List.Sorted.{IsStrictlySortedBy}
use Rattle.std.specs.Ordering.{nat_cmp}
use Rattle.model_sync.specs.Queues.{wake_next}
use Rattle.aio_task.specs.View.{parts as parts_of}
use Rattle.aio_sync.specs.Woken.{are_free}
use Rattle.aio_sync.proofs.waiters.Waiters.wake_next.Given as goal

abbrev pub invariant-loop-waiter : goal.invariant-loop-waiter
invariant-loop-waiter l = record {
  same : l.parts ≡ l.initial.parts;
  sorted : IsStrictlySortedBy nat_cmp l.self-inside.those.keys;
  next : wake_next (parts_of l.parts) l.self-inside.those.keys ≡ wake_next (parts_of l.parts) l.fn.self;
  free : are_free l.parts.futures l.self-inside.those.keys ≡ true;
}

abbrev pub decreases-loop-waiter : goal.decreases-loop-waiter
decreases-loop-waiter l = length l.self-inside.those.keys
