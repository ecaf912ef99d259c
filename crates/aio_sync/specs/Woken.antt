-- Waiters' futures, by the view of the loop's parts.
use Rattle.std.specs.Prelude.{ℕ, Bool, ◌&&◌, List, is_none, length, nat_lt, slice_get}
use Rattle.std.specs.List.{list_all}
use Rattle.model_value.specs.Value.{Nothing}
use Rattle.model_value.specs.declared.outcome.Outcome.TheVariants.{Value as Returned}
use Rattle.model_loop.specs.Owning.{owner_at}
use Rattle.model_loop.specs.Parts.{Future}
use Rattle.aio_ready.specs.Queue as queue
use Rattle.aio_future.specs.Settled.{called, settled}
use Rattle.aio_task.specs.View.{View}

-- it was made, and is no task's
abbrev pub is_free : List Future → ℕ → Bool
is_free futures id = nat_lt id (length futures) && is_none (owner_at (slice_get futures id))

abbrev pub are_free : List Future → List ℕ → Bool
are_free futures ids = list_all (is_free futures) ids

-- a waiter's future is resolved, unless it is done
abbrev pub woken : ℕ → View → View
woken waiter v =
    record v {
      futures = settled waiter (Returned Nothing) v.futures;
      queue = queue.soon_all (called waiter v.futures) v.queue;
    }
