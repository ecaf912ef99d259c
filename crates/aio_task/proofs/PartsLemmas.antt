-- The parts after a callback was registered and after a task was made.
use Rattle.std.proofs.Common.{◌≡◌, ℕ, false, List, [], ◌∷◌, ◌++◌, Option, Some, None, length, slice_get, refl, sym}
use Rattle.model_value.specs.Action.{Action}
use Rattle.model_value.specs.declared.action.Action.TheVariants.{Step}
use Rattle.model_value.specs.Value.{Outcome}
use Rattle.model_loop.specs.Parts.{OfTask, Future}
use Rattle.model_loop.specs.Futures as plain
use Rattle.model_loop.specs.Tasks.{spawn}
use Rattle.model_loop.proofs.FutureCases as cases
use Rattle.aio_ready.specs.Queue as queue
use Rattle.aio_future.specs.Settled.{registered, registered_at, registered_until, soon_if_done, soon_at, soon_until}
use Rattle.aio_cancel.specs.Awaitables.{Awaitables, parts, Appended}
use Rattle.aio_cancel.proofs.PartsLemmas.{soon-parts}

pub register-parts : (id : ℕ) (action : Action) (v : Awaitables)
    → plain.register id action (parts v)
    ≡ parts (record { queue = soon_if_done id action v.futures v.queue; futures = registered id action v.futures; tasks = v.tasks })
register-parts id action v = at (slice_get v.futures id)
  where
    until : (future : Future) (x : Option Outcome)
        → cases.registered_on x id future action (parts v)
        ≡ parts (record {
          queue = soon_until x action v.queue;
          futures = registered_until x future id action v.futures;
          tasks = v.tasks;
        })
    until future (Some done) = soon-parts action v
    until future None = refl

    at : (o : Option Future)
        → cases.registered o id action (parts v)
        ≡ parts (record { queue = soon_at o action v.queue; futures = registered_at o id action v.futures; tasks = v.tasks })
    at None = refl
    at (Some future) = until future future.outcome

pub spawn-parts : (v : Awaitables)
    → spawn (parts v)
    ≡ parts (record {
      queue = queue.soon (Step (length v.tasks)) v.queue;
      futures = v.futures ++ record { kind = OfTask (length v.tasks); outcome = None; callbacks = [] } ∷ [];
      tasks = v.tasks ++ record { future = length v.futures; waiter = None; cancels = 0; must_cancel = false } ∷ [];
    })
spawn-parts v =
    soon-parts (Step (length v.tasks))
    (record {
      queue = v.queue;
      futures = v.futures ++ record { kind = OfTask (length v.tasks); outcome = None; callbacks = [] } ∷ [];
      tasks = v.tasks ++ record { future = length v.futures; waiter = None; cancels = 0; must_cancel = false } ∷ [];
    })

pub callback_appends : (id : ℕ) (action : Action) (futures : List Future) (q : queue.Queue)
    → Appended q (soon_if_done id action futures q)
callback_appends id action futures q = at (slice_get futures id)
  where
    until : (x : Option Outcome) → Appended q (soon_until x action q)
    until (Some done) = (action ∷ [], refl)
    until None = ([], refl)

    at : (o : Option Future) → Appended q (soon_at o action q)
    at None = ([], refl)
    at (Some future) = until future.outcome

pub task_made : (v w : Awaitables) (task future : ℕ) → task ≡ length v.tasks → future ≡ length v.futures
    → w.queue ≡ queue.soon (Step task) v.queue
    → w.futures ≡ v.futures ++ record { kind = OfTask task; outcome = None; callbacks = [] } ∷ []
    → w.tasks ≡ v.tasks ++ record { future = future; waiter = None; cancels = 0; must_cancel = false } ∷ []
    → parts w ≡ spawn (parts v)
task_made v w task future n m q f t = rw (q, f, t, n, m) (sym (spawn-parts v))
