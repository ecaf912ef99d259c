-- What a cancel request does at a future, row by row. `cancel_with` is the function that does it.
-- Source: `futures.py`, `Future.cancel`; `tasks.py`, `Task.cancel` and `_GatheringFuture.cancel`.
use Rattle.std.specs.Prelude.{◌≡◌, ℕ, Bool, true, false, List, [], ◌∷◌, ◌++◌, ◌||◌, Option, Some, None, slice_get}
use Rattle.model_value.specs.declared.outcome.Outcome.TheVariants.{Cancelled}
use Rattle.model_loop.specs.Parts.{Plain, OfTask, Many, FutureKind, Future, Task, Parts}
use Rattle.model_loop.specs.Futures.{is_pending, made_before, settle}
use Rattle.model_loop.specs.Tasks.{raise_count}
use Rattle.model_loop.specs.Cancel.{CancelRequest, answers, has_seen, keep_asked, or_must_cancel}

-- a pending future of this kind
pub record IsPendingAs (p : Parts) (id : ℕ) (kind : FutureKind) : Type 0 where
  pub future : Future
  pub found : slice_get p.futures id ≡ Some future
  pub pending : future.outcome ≡ None
  pub kind_is : future.kind ≡ kind

mutual
  -- a request that has visited the tasks `seen` comes to the future `id`
  pub data Cancels : (id : ℕ) (seen : List ℕ) → Parts → CancelRequest → Type 0 where
    -- one that is done, or none, stays as it is
    done : {id : ℕ} {seen : List ℕ} {p : Parts} → is_pending p id ≡ false → Cancels id seen p (answers false seen p)
    plain : {id : ℕ} {seen : List ℕ} {p : Parts} → IsPendingAs p id Plain
        → Cancels id seen p (answers true seen (settle id Cancelled p))
    -- one that stands for several hands the request on to each, and keeps that one of them answered true
    many : {id : ℕ} {seen : List ℕ} {p : Parts} {members : List ℕ} {asked : Bool} {request : CancelRequest}
        → IsPendingAs p id (Many members asked) → CancelsEach (made_before id members) seen p request
        → Cancels id seen p (keep_asked id request)
    -- a task that was visited answers true
    visited : {id : ℕ} {seen : List ℕ} {p : Parts} {task : ℕ} → IsPendingAs p id (OfTask task) → has_seen seen task ≡ true
        → Cancels id seen p (answers true seen p)
    -- another one counts the request, which goes on to what it waits for; where that can't be cancelled, the task must cancel
    task : {id : ℕ} {seen : List ℕ} {p : Parts} {task : ℕ} {it : Task} {request : CancelRequest} → IsPendingAs p id (OfTask task)
        → has_seen seen task ≡ false → slice_get p.tasks task ≡ Some it
        → CancelsWaiter it.waiter (seen ++ task ∷ []) (raise_count task p) request
        → Cancels id seen p (or_must_cancel task request)
    -- a future whose task there is not, which no run has
    no_task : {id : ℕ} {seen : List ℕ} {p : Parts} {task : ℕ} → IsPendingAs p id (OfTask task)
        → has_seen seen task ≡ false → slice_get p.tasks task ≡ None → Cancels id seen p (answers true seen p)

  -- futures in order; true where one of them answered true
  pub data CancelsEach : (ids seen : List ℕ) → Parts → CancelRequest → Type 0 where
    none : {seen : List ℕ} {p : Parts} → CancelsEach [] seen p (answers false seen p)
    each : {id : ℕ} {ids seen : List ℕ} {p : Parts} {first others : CancelRequest} → Cancels id seen p first
        → CancelsEach ids first.seen first.parts others
        → CancelsEach (id ∷ ids) seen p (record others { answer = first.answer || others.answer })

  -- what a task waits for, if it waits
  pub data CancelsWaiter : Option ℕ → (seen : List ℕ) → Parts → CancelRequest → Type 0 where
    waits_not : {seen : List ℕ} {p : Parts} → CancelsWaiter None seen p (answers false seen p)
    waits : {on : ℕ} {seen : List ℕ} {p : Parts} {request : CancelRequest} → Cancels on seen p request
        → CancelsWaiter (Some on) seen p request
