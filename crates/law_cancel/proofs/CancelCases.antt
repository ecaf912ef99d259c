-- A cancel request at a future, a function for each case that it splits: `cancel_by` is `cancel_at` at what is found, by
-- computing alone. Proofs go along them.
use Rattle.std.specs.Prelude.{ℕ, Bool, true, false, if◌then◌else◌, List, [], ◌∷◌, ◌++◌, Option, Some, None, slice_get}
use Rattle.model_value.specs.declared.outcome.Outcome.TheVariants.{Cancelled}
use Rattle.model_value.specs.Value.{Outcome}
use Rattle.model_loop.specs.Parts.{FutureKind, Plain, OfTask, Many, Future, Task, Parts}
use Rattle.model_loop.specs.Futures.{made_before, settle, mark_asked}
use Rattle.model_loop.specs.Tasks.{set_must_cancel, raise_count}
use Rattle.model_loop.specs.Cancel.{CancelRequest, Canceller, answers, has_seen, cancel_each, keep_asked, or_must_cancel}

-- `keep_asked` by the answer
abbrev pub asked_where : Bool → ℕ → CancelRequest → CancelRequest
asked_where answer id request = if answer then record request { parts = mark_asked id request.parts } else request

-- `or_must_cancel` by the answer
abbrev pub must_cancel_unless : Bool → ℕ → CancelRequest → CancelRequest
must_cancel_unless answer task request =
    if answer then request else record request { parts = set_must_cancel task request.parts; answer = true }

-- `cancel_task`: by what the task waits for, by the task, and by whether it was visited
abbrev pub cancel_waiter : Canceller → ℕ → Option ℕ → List ℕ → Parts → CancelRequest
cancel_waiter cancel task waiter seen p =
    or_must_cancel task (elim waiter [ None ↦ answers false seen p | Some on ↦ cancel on seen p ])

abbrev pub cancel_unseen : Canceller → ℕ → Option Task → List ℕ → Parts → CancelRequest
cancel_unseen cancel id found seen p =
    elim found [
      | None ↦ answers true seen p
      | Some task ↦ cancel_waiter cancel id task.waiter (seen ++ id ∷ []) (raise_count id p)
    ]

abbrev pub cancel_task_where : Canceller → Bool → ℕ → List ℕ → Parts → CancelRequest
cancel_task_where cancel visited id seen p =
    elim visited [ true ↦ answers true seen p | false ↦ cancel_unseen cancel id (slice_get p.tasks id) seen p ]

-- `cancel_by`: by the kind, by the outcome, and by the future
abbrev pub cancel_kind : (member waiter : Canceller) → FutureKind → Canceller
cancel_kind member waiter kind id seen p =
    elim kind [
      | Plain ↦ answers true seen (settle id Cancelled p)
      | OfTask task ↦ cancel_task_where waiter (has_seen seen task) task seen p
      | Many members asked ↦ keep_asked id (cancel_each member (made_before id members) seen p)
    ]

abbrev pub cancel_until : (member waiter : Canceller) → Option Outcome → FutureKind → Canceller
cancel_until member waiter outcome kind id seen p =
    elim outcome [ Some done ↦ answers false seen p | None ↦ cancel_kind member waiter kind id seen p ]

abbrev pub cancel_at : (member waiter : Canceller) → Option Future → Canceller
cancel_at member waiter found id seen p =
    elim found [
      | None ↦ answers false seen p
      | Some future ↦ cancel_until member waiter future.outcome future.kind id seen p
    ]
