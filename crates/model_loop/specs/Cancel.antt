-- Cancel requests. Source: `futures.py`, `Future.cancel`; `tasks.py`, `Task.cancel` and `_GatheringFuture.cancel`.
use Rattle.std.specs.Prelude.{ℕ, zero, suc, Bool, true, false, ◌||◌, List, [], ◌∷◌, ◌++◌, Some, None, length, nat_eq, slice_get, if◌then◌else◌}
use Rattle.std.specs.List.{list_any}
use Rattle.model_value.specs.declared.outcome.Outcome.TheVariants.{Cancelled}
use Rattle.model_loop.specs.Parts.{Plain, OfTask, Many, Parts}
use Rattle.model_loop.specs.Futures.{made_before, settle, mark_asked}
use Rattle.model_loop.specs.Tasks.{set_must_cancel, raise_count}

-- a request as it goes: the parts, the tasks that it visited, in order, and the last answer
pub record CancelRequest : Type 0 where
  pub parts : Parts
  pub seen : List ℕ
  pub answer : Bool

-- what cancels the future of a number for a request that has visited these tasks
abbrev pub Canceller : Type 0
Canceller = ℕ → List ℕ → Parts → CancelRequest

abbrev pub answers : Bool → List ℕ → Parts → CancelRequest
answers answer seen p = record { parts = p; seen = seen; answer = answer }

abbrev pub has_seen : List ℕ → ℕ → Bool
has_seen seen task = list_any (nat_eq task) seen

-- Futures in order, the next with the tasks that were visited so far; true where one of them answered true.
abbrev pub cancel_each : Canceller → List ℕ → List ℕ → Parts → CancelRequest
cancel_each cancel [] seen p = answers false seen p
cancel_each cancel (id ∷ ids) seen p =
    let first = cancel id seen p in
    let others = cancel_each cancel ids first.seen first.parts in
    record others { answer = first.answer || others.answer }

-- where a member answered true, the future that stands for it keeps that it was asked
abbrev pub keep_asked : ℕ → CancelRequest → CancelRequest
keep_asked id request = if request.answer then record request { parts = mark_asked id request.parts } else request

-- where what the task waits for can't be cancelled, the cancel waits for the task's next step
abbrev pub or_must_cancel : ℕ → CancelRequest → CancelRequest
or_must_cancel task request =
    if request.answer then request else record request { parts = set_must_cancel task request.parts; answer = true }

-- `Task.cancel`: a task that the request comes to first counts it, and the cancel goes on to what it waits for
abbrev pub cancel_task : (waiter : Canceller) → Canceller
cancel_task waiter id seen p =
    elim (has_seen seen id) [
      | true ↦ answers true seen p
      | false ↦ elim (slice_get p.tasks id) [
        | None ↦ answers true seen p
        | Some task ↦
            let visited = seen ++ id ∷ [] in
            let counted = raise_count id p in
            or_must_cancel id (elim task.waiter [ None ↦ answers false visited counted | Some on ↦ waiter on visited counted ])
      ]
    ]

-- `Future.cancel`: a done one stays as it is. `member` cancels members, and `waiter` what a task waits for.
abbrev pub cancel_by : (member waiter : Canceller) → Canceller
cancel_by member waiter id seen p =
    elim (slice_get p.futures id) [
      | None ↦ answers false seen p
      | Some future ↦ elim future.outcome [
        | Some outcome ↦ answers false seen p
        | None ↦ elim future.kind [
          | Plain ↦ answers true seen (settle id Cancelled p)
          | OfTask task ↦ cancel_task waiter task seen p
          | Many members asked ↦ keep_asked id (cancel_each member (made_before id members) seen p)
        ]
      ]
    ]

-- of a future whose number is below a bound
abbrev pub cancel_below : ℕ → (waiter : Canceller) → Canceller
cancel_below zero waiter id seen p = answers false seen p
cancel_below (suc bound) waiter id seen p = cancel_by (cancel_below bound waiter) waiter id seen p

-- of a request that may come to fewer tasks than so many
abbrev pub cancel_within : ℕ → Canceller
cancel_within zero id seen p = answers false seen p
cancel_within (suc tasks) id seen p = cancel_below (suc id) (cancel_within tasks) id seen p

-- A future for a request that has visited these tasks. Members have smaller numbers, and each further task is a new one,
-- so neither bound is reached: `cancel_with` is `cancel_by cancel_with cancel_with`.
abbrev pub cancel_with : Canceller
cancel_with id seen p = cancel_within (suc (length p.tasks)) id seen p

-- A request to cancel a future. It visits each task once: a task that waits for itself through others is answered true
-- where the request comes back to it.
abbrev pub cancel : ℕ → Parts → CancelRequest
cancel id p = cancel_with id [] p
