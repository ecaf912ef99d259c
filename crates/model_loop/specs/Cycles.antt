-- Waiting in a cycle. Source: `tasks.py`, `__step_run_and_handle_result`, which refuses an await of the task itself; that
-- an await which leads back to the task is refused as well is this loop's own rule.
use Rattle.std.specs.Prelude.{◌≡◌, ℕ, zero, suc, Bool, true, false, ◌||◌, ◌==◌, List, [], Option, Some, None, codes, length, slice_get, if◌then◌else◌}
use Rattle.std.specs.List.{list_any}
use Rattle.std.specs.Option.{option_to_list}
use Rattle.model_value.specs.declared.kind.Kind.TheVariants.{RuntimeError}
use Rattle.model_value.specs.Action.{CycleKind}
use Rattle.model_value.specs.declared.action.CycleKind.TheVariants.{Itself, ItsWaiter}
use Rattle.model_value.specs.Value.{Exc, exception_of}
use Rattle.model_loop.specs.Parts.{Plain, OfTask, Many, Parts}
use Rattle.model_loop.specs.Futures.{made_before}
use Rattle.model_loop.specs.Tasks.{future_of, waiter_of}

-- What a future passes to: a pending task to what it waits for, and a pending one that stands for several to its members.
-- A done one passes nowhere.
abbrev pub passes : Parts → ℕ → List ℕ
passes p id =
    elim (slice_get p.futures id) [
      | None ↦ []
      | Some future ↦ elim future.outcome [
        | Some outcome ↦ []
        | None ↦ elim future.kind [
          | Plain ↦ []
          | OfTask task ↦ option_to_list (waiter_of p task)
          | Many members asked ↦ made_before id members
        ]
      ]
    ]

abbrev pub PassesTo : Parts → ℕ → ℕ → Type 0
PassesTo p from to = list_any (λ next. next == to) (passes p from) ≡ true

-- One future leads to another by one pass or more.
pub data Leads (p : Parts) : ℕ → ℕ → Type 0 where
  at_once : {from to : ℕ} → PassesTo p from to → Leads p from to
  through : {from to : ℕ} (next : ℕ) → PassesTo p from next → Leads p next to → Leads p from to

-- the same by so many passes at most, as a test
abbrev pub leads_within : ℕ → Parts → (from to : ℕ) → Bool
leads_within zero p from to = false
leads_within (suc count) p from to = list_any (λ next. (next == to) || leads_within count p next to) (passes p from)

-- A way that comes to no future twice has no more passes than there are futures.
abbrev pub leads : Parts → (from to : ℕ) → Bool
leads p from to = leads_within (length p.futures) p from to

-- why a task can't wait for a future, if it can't
abbrev pub cycle : Parts → (task on : ℕ) → Option CycleKind
cycle p task on =
    if on == future_of p task then Some Itself else (if leads p on (future_of p task) then Some ItsWaiter else None)

-- what is then thrown into the task
abbrev pub cycle_exception : CycleKind → Exc
cycle_exception Itself = exception_of RuntimeError (codes "Task cannot await on itself")
cycle_exception ItsWaiter = exception_of RuntimeError (codes "Task cannot await a task that waits for it")
