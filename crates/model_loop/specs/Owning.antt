-- Futures and whose they are: each task has its own future, and each task's future its task. What is called when a future
-- is done wakes a task, tells a group, notes that main is done, sees to the connection of a handler that is done, or is a
-- handle of what is added to the loop's own requests; a future that is done has been called for.
use Rattle.std.specs.Prelude.{◌≡◌, ◌↔◌, ℕ, Bool, true, false, not, [], Option, Some, None, option_map, slice_get}
use Rattle.std.specs.List.{count_by}
use Rattle.model_value.specs.Action.{Action}
use Rattle.model_value.specs.declared.action.Action.TheVariants.{Wakeup, GroupDone, MainDone, HandlerDone, Extra}
use Rattle.model_loop.specs.Parts.{FutureKind, Plain, OfTask, Future, Task, Parts}
use Rattle.model_loop.specs.Futures.{is_pending}
use Rattle.model_loop.specs.Totals.{callbacks_of}

abbrev pub owner_in : FutureKind → Option ℕ
owner_in (OfTask task) = Some task
owner_in _ = None

abbrev pub owner_at : Option Future → Option ℕ
owner_at None = None
owner_at (Some future) = owner_in future.kind

-- the task whose own future this is
abbrev pub owner_of : Parts → ℕ → Option ℕ
owner_of p id = owner_at (slice_get p.futures id)

-- the own future of a task that there is
abbrev pub own_future : Parts → ℕ → Option ℕ
own_future p task = option_map (λ (it : Task). it.future) (slice_get p.tasks task)

abbrev pub OwnsFutures : Parts → Type 0
OwnsFutures p = (id task : ℕ) → (owner_of p id ≡ Some task) ↔ (own_future p task ≡ Some id)

abbrev pub AreSettled : Parts → Type 0
AreSettled p = (id : ℕ) → is_pending p id ≡ false → callbacks_of p id ≡ []

abbrev pub is_callback : Action → Bool
is_callback (Wakeup task) = true
is_callback (GroupDone group task) = true
is_callback MainDone = true
is_callback (HandlerDone conn task) = true
is_callback (Extra key) = true
is_callback _ = false

abbrev pub is_main_done : Action → Bool
is_main_done MainDone = true
is_main_done _ = false

abbrev pub is_no_callback : Action → Bool
is_no_callback action = not (is_callback action)

abbrev pub AreCallbacks : Parts → Type 0
AreCallbacks p = (id : ℕ) → count_by is_no_callback (callbacks_of p id) ≡ 0

-- whether there is a future of this number that is no task's and stands for no others
abbrev pub is_plain : Parts → ℕ → Bool
is_plain p id =
    elim (slice_get p.futures id) [
      | None ↦ false
      | Some future ↦ elim future.kind [ Plain ↦ true | _ ↦ false ]
    ]
