-- A task that is done, and what happens of it: nothing.
use Rattle.std.specs.Prelude.{◌≡◌, ℕ, ◌<◌, ◌==◌, Bool, false, List, ◌++◌}
use Rattle.std.specs.List.{list_any}
use Rattle.model_wire.specs.declared.event.Event.TheVariants as event
use Rattle.model_wire.specs.Event.{Event}
use Rattle.model_loop.specs.Parts.{Parts}
use Rattle.model_loop.specs.Tasks.{lives, next_task}
use Rattle.model_loop.specs.Ways.{steps}
use Rattle.model_machine.specs.State.{State}

-- a task that was made, and lives no more
pub record IsDone (p : Parts) (task : ℕ) : Type 0 where
  pub made : task < next_task p
  pub over : lives p task ≡ false

-- whether an event is of the task: what it says, and its steps and wakeups as they run
abbrev pub is_of : (task : ℕ) → Event → Bool
is_of task (event.Said other text) = other == task
is_of task (event.Ran it) = steps task it
is_of task _ = false

-- events go on, and none that came is of the task
abbrev pub GoesOnWithout : (task : ℕ) → (old new : List Event) → Type 0
GoesOnWithout task old new = (more : List Event) × (new ≡ old ++ more) × (list_any (is_of task) more ≡ false)

-- Of each task that is done in `s`: it is done in `t` too, and no event from `s` to `t` is of it.
pub record LeavesDone {S : Type 0} (s t : State S) : Type 0 where
  pub stays : (task : ℕ) → IsDone s.loop.parts task → IsDone t.loop.parts task
  pub events : (task : ℕ) → IsDone s.loop.parts task → GoesOnWithout task s.events t.events
