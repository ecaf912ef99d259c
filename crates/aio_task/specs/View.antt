-- The loop's parts in code, as contracts see them: the time and the profile, the queue, the timers, the futures and the
-- tasks, and whose step is going on.
use Rattle.std.specs.Prelude.{◌≡◌, ℕ, Bool, false, not, ◌&&◌, List, [], Option, Some, None}
use Rattle.std.specs.List.{list_any}
use Rattle.model_value.specs.Action.{Action, CycleKind}
use Rattle.model_value.specs.declared.action.Action.TheVariants.{Step, StepInCycle, Wakeup}
use Rattle.model_loop.specs.Parts.{Future, Task, Parts}
use Rattle.aio_ready.specs.declared.handle.Handle.{Handle}
use Rattle.aio_ready.specs.declared.handle.HandleName.{HandleName}
use Rattle.aio_ready.specs.Names.{is_same}
use Rattle.aio_ready.specs.Queue.{Queue, no_handles}
use Rattle.aio_timer.specs.Schedule.{Schedule, no_timers}
use Rattle.aio_future.specs.Awaited as future
use Rattle.aio_cancel.specs.Awaitables as cancel
use Rattle.aio_cancel.specs.Awaitables.{waiting}
use Rattle.aio_task.specs.declared.suspension.Suspension.{Suspension}
use Rattle.aio_task.specs.declared.suspension.Suspension.TheVariants.{Suspended, Cycle}

-- `running` is the task whose step has begun and hasn't ended. `called` is the task whose step, or wakeup, was taken from
-- the queue and hasn't begun: it counts as the running one.
pub record View : Type 0 where
  pub time : ℕ
  pub profile : ℕ
  pub queue : Queue
  pub schedule : Schedule
  pub futures : List Future
  pub tasks : List Task
  pub running : Option ℕ
  pub called : Option ℕ

-- what a request changes
abbrev pub body : View → cancel.Awaitables
body v = record { queue = v.queue; futures = v.futures; tasks = v.tasks }

-- The parts as the definitions have them, without time and timers. Handles are stamped and named by their places.
abbrev pub parts : View → Parts
parts v = cancel.parts (body v)

-- the task that an action steps
abbrev pub stepped : Action → Option ℕ
stepped (Step task) = Some task
stepped (StepInCycle task cycle) = Some task
stepped (Wakeup task) = Some task
stepped _ = None

abbrev pub stepped_at : Option Action → Option ℕ
stepped_at None = None
stepped_at (Some action) = stepped action

-- whether an action is a step or a wakeup of a task
abbrev pub is_step : Action → Bool
is_step = future.is_step

-- whether a handle has a name, and is a step or a wakeup that isn't dead
abbrev pub steps_as : HandleName → Handle → Bool
steps_as name handle = is_same name handle.name && (not handle.dead && is_step handle.action)

-- no handle of this name is a step or a wakeup, but for dead ones
abbrev pub NamesNoStep : HandleName → Queue → Type 0
NamesNoStep name q = list_any (steps_as name) (waiting q) ≡ false

-- what became of an await
abbrev pub suspension_of : Option CycleKind → Suspension
suspension_of None = Suspended
suspension_of (Some cycle) = Cycle

-- nothing has happened
abbrev pub empty : ℕ → View
empty profile = record {
  time = 0;
  profile = profile;
  queue = no_handles;
  schedule = no_timers;
  futures = [];
  tasks = [];
  running = None;
  called = None;
}
