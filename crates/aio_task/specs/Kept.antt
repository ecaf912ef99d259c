-- What the type of the parts keeps: one way on for each task, no cycle of waits, must_cancel only where it may stand; steps
-- and wakeups are out of reach of whoever cancels handles and timers; and a request has the room that it needs.
use Rattle.std.specs.Prelude.{◌≡◌, ℕ, Bool, true, false, ◌&&◌, ◌∷◌, Option, Some, None}
use Rattle.std.specs.List.{list_any}
use Rattle.std.specs.Option.{option_map}
use Rattle.model_value.specs.Action.{Action}
use Rattle.model_loop.specs.Parts.{Timer, Parts}
use Rattle.model_loop.specs.Sound.{HasNoCycle, ArePartsSound}
use Rattle.aio_ready.specs.declared.handle.Handle.{Handle}
use Rattle.aio_ready.specs.declared.handle.HandleName.{HandleName}
use Rattle.aio_ready.specs.declared.handle.HandleName.TheVariants as name
use Rattle.aio_timer.specs.Schedule.{Schedule}
use Rattle.aio_cancel.specs.Awaitables as cancel
use Rattle.aio_cancel.specs.Awaitables.{waiting}
use Rattle.aio_cancel.specs.Noted.{Noted}
use Rattle.aio_cancel.specs.Room as walk
use Rattle.aio_cancel.specs.Seen.{Marked, Stacked}
use Rattle.aio_task.specs.declared.running.Running.{Running}
use Rattle.aio_task.specs.Bare.{bare}
use Rattle.aio_task.specs.View.{View, body, parts, stepped, is_step}

-- with a handle of an action before all others
abbrev pub with_first : Action → Parts → Parts
with_first action p = record p { pending = record { stamp = 0; tag = 0; action = action; dead = false } ∷ p.pending }

-- Tasks and futures are sound, while a task is running, or none. Where a task's step was taken from the queue and hasn't
-- begun, they are with its handle put back.
abbrev pub AreSound : (running called : Option ℕ) → Parts → Type 0
AreSound running None p = ArePartsSound running running (bare p)
AreSound running (Some task) p =
    (action : Action) × (stepped action ≡ Some task) × ArePartsSound running running (bare (with_first action p))

abbrev pub is_timer : HandleName → Bool
is_timer name.Nameless = false
is_timer (name.Given number) = false
is_timer (name.Timer number) = true

-- a handle that a timer fell due as, and that steps a task
abbrev pub steps_as_timer : Handle → Bool
steps_as_timer handle = is_timer handle.name && is_step handle.action

abbrev pub steps_later : Timer → Bool
steps_later timer = is_step timer.action

pub record IsKept (v : View) : Type 0 where
  pub no_cycle : HasNoCycle (parts v)
  pub sound : AreSound v.running v.called (parts v)
  -- no timer steps a task, and no handle does that a timer fell due as
  pub timers : list_any steps_later v.schedule.live ≡ false
  pub fallen : list_any steps_as_timer (waiting v.queue) ≡ false

-- with the room that a request needs
abbrev pub HasRoom : View → Stacked → Marked → Noted → Type 0
HasRoom v = walk.HasRoom (body v)

-- what is seen of the fields
abbrev pub view_of : (time profile : ℕ) → cancel.Awaitables → Schedule → Option Running → Option ℕ → View
view_of time profile body timers running called = record {
  time = time;
  profile = profile;
  queue = body.queue;
  schedule = timers;
  futures = body.futures;
  tasks = body.tasks;
  running = option_map (λ (it : Running). it.task) running;
  called = called;
}
