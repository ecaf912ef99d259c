-- One way on: a task that lives is stepped once more, and by one thing alone. It has one step pending, or one wakeup
-- pending or registered on what it waits for; while it is running it has neither. A task that is done has none either.
use Rattle.std.specs.Prelude.{◌≡◌, ℕ, ◌+◌, ◌<◌, Bool, true, false, not, ◌&&◌, ◌==◌, List, Option, Some, None}
use Rattle.std.specs.List.{count_by, sum_by}
use Rattle.model_value.specs.Action.{Action}
use Rattle.model_value.specs.declared.action.Action.TheVariants.{Step, StepInCycle, Wakeup}
use Rattle.model_loop.specs.Parts.{Handle, Timer, Future, Parts}
use Rattle.model_loop.specs.Futures.{is_pending}
use Rattle.model_loop.specs.Tasks.{lives, waiter_of}
use Rattle.model_loop.specs.Totals.{pending_where, callbacks_of, registered_at, total, IsAtHome}

-- whether an action steps the task without its waiting for anything
abbrev pub resumes : ℕ → Action → Bool
resumes task (Step other) = other == task
resumes task (StepInCycle other cycle) = other == task
resumes task _ = false

-- whether it steps the task after what it waits for
abbrev pub wakes : ℕ → Action → Bool
wakes task (Wakeup other) = other == task
wakes task _ = false

-- whether it is a step of the task
abbrev pub steps : ℕ → Action → Bool
steps task (Step other) = other == task
steps task (StepInCycle other cycle) = other == task
steps task (Wakeup other) = other == task
steps task _ = false

-- how many of these pending handles step the task; a dead one does nothing
abbrev pub steps_among : ℕ → List Handle → ℕ
steps_among task = pending_where (steps task)

-- how often a step of the task is registered on a future, and on what the task waits for
abbrev pub wakeups_on : Parts → (task on : ℕ) → ℕ
wakeups_on p task on = count_by (steps task) (callbacks_of p on)

abbrev pub wakeups_at : Parts → ℕ → Option ℕ → ℕ
wakeups_at p task = registered_at p (steps task)

-- how many ways lead on to a step of the task: the home of its wakeup is what it waits for
abbrev pub ways : Parts → ℕ → ℕ
ways p task = total p (steps task) (waiter_of p task)

abbrev pub is_running : Option ℕ → ℕ → Bool
is_running None task = false
is_running (Some running) task = running == task

abbrev pub one_if : Bool → ℕ
one_if true = 1
one_if false = 0

-- a task that lives has one way on, but for the one that is running
abbrev pub wanted : Option ℕ → Parts → ℕ → ℕ
wanted running p task = one_if (lives p task && not (is_running running task))

-- while this task is running, or none
pub record HasOneWay (running : Option ℕ) (p : Parts) : Type 0 where
  pub one : (task : ℕ) → ways p task ≡ wanted running p task
  -- a wakeup is registered on what the task waits for, and stays there while that is pending
  pub on_waiter : (task : ℕ) → IsAtHome p (steps task) (waiter_of p task)
  pub stays : (task on : ℕ) → lives p task ≡ true → waiter_of p task ≡ Some on → is_pending p on ≡ true
      → wakeups_on p task on ≡ 1

-- A task whose step is pending waits for nothing, and one whose wakeup is pending waits for a future that is done.
pub record IsReady (p : Parts) : Type 0 where
  pub free : (task : ℕ) → 0 < pending_where (resumes task) p.pending → waiter_of p task ≡ None
  pub woken : (task : ℕ) → 0 < pending_where (wakes task) p.pending
      → (on : ℕ) × (waiter_of p task ≡ Some on) × (is_pending p on ≡ false)

-- ---- the same counted over all futures, which follows
abbrev pub wakeups : Parts → ℕ → ℕ
wakeups p task = sum_by (λ (future : Future). count_by (steps task) future.callbacks) p.futures

abbrev pub ways_on : Parts → ℕ → ℕ
ways_on p task = steps_among task p.pending + wakeups p task

pub record HasOneWayOn (running : Option ℕ) (p : Parts) : Type 0 where
  pub living : (task : ℕ) → lives p task ≡ true → is_running running task ≡ false → ways_on p task ≡ 1
  pub in_step : (task : ℕ) → is_running running task ≡ true → ways_on p task ≡ 0
  pub done : (task : ℕ) → lives p task ≡ false → ways_on p task ≡ 0
  pub on_waiter : (task on : ℕ) → 0 < wakeups_on p task on → waiter_of p task ≡ Some on
  pub stays : (task on : ℕ) → lives p task ≡ true → waiter_of p task ≡ Some on → is_pending p on ≡ true
      → wakeups_on p task on ≡ 1
  -- no timer steps a task
  pub timers : (task : ℕ) → count_by (λ (timer : Timer). steps task timer.action) p.timers ≡ 0
