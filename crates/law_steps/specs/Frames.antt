-- What the laws need of a step: whom it excuses, what it takes out, which futures it may end.
use Rattle.std.specs.Prelude.{◌≡◌, ℕ, Bool, true, false, List, Option}
use Rattle.model_value.specs.Action.{Action}
use Rattle.model_value.specs.declared.action.Action.TheVariants.{Step, StepInCycle, Wakeup, GroupDone}
use Rattle.model_loop.specs.Parts.{Handle, Parts}
use Rattle.model_loop.specs.Tasks.{future_of, waiter_of}
use Rattle.model_loop.specs.Totals.{IsAtHome}
use Rattle.model_loop.specs.Ways.{is_running, steps}

-- the running task is excused
abbrev pub Covers : (running excused : Option ℕ) → Type 0
Covers running excused = (task : ℕ) → is_running running task ≡ true → is_running excused task ≡ true

-- the handles that are left after one was taken out
abbrev pub taken : List Handle → Parts → Parts
taken rest p = record p { pending = rest }

-- no task's own future
abbrev pub IsNoTask : Parts → ℕ → Type 0
IsNoTask p id = (task : ℕ) → (id ≡ future_of p task) → ⊥

-- a wakeup is registered on what its task waits for alone
abbrev pub IsOnWaiter : Parts → Type 0
IsOnWaiter p = (task : ℕ) → IsAtHome p (steps task) (waiter_of p task)

-- The actions that step a task or tell a group of one. Steps of the loop that add or take out others look the same to
-- tasks and groups.
abbrev pub is_followed : Action → Bool
is_followed (Step task) = true
is_followed (StepInCycle task cycle) = true
is_followed (Wakeup task) = true
is_followed (GroupDone group task) = true
is_followed _ = false

-- a test that no other action passes
abbrev pub Follows : (Action → Bool) → Type 0
Follows test = (action : Action) → is_followed action ≡ false → test action ≡ false
