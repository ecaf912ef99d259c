-- A task's step ends with the await of a future that isn't done. Source: `tasks.py`, `__step_run_and_handle_result`.
use Rattle.std.specs.Prelude.{ℕ, Bool, true, false, Some, None, if◌then◌else◌}
use Rattle.model_value.specs.declared.action.Action.TheVariants.{StepInCycle, Wakeup}
use Rattle.model_loop.specs.Parts.{Parts}
use Rattle.model_loop.specs.Handles.{soon}
use Rattle.model_loop.specs.Futures.{register}
use Rattle.model_loop.specs.Tasks.{set_waiter, clear_must_cancel, must_cancel_of}
use Rattle.model_loop.specs.Cycles.{cycle}
use Rattle.model_loop.specs.Ledger.{Booked, unbooked, request, ByWait}

-- the task is woken when the future is done
abbrev pub wait_on : ℕ → ℕ → Parts → Parts
wait_on task on p = set_waiter task (Some on) (register on (Wakeup task) p)

-- A task that asked for its own cancel, or was asked by what it ran, cancels what it waits for; where that can't be
-- cancelled, the cancel goes on waiting for the next step:
--
--     cancel(me)
--     yield from sleep(10)
abbrev pub cancel_wait : Bool → ℕ → ℕ → Parts → Booked
cancel_wait false task on p = unbooked p
cancel_wait true task on p =
    let asked = request (ByWait task) on p in
    record (asked.booked) { parts = if asked.answer then clear_must_cancel task asked.booked.parts else asked.booked.parts }

-- A task awaits a pending future. An await in a cycle is refused by a step that throws.
abbrev pub suspend : ℕ → ℕ → Parts → Booked
suspend task on p =
    elim (cycle p task on) [
      | Some cycle ↦ unbooked (soon (StepInCycle task cycle) p)
      | None ↦ cancel_wait (must_cancel_of p task) task on (wait_on task on p)
    ]
