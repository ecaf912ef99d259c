-- How parts go on: what was made stays, and so does how it ended.
use Rattle.std.specs.Prelude.{◌≡◌, ℕ, ◌<◌, ◌≤◌, Some}
use Rattle.model_value.specs.declared.outcome.Outcome.TheVariants.{Failed}
use Rattle.model_value.specs.Value.{Exc}
use Rattle.model_loop.specs.Parts.{Parts}
use Rattle.model_loop.specs.Futures.{future_outcome, next_future}
use Rattle.model_loop.specs.Owning.{owner_of}
use Rattle.model_loop.specs.Tasks.{future_of, next_task}
use Rattle.aio_task.specs.View.{View, parts}

pub record PartsGoOn (p q : Parts) : Type 0 where
  pub tasks : next_task p ≤ next_task q
  pub futures : next_future p ≤ next_future q
  -- a task keeps its own future, and a future its owner
  pub own : (task : ℕ) → task < next_task p → future_of q task ≡ future_of p task
  pub owners : (id : ℕ) → id < next_future p → owner_of q id ≡ owner_of p id
  pub failures : (id : ℕ) (fault : Exc) → future_outcome p id ≡ Some (Failed fault)
      → future_outcome q id ≡ Some (Failed fault)

-- A view goes on so, and its time, its timers and its running task stay.
pub record Moves (v w : View) : Type 0 where
  pub goes_on : PartsGoOn (parts v) (parts w)
  pub frame : w ≡ record v { queue = w.queue; futures = w.futures; tasks = w.tasks }
