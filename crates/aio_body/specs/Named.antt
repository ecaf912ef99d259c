-- What values name among the futures that `future()` made, and the tasks.
use Rattle.std.specs.Prelude.{ℕ, List, Option, Some, None, slice_get}
use Rattle.model_value.specs.Value.{Value, Fut, Task}
use Rattle.model_loop.specs.Parts.{Parts}
use Rattle.model_loop.specs.Tasks.{future_of}

abbrev pub future_in : List ℕ → Value → Option ℕ
future_in futures (Fut id) = slice_get futures id
future_in futures _ = None

-- such a future, or a task's own
abbrev pub awaited_in : List ℕ → Parts → Value → Option ℕ
awaited_in futures p (Fut id) = slice_get futures id
awaited_in futures p (Task id) = Some (future_of p id)
awaited_in futures p _ = None
