-- Callbacks are appended to what is pending.
use Rattle.std.specs.Prelude.{◌≡◌, List}
use Rattle.model_value.specs.Action.{Action}
use Rattle.aio_ready.specs.Queue as queue
use Rattle.aio_task.specs.View.{View}

-- these, in order, and nothing else changes
abbrev pub Appends : List Action → (old new : View) → Type 0
Appends actions old new = new ≡ record old { queue = queue.soon_all actions old.queue }
