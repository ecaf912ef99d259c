-- The loop's parts between two callbacks.
use Rattle.std.specs.Prelude.{◌≡◌, None}
use Rattle.aio_task.specs.View.{View}

-- no step is called, and no task runs
pub record IsStill (v : View) : Type 0 where
  pub called : v.called ≡ None
  pub running : v.running ≡ None
