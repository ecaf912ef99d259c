-- What changes of trees leave of the loop's parts in code: they append handles behind the bar, and change futures.
use Rattle.std.specs.Prelude.{◌≡◌}
use Rattle.aio_task.specs.View.{View}

pub record StaysBeside (old new : View) : Type 0 where
  pub frame : new ≡ record old { queue = new.queue; futures = new.futures }
  pub below : new.queue.below ≡ old.queue.below
