-- With what a walk over futures begins: nothing is left to do, nothing is marked or noted, and there is room for all that
-- it may come to.
use Rattle.std.specs.Prelude.{◌≡◌, ◌≤◌, [], length}
use Rattle.algorithm_parts.specs.Open.{room_of}
use Rattle.aio_cancel.specs.Awaitables.{Awaitables, parts}
use Rattle.aio_cancel.specs.Noted.{Noted, HasNoNotes}
use Rattle.aio_cancel.specs.Seen.{Marked, Stacked}

pub record HasRoom (body : Awaitables) (stack : Stacked) (seen : Marked) (notes : Noted) : Type 0 where
  pub empty : stack.frames ≡ []
  pub unseen : seen.visited ≡ []
  pub unnoted : HasNoNotes notes
  pub fits : room_of (parts body) ≤ stack.room
  pub marked : length body.tasks ≤ seen.tasks
