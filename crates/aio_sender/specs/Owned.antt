-- The futures of a sender, none of which is a task's.
use Rattle.std.specs.Prelude.{ℕ, List, ◌∷◌}
use Rattle.model_stream.specs.Senders.{Sender}
use Rattle.aio_task.specs.View.{View}
use Rattle.aio_change.specs.Owned.{AreOwn}

-- the one that `wait_closed` awaits, and those that drains wait on
abbrev pub futures_of : Sender → List ℕ
futures_of s = s.closed_future ∷ s.drains

abbrev pub OwnsSender : View → Sender → Type 0
OwnsSender v s = AreOwn v (futures_of s)
