-- The futures of a connection, none of which is a task's.
use Rattle.model_stream.specs.Connections.{Connection}
use Rattle.aio_task.specs.View.{View}
use Rattle.aio_change.specs.Owned.{IsOwnIfAny}
use Rattle.aio_sender.specs.Owned.{OwnsSender}
pub use Rattle.aio_sender.specs.Owned.{futures_of}

-- the one that a connect waits on, those of its sender, and the one that a read waits on
pub record OwnsConnection (v : View) (c : Connection) : Type 0 where
  pub making : IsOwnIfAny v c.making
  pub sender : OwnsSender v c.sender
  pub waiter : IsOwnIfAny v c.receiver.waiter
