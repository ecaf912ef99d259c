-- The futures of a child, none of which is a task's.
use Rattle.model_stream.specs.Children.{Child}
use Rattle.aio_task.specs.View.{View}
use Rattle.aio_change.specs.Owned.{AreOwn, IsOwnIfAny}
use Rattle.aio_sender.specs.Owned.{OwnsSender}

-- those of its standard input, the ones that reads of its pipes wait on, and those that waits for the exit are on
pub record OwnsChild (v : View) (p : Child) : Type 0 where
  pub stdin : OwnsSender v p.stdin
  pub out : IsOwnIfAny v p.out.waiter
  pub errs : IsOwnIfAny v p.errs.waiter
  pub waits : AreOwn v p.waits
