-- What a task waits for, and whether a cancel waits for its next step, as they are kept in one.
use Rattle.std.specs.Prelude.{ℕ, Bool, Option, None, Some}
use Rattle.aio_cancel.specs.declared.task.Wait.{Wait}
use Rattle.aio_cancel.specs.declared.task.Wait.TheVariants as wait

abbrev pub waiter_in : Wait → Option ℕ
waiter_in (wait.Nothing must_cancel) = None
waiter_in (wait.Future must_cancel on) = Some on

abbrev pub must_cancel_in : Wait → Bool
must_cancel_in (wait.Nothing must_cancel) = must_cancel
must_cancel_in (wait.Future must_cancel on) = must_cancel
