-- Short words for states that are written by hand.
use Rattle.std.specs.Prelude.{ℕ, true, false, List, [], Some, None}
use Rattle.model_value.specs.declared.kind.Kind.TheVariants.{ValueError, TypeError}
use Rattle.model_value.specs.declared.outcome.Outcome.TheVariants.{Value as Returned, Cancelled}
use Rattle.model_value.specs.Action.{Action}
use Rattle.model_value.specs.Value.{Nothing, Exc, exception_of, Outcome}
use Rattle.model_loop.specs.Parts.{Handle, Timer, FutureKind, Future, Task, Parts}

-- a pending future with its callbacks, and a done one
abbrev pub waiting : FutureKind → List Action → Future
waiting kind callbacks = record { kind = kind; outcome = None; callbacks = callbacks }

abbrev pub ended : FutureKind → Outcome → Future
ended kind outcome = record { kind = kind; outcome = Some outcome; callbacks = [] }

abbrev pub cancelled : FutureKind → Future
cancelled kind = ended kind Cancelled

abbrev pub resolved : FutureKind → Future
resolved kind = ended kind (Returned Nothing)

-- a task that waits for a future, with a count of cancels; one that must cancel; one that waits for nothing
abbrev pub waits : (future on cancels : ℕ) → Task
waits future on cancels = record { future = future; waiter = Some on; cancels = cancels; must_cancel = false }

abbrev pub waits_must_cancel : (future on cancels : ℕ) → Task
waits_must_cancel future on cancels = record { future = future; waiter = Some on; cancels = cancels; must_cancel = true }

abbrev pub free : (future cancels : ℕ) → Task
free future cancels = record { future = future; waiter = None; cancels = cancels; must_cancel = false }

abbrev pub free_must_cancel : (future cancels : ℕ) → Task
free_must_cancel future cancels = record { future = future; waiter = None; cancels = cancels; must_cancel = true }

abbrev pub handle : (stamp tag : ℕ) → Action → Handle
handle stamp tag action = record { stamp = stamp; tag = tag; action = action; dead = false }

abbrev pub dead : (stamp tag : ℕ) → Action → Handle
dead stamp tag action = record { stamp = stamp; tag = tag; action = action; dead = true }

abbrev pub timer : (when tag : ℕ) → Action → Timer
timer when tag action = record { when = when; tag = tag; action = action }

-- parts without timers, whose next stamp and tag are the same
abbrev pub parts_of : List Future → List Task → List Handle → ℕ → Parts
parts_of futures tasks pending next =
    record {
      time = 0;
      next_stamp = next;
      next_tag = next;
      pending = pending;
      timers = [];
      futures = futures;
      tasks = tasks;
    }

abbrev pub value_error : List ℕ → Exc
value_error text = exception_of ValueError text

abbrev pub type_error : List ℕ → Exc
type_error text = exception_of TypeError text
