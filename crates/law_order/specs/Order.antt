-- A state of a run in which each sending side is sound and in order: what the events say that it was handed is a front of what
-- the streams say was written to it, and what is unsent is the rest, until a loss is scheduled.
use Rattle.std.specs.Prelude.{◌≡◌, ℕ, ◌+◌, ◌≤◌, Bool, true, false, List, [], ◌∷◌}
use Rattle.model_value.specs.declared.action.Action.TheVariants as action
use Rattle.model_value.specs.Action.{Action}
use Rattle.model_wire.specs.declared.event.Event.TheVariants as event
use Rattle.model_wire.specs.declared.event.Handed.{Handed}
use Rattle.model_wire.specs.Event.{Event}
use Rattle.model_loop.specs.Parts.{Parts}
use Rattle.model_stream.specs.Doing.{CallSoon}
use Rattle.model_stream.specs.History.{handed, written_to}
use Rattle.model_stream.specs.Streams.{Streams}
use Rattle.model_machine.specs.Extra.{Extra}
use Rattle.model_machine.specs.State.{State}
use Rattle.law_order.specs.Quiet.{RegistersNone, losses_pending}
use Rattle.law_stream.specs.SoundSenders.{IsSoundSender}
use Rattle.law_stream.specs.Ways.{is_close, is_loss, one_if}
use Rattle.law_order.specs.Fronts.{IsFront}
use Rattle.law_order.specs.Sides.{standing_of}
use Rattle.law_walk.specs.Walks.{In, IsRunIn}

-- of this one
pub record IsSideInOrder (whom : Handed) (s : Streams) (events : List Event) : Type 0 where
  pub sound : IsSoundSender (standing_of whom s)
  pub order : IsFront (written_to whom s.written) (handed whom events) (standing_of whom s)

abbrev pub AreInOrder : Streams → List Event → Parts → Type 0
AreInOrder s events p = (whom : Handed) → IsSideInOrder whom s events

-- ---- in order
abbrev pub IsInOrder : {S : Type 0} → State S → Type 0
IsInOrder s = In AreInOrder s

abbrev pub IsRunInOrder : {S : Type 0} → (limit : ℕ) → Extra S → (turns : ℕ) → State S → Type 0
IsRunInOrder limit added turns s = IsRunIn AreInOrder limit added turns s

-- ---- in order, with a loss of this one scheduled or done, after it was handed these bytes
pub record IsOver (whom : Handed) (bytes : List ℕ) (s : Streams) (events : List Event) (p : Parts) : Type 0 where
  pub ordered : AreInOrder s events p
  pub over : (standing_of whom s).writer.ended ≡ true
  pub hands : handed whom events ≡ bytes

-- ---- losses
-- how often a loss of this one was done by the callback that was scheduled
abbrev pub losses_ran : Handed → List Event → ℕ
losses_ran whom [] = 0
losses_ran whom (event.Ran it ∷ events) = one_if (is_loss whom (CallSoon it)) + losses_ran whom events
losses_ran whom (event.Called call ∷ events) = losses_ran whom events
losses_ran whom (event.Got answer ∷ events) = losses_ran whom events
losses_ran whom (event.Said task text ∷ events) = losses_ran whom events

-- how often the outside was asked to close one
abbrev pub closes_asked : Handed → List Event → ℕ
closes_asked whom [] = 0
closes_asked whom (event.Called it ∷ events) = one_if (is_close whom it) + closes_asked whom events
closes_asked whom (event.Got answer ∷ events) = closes_asked whom events
closes_asked whom (event.Ran it ∷ events) = closes_asked whom events
closes_asked whom (event.Said task text ∷ events) = closes_asked whom events

-- Callbacks in which a connection that is still being made may be given up: the outside says that it can't be made, or the task
-- that waits for it is thrown an exception.
abbrev pub may_give_up : Action → Bool
may_give_up (action.Down conn) = true
may_give_up (action.Step task) = true
may_give_up (action.StepInCycle task cycle) = true
may_give_up (action.Wakeup task) = true
may_give_up _ = false

-- In order, with no loss registered on a future; and of each at most one loss ran or is to come, and none before it was
-- scheduled.
pub record IsLostOnce (s : Streams) (events : List Event) (p : Parts) : Type 0 where
  pub ordered : AreInOrder s events p
  pub registers : RegistersNone p
  pub once : (whom : Handed) → losses_ran whom events + losses_pending whom p ≤ one_if (standing_of whom s).writer.ended
