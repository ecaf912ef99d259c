-- A state of a run in which no loss without an exception dropped anything, and the outside was asked to close each as its loss
-- was done; but of a connection that was given up before it stood.
use Rattle.std.specs.Prelude.{◌≡◌, ℕ, ◌≤◌, Bool, true, false, not, ◌&&◌, ◌||◌, List, [], ◌∷◌}
use Rattle.model_wire.specs.declared.event.Event.TheVariants as event
use Rattle.model_wire.specs.declared.event.Handed.{Handed}
use Rattle.model_wire.specs.declared.event.Handed.TheVariants as to
use Rattle.model_wire.specs.Call.{Call}
use Rattle.model_wire.specs.Event.{Event}
use Rattle.model_loop.specs.Parts.{Parts}
use Rattle.model_stream.specs.declared.phase.Phase.TheVariants as phase
use Rattle.model_stream.specs.Doing.{CallSoon}
use Rattle.model_stream.specs.History.{handed, written_to}
use Rattle.model_stream.specs.Senders.{Sender, is_lost}
use Rattle.model_stream.specs.Streams.{Streams}
use Rattle.law_order.specs.Quiet.{losses_pending, pending_of}
use Rattle.law_stream.specs.SoundSenders.{IsInOrder, is_losing}
use Rattle.law_stream.specs.Ways.{is_close, one_if}
use Rattle.law_order.specs.Mild.{is_good_loss}
use Rattle.law_order.specs.Sides.{standing_of}
use Rattle.law_order.specs.Order.{IsLostOnce, closes_asked, may_give_up}

-- its loss is scheduled or done, and has no exception
abbrev pub ends_well : Sender → Bool
ends_well s =
    elim s.phase [ phase.Open ↦ false | phase.Closing ↦ false | phase.Losing broken ↦ not broken | phase.Lost broken ↦ not broken ]

-- how many losses of one are to come that have no exception
abbrev pub good_pending : Handed → Parts → ℕ
good_pending whom p = pending_of (λ it. is_good_loss whom (CallSoon it)) p

-- ---- given up
abbrev pub is_conn_close : Handed → Call → Bool
is_conn_close (to.Conn id) it = is_close (to.Conn id) it
is_conn_close (to.Child id) it = false

-- The outside was asked to close a connection in a task's step, or as it said that the connection can't be made: only one that is
-- still being made is closed so, which is given up. `giving` says that the callback that ran last is such a one.
abbrev pub given_up_after : Handed → (giving : Bool) → List Event → Bool
given_up_after whom giving [] = false
given_up_after whom giving (event.Ran it ∷ events) = given_up_after whom (may_give_up it) events
given_up_after whom giving (event.Called it ∷ events) = (giving && is_conn_close whom it) || given_up_after whom giving events
given_up_after whom giving (event.Got answer ∷ events) = given_up_after whom giving events
given_up_after whom giving (event.Said task text ∷ events) = given_up_after whom giving events

abbrev pub given_up : Handed → List Event → Bool
given_up whom events = given_up_after whom false events

-- ---- whole
-- of one that wasn't given up
pub record IsOrderly (whom : Handed) (s : Streams) (events : List Event) (p : Parts) : Type 0 where
  -- what is unsent is the rest, unless its loss has an exception
  pub order : IsInOrder (written_to whom s.written) (handed whom events) (standing_of whom s)
  -- a loss is to come only where it is scheduled
  pub losses : losses_pending whom p ≤ one_if (is_losing (standing_of whom s))
  -- the outside was asked to close it once where its loss is done, and else never
  pub closes : closes_asked whom events ≡ one_if (is_lost (standing_of whom s))

pub record IsWhole (s : Streams) (events : List Event) (p : Parts) : Type 0 where
  pub lost : IsLostOnce s events p
  -- where a loss without an exception is to come, all that was written was handed on
  pub good : (whom : Handed) → 1 ≤ good_pending whom p
      → ((standing_of whom s).writer.ended ≡ true) × (handed whom events ≡ written_to whom s.written)
  pub orderly : (whom : Handed) → given_up whom events ≡ false → IsOrderly whom s events p
  -- what the outside was asked to close takes nothing any more
  pub closed : (whom : Handed) → 1 ≤ closes_asked whom events → (standing_of whom s).writer.ended ≡ true
