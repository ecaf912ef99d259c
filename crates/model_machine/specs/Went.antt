-- What may end the run: a call that finds no answer, and a runaway. What happened before stands.
use Rattle.std.specs.Prelude.{ℕ, suc, Bool, true, false, List, [], ◌∷◌}
use Rattle.model_wire.specs.declared.event.End.TheVariants as end
use Rattle.model_wire.specs.declared.event.Event.TheVariants as event
use Rattle.model_wire.specs.Call.{Call, Answer}
use Rattle.model_wire.specs.Fits.{fits}
use Rattle.model_wire.specs.Event.{Event}
use Rattle.model_wire.specs.Journal.{Entry, Answered, Refused}
use Rattle.model_wire.specs.Trace.{End}
use Rattle.model_machine.specs.State.{State, noted}

pub data Went (S : Type 0) : Type 0 where
  Goes : (now : State S) → Went S
  Stops : (end : End) (last : State S) → Went S

-- one thing after another, unless the run has ended
abbrev pub went_on : {S : Type 0} → (State S → Went S) → Went S → Went S
went_on next (Goes now) = next now
went_on next (Stops end last) = Stops end last

-- the state that is left
abbrev pub state_of : {S : Type 0} → Went S → State S
state_of (Goes now) = now
state_of (Stops end last) = last

-- ---- a call on the outside
-- how many answers the run had so far
abbrev pub answers_in : List Event → ℕ
answers_in [] = 0
answers_in (event.Got answer ∷ events) = suc (answers_in events)
answers_in (_ ∷ events) = answers_in events

-- `halts` is how the run ends there: in a callback or in a request.
module _ {S R : Type 0} (halts : End → State S → R) where
  abbrev pub fitted_so : Bool → Call → Answer → (Answer → State S → R) → State S → R
  fitted_so true call answer next s = next answer s
  fitted_so false call answer next s = halts (end.Mismatch (answers_in s.events) call) s

  abbrev pub answered_so : List Entry → Call → (Answer → State S → R) → State S → R
  answered_so [] call next s = halts (end.Over call) s
  answered_so (Refused line cause ∷ entries) call next s = halts (end.JournalRefused line cause) s
  answered_so (Answered answer ∷ entries) call next s =
      fitted_so (fits call answer) call answer next (noted (event.Got answer) (record s { answers = entries }))

  -- The outside is asked, and what comes next goes by its answer. The run ends where there is none, where a line that is none
  -- stands in its place, and where it doesn't fit.
  abbrev pub ask_so : Call → (Answer → State S → R) → State S → R
  ask_so call next s = answered_so s.answers call next (noted (event.Called call) s)

abbrev pub fitted : {S : Type 0} → Bool → Call → Answer → (Answer → State S → Went S) → State S → Went S
fitted = fitted_so Stops

abbrev pub answered_by : {S : Type 0} → List Entry → Call → (Answer → State S → Went S) → State S → Went S
answered_by = answered_so Stops

abbrev pub ask : {S : Type 0} → Call → (Answer → State S → Went S) → State S → Went S
ask = ask_so Stops
