-- The states between the callbacks of a turn: the one after the timers fell due, and the one after each callback that ran. A
-- callback in which the run ends adds none, and so does a turn that ends before it has an answer.
use Rattle.std.specs.Prelude.{ℕ, zero, suc, Bool, true, false, List, [], ◌∷◌, length, nat_lt}
use Rattle.model_wire.specs.Call.{Answer, Call}
use Rattle.model_wire.specs.Journal.{Entry, Answered, Refused}
use Rattle.model_loop.specs.Parts.{Handle}
use Rattle.model_wire.specs.declared.event.Event.TheVariants as event
use Rattle.model_machine.specs.Extra.{Extra}
use Rattle.model_wire.specs.Fits.{fits}
use Rattle.model_machine.specs.State.{State, noted, unbooked_in}
use Rattle.model_machine.specs.Turn.{call_of, is_stalled, run_first, woken_by}
use Rattle.model_machine.specs.Went.{Went, Goes, Stops}

abbrev pub then_mids : {S : Type 0} → (State S → List (State S)) → Went S → List (State S)
then_mids go_on (Goes now) = now ∷ go_on now
then_mids go_on (Stops end last) = []

module _ {S : Type 0} (limit : ℕ) (added : Extra S) where
  abbrev pub mids_if : (below : Bool) → Handle → List Handle → (State S → List (State S)) → State S → List (State S)
  mids_if true handle handles go_on s = then_mids go_on (run_first limit added handle handles s)
  mids_if false handle handles go_on s = []

  abbrev pub next_mids : (bar : ℕ) → List Handle → (State S → List (State S)) → State S → List (State S)
  next_mids bar [] go_on s = []
  next_mids bar (handle ∷ handles) go_on s = mids_if (nat_lt handle.stamp bar) handle handles go_on s

  -- the states after the handles before the bar
  unfoldable pub mids_below : (bar count : ℕ) → State S → List (State S)
  mids_below bar zero s = []
  mids_below bar (suc count) s = next_mids bar s.loop.parts.pending (mids_below bar count) s

  abbrev pub mids_from : State S → List (State S)
  mids_from s = s ∷ mids_below s.loop.parts.next_stamp (length s.loop.parts.pending) s

  abbrev pub mids_fitted : Bool → Answer → State S → List (State S)
  mids_fitted true answer s = mids_from (unbooked_in (woken_by answer) s)
  mids_fitted false answer s = []

  abbrev pub mids_by : List Entry → Call → State S → List (State S)
  mids_by [] call s = []
  mids_by (Refused line cause ∷ entries) call s = []
  mids_by (Answered answer ∷ entries) call s =
      mids_fitted (fits call answer) answer (noted (event.Got answer) (record s { answers = entries }))

  abbrev pub mids_unless : (stalled : Bool) → State S → List (State S)
  mids_unless true s = []
  mids_unless false s = mids_by s.answers (call_of added s) (noted (event.Called (call_of added s)) s)

  abbrev pub mids : State S → List (State S)
  mids s = mids_unless (is_stalled added s) s
