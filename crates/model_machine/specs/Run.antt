-- A whole run. Source: `base_events.py`, `run_until_complete` and `_run_once`.
use Rattle.std.specs.Prelude.{ℕ, zero, suc, Bool, true, false, List}
use Rattle.model_wire.specs.declared.event.End.TheVariants as end
use Rattle.model_wire.specs.Event.{Event}
use Rattle.model_wire.specs.Trace.{End}
use Rattle.model_machine.specs.Extra.{Extra}
use Rattle.model_machine.specs.State.{State}
use Rattle.model_machine.specs.Turn.{is_stalled, turn}
use Rattle.model_machine.specs.Went.{Went, Goes, Stops}

pub record Run : Type 0 where
  pub events : List Event
  pub end : End

abbrev pub ends : {S : Type 0} → End → State S → Run
ends end s = record { events = s.events; end = end }

abbrev pub turns_over : Bool → ℕ → End
turns_over true allowed = end.Stalled
turns_over false allowed = end.Turns allowed

abbrev pub run_after : {S : Type 0} → (State S → Run) → Went S → Run
run_after go_on (Goes now) = go_on now
run_after go_on (Stops end last) = ends end last

module _ {S : Type 0} (limit : ℕ) (added : Extra S) where
  -- A run goes on from a state, with so many turns left of those that are allowed.
  unfoldable pub run_on : (allowed left : ℕ) → State S → Run
  run_on allowed zero s = ends (turns_over (is_stalled added s) allowed) s
  run_on allowed (suc left) s = run_after (run_on allowed left) (turn limit added s)
