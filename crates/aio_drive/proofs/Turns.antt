-- What a turn comes to, and what a run is that makes it.
use Rattle.std.proofs.Common.{◌≡◌, ℕ, suc, Bool, true, List, [], ◌∷◌, ◌++◌, refl, ap, sym, ◌∙◌, append_assoc}
use Rattle.model_says.specs.Says.{step_limit}
use Rattle.model_wire.specs.declared.event.End.TheVariants as end
use Rattle.model_wire.specs.Event.{Event}
use Rattle.model_wire.specs.Trace.{line_of, lines_of_events}
use Rattle.model_machine.specs.Extra.{Extra}
use Rattle.model_machine.specs.Run.{ends, run_after, run_on, turns_over}
use Rattle.model_machine.specs.State.{State}
use Rattle.model_machine.specs.Turn.{is_stalled, turn, turn_unless}
use Rattle.model_machine.specs.Went.{Went, Stops}

-- a turn of a state that is stalled ends the run
pub turn-stalled : {S : Type 0} (added : Extra S) (s : State S) → is_stalled added s ≡ true → turn step_limit added s ≡ Stops end.Stalled s
unfolding turn
turn-stalled added s e = ap (λ b. turn_unless step_limit added b s) e

-- a run from a state makes a turn
pub run_on-turn : {S : Type 0} (added : Extra S) (allowed left : ℕ) (s : State S) (went : Went S) → turn step_limit added s ≡ went
    → run_on step_limit added allowed (suc left) s ≡ run_after (run_on step_limit added allowed left) went
unfolding run_on
run_on-turn added allowed left s went e = ap (run_after (run_on step_limit added allowed left)) e

-- one that may make none
pub run_on-last : {S : Type 0} (added : Extra S) (allowed : ℕ) (s : State S)
    → run_on step_limit added allowed 0 s ≡ ends (turns_over (is_stalled added s) allowed) s
unfolding run_on
run_on-last added allowed s = refl

-- the lines of events, and of more
pub lines-append : (trace : Bool) (es more : List Event)
    → lines_of_events trace (es ++ more) ≡ lines_of_events trace es ++ lines_of_events trace more
lines-append trace [] more = refl
lines-append trace (e ∷ es) more =
    ap (λ (t : List ℕ). line_of trace e ++ t) (lines-append trace es more)
    ∙ sym (append_assoc (line_of trace e) (lines_of_events trace es) (lines_of_events trace more))
