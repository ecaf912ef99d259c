-- Futures that are done stay done, each with its outcome; and what holds of all states of a run.
use Rattle.std.specs.Prelude.{◌≡◌, ℕ, zero, suc, List, [], ◌∷◌, Some}
use Rattle.model_value.specs.Value.{Outcome}
use Rattle.model_loop.specs.Futures.{future_outcome}
use Rattle.model_loop.specs.Parts.{Parts}
use Rattle.model_machine.specs.Extra.{Extra}
use Rattle.model_machine.specs.Mids.{mids}
use Rattle.model_machine.specs.State.{State}
use Rattle.model_machine.specs.Turn.{turn}
use Rattle.model_machine.specs.Went.{Went, Goes, Stops}

abbrev pub OutcomesStay : Parts → Parts → Type 0
OutcomesStay p q = (id : ℕ) (outcome : Outcome) → future_outcome p id ≡ Some outcome → future_outcome q id ≡ Some outcome

-- those that were done in these parts are done so in a state
abbrev pub AreDoneIn : {S : Type 0} → Parts → State S → Type 0
AreDoneIn p s = OutcomesStay p s.loop.parts

-- ---- all states of a run: where each turn begins, between its callbacks, and where the run ends
abbrev pub AreAll : {S : Type 0} → (State S → Type 0) → List (State S) → Type 0
AreAll Holds [] = Unit {0}
AreAll Holds (s ∷ states) = Holds s × AreAll Holds states

abbrev pub AfterTurn : {S : Type 0} → (Holds goes_on : State S → Type 0) → Went S → Type 0
AfterTurn Holds goes_on (Goes now) = goes_on now
AfterTurn Holds goes_on (Stops how last) = Holds last

abbrev pub IsRunOf : {S : Type 0} → (State S → Type 0) → (limit : ℕ) → Extra S → (turns : ℕ) → State S → Type 0
IsRunOf Holds limit added zero s = Holds s
IsRunOf Holds limit added (suc turns) s =
    Holds s × AreAll Holds (mids limit added s) × AfterTurn Holds (IsRunOf Holds limit added turns) (turn limit added s)
