-- All states of a run: where each turn begins, between its callbacks, and where the run ends.
use Rattle.std.specs.Prelude.{ℕ, zero, suc, List, [], ◌∷◌}
use Rattle.model_machine.specs.Extra.{Extra}
use Rattle.model_machine.specs.Mids.{mids}
use Rattle.model_machine.specs.State.{State}
use Rattle.model_machine.specs.Turn.{turn}
use Rattle.model_machine.specs.Went.{Went, Goes, Stops}

abbrev pub AreAll : {S : Type 0} → (State S → Type 0) → List (State S) → Type 0
AreAll Holds [] = Unit {0}
AreAll Holds (s ∷ states) = Holds s × AreAll Holds states

abbrev pub AfterTurn : {S : Type 0} → (Holds goes_on : State S → Type 0) → Went S → Type 0
AfterTurn Holds goes_on (Goes now) = goes_on now
AfterTurn Holds goes_on (Stops how last) = Holds last

abbrev pub IsRunOf : {S : Type 0} → (State S → Type 0) → (limit : ℕ) → Extra S → (turns : ℕ) → State S → Type 0
IsRunOf Holds limit added zero s = Holds s
IsRunOf Holds limit added (suc turns) s =
    Holds s × AreAll Holds (mids limit added s) × AfterTurn Holds (IsRunOf Holds limit added turns) (turn limit added s)
