-- All states of a run: where each turn begins, between its callbacks, and where the run ends, but where it is cut in the middle of
-- something.
use Rattle.std.specs.Prelude.{◌⊎◌, ℕ, zero, suc}
use Rattle.model_machine.specs.Extra.{Extra}
use Rattle.model_machine.specs.Mids.{mids}
use Rattle.model_machine.specs.State.{State}
use Rattle.model_machine.specs.Turn.{turn}
use Rattle.model_machine.specs.Went.{Went, Goes, Stops}
use Rattle.law_calls.specs.Tells.{IsCut}
use Rattle.law_kept.specs.Runs.{AreAll}

abbrev pub AfterTurn : {S : Type 0} → (Holds goes_on : State S → Type 0) → Went S → Type 0
AfterTurn Holds goes_on (Goes now) = goes_on now
AfterTurn Holds goes_on (Stops how last) = IsCut how ⊎ Holds last

abbrev pub IsRunOf : {S : Type 0} → (State S → Type 0) → (limit : ℕ) → Extra S → (turns : ℕ) → State S → Type 0
IsRunOf Holds limit added zero s = Holds s
IsRunOf Holds limit added (suc turns) s =
    Holds s × AreAll Holds (mids limit added s) × AfterTurn Holds (IsRunOf Holds limit added turns) (turn limit added s)
