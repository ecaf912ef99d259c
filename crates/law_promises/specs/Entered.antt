-- Groups that a run made: each is entered.
use Rattle.std.specs.Prelude.{◌≡◌, ℕ, zero, suc, ◌<◌, true, length}
use Rattle.model_loop.specs.Groups.{group_of}
use Rattle.model_loop.specs.Loop.{Loop}
use Rattle.model_machine.specs.Extra.{Extra}
use Rattle.model_machine.specs.Mids.{mids}
use Rattle.model_machine.specs.State.{State}
use Rattle.model_machine.specs.Turn.{turn}
use Rattle.model_machine.specs.Went.{Went, Goes, Stops}
use Rattle.law_promises.specs.Stays.{AreAll}

abbrev pub AllEntered : Loop → Type 0
AllEntered l = (id : ℕ) → id < length l.groups → (group_of l id).entered ≡ true

abbrev pub AreEntered : {S : Type 0} → State S → Type 0
AreEntered s = AllEntered s.loop

-- ---- the states of a run between two turns and between two callbacks; where it ends nothing is said
abbrev pub AfterTurn : {S : Type 0} → (goes_on : State S → Type 0) → Went S → Type 0
AfterTurn goes_on (Goes now) = goes_on now
AfterTurn goes_on (Stops how last) = Unit {0}

abbrev pub IsRunBetween : {S : Type 0} → (State S → Type 0) → (limit : ℕ) → Extra S → (turns : ℕ) → State S → Type 0
IsRunBetween Holds limit added zero s = Holds s
IsRunBetween Holds limit added (suc turns) s =
    Holds s × AreAll Holds (mids limit added s) × AfterTurn (IsRunBetween Holds limit added turns) (turn limit added s)
