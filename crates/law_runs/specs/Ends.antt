-- The state in which a turn and a run end: it is sound, unless the run ended in the middle of a callback, by a task that ran away
-- or, where something was open or what is added asks, by a call that had no answer that fits (`EndsIn` of `law_reach`).
use Rattle.std.specs.Prelude.{ℕ, zero, suc, ◌⊎◌}
use Rattle.model_says.specs.Says.{step_limit}
use Rattle.model_machine.specs.Extra.{Extra}
use Rattle.model_machine.specs.Sound.{IsStateSound}
use Rattle.model_machine.specs.State.{State}
use Rattle.model_machine.specs.Turn.{turn}
use Rattle.model_machine.specs.Went.{Went, Goes, Stops}
use Rattle.law_reach.specs.Reaches.{EndsIn}

-- what a turn from this state leaves
abbrev pub IsLeftSound : {S : Type 0} → Extra S → (s : State S) → Went S → Type 0
IsLeftSound added s (Goes now) = IsStateSound added now
IsLeftSound added s (Stops how last) = EndsIn added s how ⊎ IsStateSound added last

abbrev pub EndsAfter : {S : Type 0} → Extra S → (first : State S) → (State S → Type 0) → Went S → Type 0
EndsAfter added first then_ (Goes now) = then_ now
EndsAfter added first then_ (Stops how last) = EndsIn added first how ⊎ IsStateSound added last

-- where a run that began at `first` and came to this state ends within so many turns
unfoldable pub EndsSound : {S : Type 0} → Extra S → (first : State S) → (turns : ℕ) → State S → Type 0
EndsSound added first zero s = Unit {0}
EndsSound added first (suc turns) s = EndsAfter added first (EndsSound added first turns) (turn step_limit added s)
