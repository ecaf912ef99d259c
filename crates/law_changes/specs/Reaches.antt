-- Rows of changes.
use Rattle.std.specs.Prelude.{ℕ, Option}
use Rattle.model_loop.specs.Loop.{Loop}
use Rattle.model_loop.specs.Parts.{Parts}
use Rattle.law_changes.specs.Changes.{MayAlone, MayInLoop, MayInParts, made_of_loop, made_of_parts}

-- From one state to another by changes, each of which may be made where it is made.
pub data Reaches {A C : Type 0} (make : C → A → A) (May : C → A → Type 0) : A → A → Type 0 where
  stays : {a : A} → Reaches make May a a
  goes : {a b : A} → Reaches make May a b → (change : C) → May change b → Reaches make May a (make change b)

abbrev pub PartsReach : (runner : Option ℕ) → Parts → Parts → Type 0
PartsReach runner = Reaches made_of_parts (MayInParts runner)

-- where no request asks for a cancel or takes one back
abbrev pub ReachAlone : (runner : Option ℕ) → Parts → Parts → Type 0
ReachAlone runner = Reaches made_of_parts (MayAlone runner)

abbrev pub LoopReaches : (runner : Option ℕ) → Loop → Loop → Type 0
LoopReaches runner = Reaches made_of_loop (MayInLoop runner)
