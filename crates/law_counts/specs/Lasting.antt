-- The state in which a run ends.
use Rattle.std.specs.Prelude.{◌⊎◌, ℕ, zero, suc}
use Rattle.model_wire.specs.Trace.{End}
use Rattle.model_machine.specs.Extra.{Extra}
use Rattle.model_machine.specs.State.{State}
use Rattle.model_machine.specs.Turn.{turn}
use Rattle.model_machine.specs.Went.{Went, Goes, Stops}
use Rattle.law_reach.specs.Reaches.{IsRunaway, IsUnmet}

abbrev pub last_after : {S : Type 0} → (State S → State S) → Went S → State S
last_after go_on (Goes now) = go_on now
last_after go_on (Stops end last) = last

module _ {S : Type 0} (limit : ℕ) (added : Extra S) where
  -- after so many turns at most
  unfoldable pub last_on : (left : ℕ) → State S → State S
  last_on zero s = s
  last_on (suc left) s = last_after (last_on left) (turn limit added s)

-- a turn was cut short: a task ran away, or a call has no answer that fits
abbrev pub IsCut : End → Type 0
IsCut how = IsRunaway how ⊎ IsUnmet how
