-- What locks need of the other parts of what is added: that their requests wait under keys of their own.
use Rattle.std.specs.Prelude.{◌≡◌, ℕ, ℤ, List}
use Rattle.model_value.specs.Input.{Input}
use Rattle.model_value.specs.Value.{Value}
use Rattle.model_machine.specs.Extra as extra
use Rattle.model_machine.specs.Extra.{Extra, ExtraAnswer}
use Rattle.model_machine.specs.State.{State}
use Rattle.model_reach.specs.Reach.{Part, part_of_key}

abbrev pub WaitsAs : Part → ExtraAnswer → Type 0
WaitsAs part (extra.Waits on key) = part_of_key key ≡ part
WaitsAs part (extra.Asks code bytes key) = part_of_key key ≡ part
WaitsAs part _ = Unit {0}

-- A request waits under a key of this part, as it is asked and as it goes on.
pub record WaitsUnderItsKeys {P : Type 0} (part : Part) (added : Extra P) : Type 0 where
  pub ask : (task : ℕ) (code : ℤ) (arguments : List Value) (s : State P) → WaitsAs part (added.ask task code arguments s).answer
  pub wake : (key : ℕ) (input : Input) (s : State P) → part_of_key key ≡ part → WaitsAs part (added.wake key input s).answer
