-- What is added goes by no answer that is still to come.
use Rattle.std.specs.Prelude.{◌≡◌, ℕ, ℤ, List}
use Rattle.model_value.specs.Input.{Input}
use Rattle.model_value.specs.Value.{Value}
use Rattle.model_wire.specs.Journal.{Entry}
use Rattle.model_machine.specs.Extra.{Extra}
use Rattle.model_machine.specs.State.{State}

-- What each call of it comes to is the same whatever the outside has left to answer.
pub record ForeseesNothing {S : Type 0} (added : Extra S) : Type 0 where
  pub ask : (task : ℕ) (code : ℤ) (arguments : List Value) (s : State S) (left : List Entry)
      → added.ask task code arguments (record s { answers = left }) ≡ added.ask task code arguments s
  pub wake : (key : ℕ) (input : Input) (s : State S) (left : List Entry)
      → added.wake key input (record s { answers = left }) ≡ added.wake key input s
  pub act : (key : ℕ) (s : State S) (left : List Entry) → added.act key (record s { answers = left }) ≡ added.act key s
  pub item : (code : ℤ) (bytes : List ℕ) (s : State S) (left : List Entry)
      → added.item code bytes (record s { answers = left }) ≡ added.item code bytes s
