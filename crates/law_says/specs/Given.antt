-- Values that a coroutine was given: by its arguments, and by what was sent to it. A kind of values is closed where a script
-- can't leave it: what stands for itself in a script belongs to it, and a list does exactly where its items do.
use Rattle.std.specs.Prelude.{◌≡◌, ℕ, ℤ, Bool, true, List, [], ◌∷◌}
use Rattle.model_value.specs.Input.{Input}
use Rattle.model_value.specs.declared.input.Input.TheVariants.{Send, Throw}
use Rattle.model_value.specs.declared.request.Request.TheVariants as request
use Rattle.model_value.specs.Request.{Request}
use Rattle.model_value.specs.Value.{Value, Nothing, Truth, Int, Text, Bytes, Items, Exception, Values, Exc, list_of, values}
use Rattle.model_says.specs.Endings.{Saying, Asks, Returns}
use Rattle.model_says.specs.Tape.{Tape}

-- the values that pass a test
abbrev pub IsIn : (Value → Bool) → Value → Type 0
IsIn test value = test value ≡ true

abbrev pub AllOf : (Value → Type 0) → List Value → Type 0
AllOf P [] = Unit {0}
AllOf P (value ∷ values) = P value × AllOf P values

pub record IsClosed (P : Value → Type 0) : Type 0 where
  pub nothing : P Nothing
  pub truth : (truth : Bool) → P (Truth truth)
  pub number : (number : ℤ) → P (Int number)
  pub text : (bytes : List ℕ) → P (Text bytes)
  pub bytes : (bytes : List ℕ) → P (Bytes bytes)
  pub exception : (fault : Exc) → P (Exception fault)
  pub made : (items : List Value) → AllOf P items → P (Items (values items))
  pub held : (items : Values) → P (Items items) → AllOf P (list_of items)

-- what a value that is sent is; an exception holds no values
abbrev pub InInput : (Value → Type 0) → Input → Type 0
InInput P (Send value) = P value
InInput P (Throw fault) = Unit {0}

abbrev pub InTape : (Value → Type 0) → Tape → Type 0
InTape P [] = Unit {0}
InTape P (entry ∷ tape) = InInput P entry.input × InTape P tape

-- the values that a request hands on, to be awaited, kept or given to a coroutine
abbrev pub InRequest : (Value → Type 0) → Request → Type 0
InRequest P (request.Await x) = P x
InRequest P (request.Set future value) = P value
InRequest P (request.Spawn coroutine arguments) = AllOf P arguments
InRequest P (request.Create group coroutine arguments) = AllOf P arguments
InRequest P (request.Extra code arguments) = P arguments
InRequest P _ = Unit {0}

abbrev pub InSaying : (Value → Type 0) → Saying → Type 0
InSaying P (Asks request) = InRequest P request
InSaying P (Returns value) = P value
InSaying P _ = Unit {0}
