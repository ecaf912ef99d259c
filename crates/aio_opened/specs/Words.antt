-- The words of a program: texts.
use Rattle.std.specs.Prelude.{ℕ, List, Option, Some, None}
use Rattle.model_value.specs.Value.{Value, Text}

-- the text that a value is
abbrev pub text_in : Value → Option (List ℕ)
text_in (Text bytes) = Some bytes
text_in _ = None
