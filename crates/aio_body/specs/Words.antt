-- The words of a program: texts.
use Rattle.std.specs.Prelude.{Bool, true, false}
use Rattle.model_value.specs.Value.{Value, Text}

abbrev pub is_text : Value → Bool
is_text (Text bytes) = true
is_text _ = false
