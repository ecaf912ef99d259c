-- Values by their numbers.
use Rattle.std.specs.Prelude.{ℕ, List, slice_get, unwrap_or}
use Rattle.model_value.specs.Value.{Value, Nothing}

-- the value with a number; past the last, None
abbrev pub value_in : List Value → ℕ → Value
value_in values number = unwrap_or (slice_get values number) Nothing
