-- The place that an index names in a sequence of so many items.
use Rattle.std.specs.Prelude.{ℕ, suc, ◌-◌, ℤ, pos, negsuc, Option, Some, None, nat_lt, if◌then◌else◌}

abbrev pub place_of : (len : ℕ) → ℤ → Option ℕ
place_of len (pos index) = if nat_lt index len then Some index else None
place_of len (negsuc index) = if nat_lt index len then Some (len - suc index) else None
