-- Numbers that aren't negative.
use Rattle.std.specs.Prelude.{ℕ, ℤ, pos, negsuc, Option, Some, None}

abbrev pub nat_in : ℤ → Option ℕ
nat_in (pos n) = Some n
nat_in (negsuc before) = None
