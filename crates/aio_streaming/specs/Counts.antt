-- How many bytes a read asks for at most.
use Rattle.std.specs.Prelude.{ℕ, ℤ, pos, negsuc, Option, Some, None}

-- none says that it reads till the end
abbrev pub natural_in : ℤ → Option ℕ
natural_in (pos count) = Some count
natural_in (negsuc before) = None
