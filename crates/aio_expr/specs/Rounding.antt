-- Where rounding toward zero rounds up.
use Rattle.std.specs.Prelude.{suc, ◌%◌, ◌==◌, ℤ, pos, negsuc, Bool, false, not}

-- the quotient is below zero and no whole number
abbrev pub rounds_up : ℤ → ℤ → Bool
rounds_up (pos a) (negsuc b) = not (a % suc b == 0)
rounds_up (negsuc a) (pos b) = not (suc a % b == 0)
rounds_up _ _ = false
