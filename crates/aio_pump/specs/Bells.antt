-- How often a bell was rung, where that is told.
use Rattle.std.specs.Prelude.{ℕ, ◌+◌, ◌-◌, ◌^◌, Option, Some, None, min}

-- once more: the number rises, unless it stands at the last value of its type
abbrev pub rung : Option ℕ → Option ℕ
rung None = None
rung (Some rings) = Some (min (rings + 1) (2 ^ 64 - 1))
