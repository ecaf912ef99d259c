-- How many steps a tape has.
use Rattle.std.specs.Prelude.{ℕ}
use Rattle.std.specs.List.{count_by}
use Rattle.model_says.specs.Tape.{Resumed, Tape}

-- the inputs that began steps
abbrev pub steps_in : Tape → ℕ
steps_in = count_by (λ (entry : Resumed). entry.fresh)
