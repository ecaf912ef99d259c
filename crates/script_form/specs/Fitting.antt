-- What is kept of what was read: only what isn't too high.
-- Source: the definition of where lines may stand (model_text, specs/Places.antt), which refuses what is higher.
use Rattle.std.specs.Prelude.{ℕ, max, Option, Some, None, nat_le, if◌then◌else◌}
use Rattle.model_text.specs.Levels.{Arguments}
use Rattle.model_text.specs.Places.{most_height, heights}

-- it, where its height is at most the greatest
abbrev pub fitting : {A : Type 0} → (A → ℕ) → A → Option A
fitting height_of it = if nat_le (height_of it) most_height then Some it else None

abbrev pub height_of_arguments : Arguments → ℕ
height_of_arguments arguments = max (heights arguments.before) (heights arguments.after)
