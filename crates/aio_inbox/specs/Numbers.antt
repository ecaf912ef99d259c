-- The posts of one seat.
use Rattle.std.specs.Prelude.{◌≡◌, ℕ, List}
use mathlib.Core.Option.{some}
use lib.ListN.{get_elem?}
use Rattle.model_pump.specs.Posts.{Post}

-- each is of the seat, and the i-th has number i, counted from 0
abbrev pub IsNumbered : ℕ → List Post → Type 0
IsNumbered seat posts = (i : ℕ) (p : Post) → get_elem? posts i ≡ some p → (p.seat ≡ seat) × (p.number ≡ i)
