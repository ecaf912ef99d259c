-- What a list knows of its items: what they weigh together, and how deep the deepest is, both up to the greatest number.
use Rattle.std.specs.Prelude.{◌≡◌, ℕ, ◌-◌, ◌^◌, min, List}
use Rattle.model_value.specs.Value.{Value, Exc, values, excs}
use Rattle.model_value.specs.Weight.{items_weight, members_weight}
use Rattle.model_value.specs.Depth.{items_depth, members_depth}

abbrev pub IsCounted : List Value → ℕ → ℕ → Type 0
IsCounted items weight depth =
    (weight ≡ min (items_weight (values items)) (2 ^ 64 - 1)) × (depth ≡ min (items_depth (values items)) (2 ^ 64 - 1))

abbrev pub AreCounted : List Exc → ℕ → ℕ → Type 0
AreCounted members weight depth =
    (weight ≡ min (members_weight (excs members)) (2 ^ 64 - 1)) × (depth ≡ min (members_depth (excs members)) (2 ^ 64 - 1))
