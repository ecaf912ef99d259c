-- What stands at a fork.
use Rattle.std.specs.Prelude.{ℕ, Bool, List, [], ◌∷◌, ◌++◌, map}
use Rattle.aio_ready.specs.declared.index.Fork.{Fork}
use Rattle.aio_ready.specs.declared.index.Fork.TheVariants.{Tip, More}
use Rattle.aio_ready.specs.Found.{low, high, IsHalf}

abbrev pub entries_of : Fork → List (ℕ × Bool)
entries_of Tip = []
entries_of (More number dead sides) = (number, dead) ∷ map low sides.value.0 ++ map high sides.value.1

abbrev pub AreHalves : Fork → Type 0
AreHalves Tip = Unit {0}
AreHalves (More number dead sides) = IsHalf sides.value.0 × IsHalf sides.value.1
