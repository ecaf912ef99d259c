-- What two lists in a row weigh, and how deep they are.
use Rattle.std.proofs.Common.{◌≡◌, ℕ, ◌+◌, ◌-◌, ◌^◌, min, max, List, [], ◌∷◌, ◌++◌, arith}
use Rattle.model_value.specs.Value.{Value, values}
use Rattle.model_value.specs.Weight.{items_weight}
use Rattle.model_value.specs.Depth.{items_depth}
use Rattle.aio_base.specs.Counted.{IsCounted}

pub items_weight-append : (xs ys : List Value) → items_weight (values (xs ++ ys)) ≡ items_weight (values xs) + items_weight (values ys)
items_weight-append [] ys = omega arith
items_weight-append (x ∷ xs) ys = omega (arith, items_weight-append xs ys)

pub items_depth-append : (xs ys : List Value) → items_depth (values (xs ++ ys)) ≡ max (items_depth (values xs)) (items_depth (values ys))
items_depth-append [] ys = omega arith
items_depth-append (x ∷ xs) ys = omega (arith, items_depth-append xs ys)

pub joined_counted : (xs ys : List Value) (weight deep other_weight other_deep : ℕ) → IsCounted xs weight deep
    → IsCounted ys other_weight other_deep → IsCounted (xs ++ ys) (min (weight + other_weight) (2 ^ 64 - 1)) (max deep other_deep)
joined_counted xs ys weight deep other_weight other_deep h k =
    (omega (arith, items_weight-append xs ys, h.0, k.0), omega (arith, items_depth-append xs ys, h.1, k.1))
