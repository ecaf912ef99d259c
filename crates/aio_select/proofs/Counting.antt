-- The bytes of the items so far.
use Rattle.std.proofs.Common.{◌≡◌, ℕ, zero, suc, ◌+◌, ◌-◌, ◌^◌, ◌≤◌, List, [], ◌∷◌, ◌++◌, map, sum, take, min, ap, ◌∙◌, arith}
use Rattle.std.proofs.lemmas.Grind.{common_steps}
use Rattle.model_wire.specs.Call.{Item}
use Rattle.model_wire.specs.Fits.{bytes_in, most_bytes}
use Rattle.aio_select.proofs.Growing.{sum_more}

front : (f : Item → ℕ) (xs : List Item) (n : ℕ) → sum (map f (take n xs)) ≤ sum (map f xs)
front f [] zero = omega arith
front f [] (suc n) = omega arith
front f (x ∷ xs) zero = omega arith
front f (x ∷ xs) (suc n) =
    let rest = front f xs n in
    grind (arith, common_steps)

pub counted_more : (xs : List Item) (n m now : ℕ) (x : Item) → take (n + 1) xs ≡ take n xs ++ x ∷ [] → sum (map bytes_in xs) ≤ most_bytes
    → m ≡ sum (map bytes_in (take n xs)) → now ≡ min (m + bytes_in x) (2 ^ 64 - 1) → now ≡ sum (map bytes_in (take (n + 1) xs))
counted_more xs n m now x whole few is now_is =
    let more = ap (λ (l : List Item). sum (map bytes_in l)) whole ∙ sum_more (take n xs) x in
    omega (arith, more, front bytes_in xs (n + 1), few, is, now_is)

pub least_of : (m b c now : ℕ) → now ≡ min (m + b) (2 ^ 64 - 1) → b ≡ c → now ≡ min (m + c) (2 ^ 64 - 1)
least_of m b c now is same = is ∙ ap (λ x. min (m + x) (2 ^ 64 - 1)) same
