-- What stands under a number at a fork.
use Rattle.std.proofs.Common.{◌≡◌, ℕ, ◌+◌, ◌*◌, ◌/◌, ◌%◌, ◌==◌, Bool, true, false, List, [], ◌∷◌, ◌++◌, map, None, refl, arith, if◌then◌else◌}
use Rattle.std.proofs.lemmas.Bool.Decides.{nat_tests}
use Rattle.aio_ready.specs.Found.{found, low, high}

-- ---- which side
even_same : (number other : ℕ) → number % 2 ≡ 0 → (number == 2 * other) ≡ (number / 2 == other)
even_same number other h = grind (arith, nat_tests)

odd_same : (number other : ℕ) → number % 2 ≡ 1 → (number == 2 * other + 1) ≡ (number / 2 == other)
odd_same number other h = grind (arith, nat_tests)

even_apart : (number other : ℕ) → number % 2 ≡ 0 → (number == 2 * other + 1) ≡ false
even_apart number other h = grind (arith, nat_tests)

odd_apart : (number other : ℕ) → number % 2 ≡ 1 → (number == 2 * other) ≡ false
odd_apart number other h = grind (arith, nat_tests)

none_high : (number : ℕ) (ys : List (ℕ × Bool)) → number % 2 ≡ 0 → found number (map high ys) ≡ None
none_high number [] h = refl
none_high number (y ∷ ys) h = rw (even_apart number y.0 h) (none_high number ys h)

at_high : (number : ℕ) (ys : List (ℕ × Bool)) → number % 2 ≡ 1 → found number (map high ys) ≡ found (number / 2) ys
at_high number [] h = refl
at_high number (y ∷ ys) h = rw (odd_same number y.0 h, at_high number ys h) refl

at_even : (number : ℕ) (xs ys : List (ℕ × Bool)) → number % 2 ≡ 0
    → found number (map low xs ++ map high ys) ≡ found (number / 2) xs
at_even number [] ys h = none_high number ys h
at_even number (x ∷ xs) ys h = rw (even_same number x.0 h, at_even number xs ys h) refl

at_odd : (number : ℕ) (xs ys : List (ℕ × Bool)) → number % 2 ≡ 1
    → found number (map low xs ++ map high ys) ≡ found (number / 2) ys
at_odd number [] ys h = at_high number ys h
at_odd number (x ∷ xs) ys h = rw (odd_apart number x.0 h) (at_odd number xs ys h)

even_is : (number : ℕ) → (number % 2 == 0) ≡ true → number % 2 ≡ 0
even_is number h = grind (arith, nat_tests)

odd_is : (number : ℕ) → (number % 2 == 0) ≡ false → number % 2 ≡ 1
odd_is number h = grind (arith, nat_tests)

side_by : (even : Bool) (number : ℕ) (xs ys : List (ℕ × Bool)) → (number % 2 == 0) ≡ even
    → found number (map low xs ++ map high ys) ≡ (if even then found (number / 2) xs else found (number / 2) ys)
side_by true number xs ys h = at_even number xs ys (even_is number h)
side_by false number xs ys h = at_odd number xs ys (odd_is number h)

-- under a number that isn't the first
pub side_at : (number : ℕ) (xs ys : List (ℕ × Bool))
    → found number (map low xs ++ map high ys) ≡ (if number % 2 == 0 then found (number / 2) xs else found (number / 2) ys)
side_at number xs ys = side_by (number % 2 == 0) number xs ys refl
