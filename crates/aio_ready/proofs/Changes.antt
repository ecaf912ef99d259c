-- What a change on one side of a fork comes to.
use Rattle.std.proofs.Common.{◌≡◌, ℕ, ◌+◌, ◌*◌, ◌/◌, ◌%◌, ◌^◌, ◌<◌, ◌≤◌, ◌==◌, Bool, true, false, List, [], ◌∷◌, ◌++◌, map, Option, Some, None, refl, sym, ◌∙◌, inl, inr, arith, if◌then◌else◌}
use Rattle.std.specs.Option.{option_map}
use Rattle.std.proofs.lemmas.Bool.{true≢false, false≢true, cases_order}
use Rattle.std.proofs.lemmas.Bool.Decides.{nat_tests}
use Rattle.aio_ready.specs.Found.{found, begins_with, low, high, IsHalf, IsChanged, IsMarked, IsPut, IsTaken, Lifted}
use Rattle.aio_ready.proofs.Forks.{side_at}

-- ---- tests on numbers
same_even : (number other : ℕ) → (number == other) ≡ true → (number % 2 == 0) ≡ (other % 2 == 0)
same_even number other h = grind (arith, nat_tests)

same_half : (number other : ℕ) → (number % 2 == 0) ≡ (other % 2 == 0) → (number / 2 == other / 2) ≡ (number == other)
same_half number other h = grind (arith, nat_tests)

apart_from : (own number other : ℕ) → (own == number) ≡ false → (number == other) ≡ true → (other == own) ≡ false
apart_from own number other h k = grind (arith, nat_tests)

turned : (number other : ℕ) → (number == other) ≡ (other == number)
turned number other = grind (arith, nat_tests)

same_self : (number : ℕ) → (number == number) ≡ true
same_self number = grind (arith, nat_tests)

-- ---- a change on the first side, and on the other
low_by : (change : Option Bool → Option Bool) (same first even said : Bool) (x new y : Option Bool)
    → (same ≡ true → first ≡ false) → (same ≡ true → even ≡ true) → (even ≡ true → new ≡ (if same then change x else x))
    → (if first then Some said else (if even then new else y))
    ≡ (if same then change (if first then Some said else (if even then x else y)) else (if first then Some said else (if even then x else y)))
low_by change true true even said x new y f e h = absurd (true≢false (f refl))
low_by change true false true said x new y f e h = h refl
low_by change true false false said x new y f e h = absurd (false≢true (e refl))
low_by change false true even said x new y f e h = refl
low_by change false false true said x new y f e h = h refl
low_by change false false false said x new y f e h = refl

high_by : (change : Option Bool → Option Bool) (same first even said : Bool) (x y new : Option Bool)
    → (same ≡ true → first ≡ false) → (same ≡ true → even ≡ false) → (even ≡ false → new ≡ (if same then change y else y))
    → (if first then Some said else (if even then x else new))
    ≡ (if same then change (if first then Some said else (if even then x else y)) else (if first then Some said else (if even then x else y)))
high_by change true true even said x y new f e h = absurd (true≢false (f refl))
high_by change true false true said x y new f e h = absurd (true≢false (e refl))
high_by change true false false said x y new f e h = h refl
high_by change false true even said x y new f e h = refl
high_by change false false true said x y new f e h = refl
high_by change false false false said x y new f e h = h refl

pub low_changed : (change : Option Bool → Option Bool) (number own : ℕ) (said : Bool) (xs new ys : List (ℕ × Bool))
    → (own == number) ≡ false → (number % 2 == 0) ≡ true → IsChanged change (number / 2) xs new
    → IsChanged change number ((own, said) ∷ map low xs ++ map high ys) ((own, said) ∷ map low new ++ map high ys)
low_changed change number own said xs new ys f e h other =
    rw (side_at other new ys, side_at other xs ys)
    (low_by change (number == other) (other == own) (other % 2 == 0) said (found (other / 2) xs) (found (other / 2) new)
    (found (other / 2) ys) (λ k. apart_from own number other f k) (λ k. sym (same_even number other k) ∙ e)
    (λ k. rw (← same_half number other (e ∙ sym k)) (h (other / 2))))

pub high_changed : (change : Option Bool → Option Bool) (number own : ℕ) (said : Bool) (xs ys new : List (ℕ × Bool))
    → (own == number) ≡ false → (number % 2 == 0) ≡ false → IsChanged change (number / 2) ys new
    → IsChanged change number ((own, said) ∷ map low xs ++ map high ys) ((own, said) ∷ map low xs ++ map high new)
high_changed change number own said xs ys new f e h other =
    rw (side_at other xs new, side_at other xs ys)
    (high_by change (number == other) (other == own) (other % 2 == 0) said (found (other / 2) xs) (found (other / 2) ys)
    (found (other / 2) new) (λ k. apart_from own number other f k) (λ k. sym (same_even number other k) ∙ e)
    (λ k. rw (← same_half number other (e ∙ sym k)) (h (other / 2))))

-- ---- a change of the first
first_by : (same said : Bool) (rest : Option Bool)
    → (if same then Some true else rest) ≡ (if same then option_map (λ _. true) (if same then Some said else rest) else (if same then Some said else rest))
first_by true said rest = refl
first_by false said rest = refl

pub first_marked : (own number : ℕ) (said : Bool) (others : List (ℕ × Bool)) → (own == number) ≡ true
    → IsMarked number ((own, said) ∷ others) ((own, true) ∷ others)
first_marked own number said others h other =
    let is : own ≡ number = grind (arith, nat_tests) in
    rw (← is, turned own other) (first_by (other == own) said (found other others))

either_way : (same : Bool) (x : Option Bool) → x ≡ (if same then x else x)
either_way true x = refl
either_way false x = refl

pub none_marked : (number : ℕ) → IsMarked number [] []
none_marked number other = either_way (number == other) None

pub only_put : (number : ℕ) → IsPut number [] ((number, false) ∷ [])
only_put number other = rw (turned number other) refl

-- ---- all others stand as before
low_kept_by : (first even said : Bool) (x new y : Option Bool) → (even ≡ true → new ≡ x)
    → (if first then Some said else (if even then new else y)) ≡ (if first then Some said else (if even then x else y))
low_kept_by true even said x new y h = refl
low_kept_by false true said x new y h = h refl
low_kept_by false false said x new y h = refl

high_kept_by : (first even said : Bool) (x y new : Option Bool) → (even ≡ false → new ≡ y)
    → (if first then Some said else (if even then x else new)) ≡ (if first then Some said else (if even then x else y))
high_kept_by true even said x y new h = refl
high_kept_by false true said x y new h = refl
high_kept_by false false said x y new h = h refl

pub low_taken : (number own : ℕ) (said : Bool) (xs new ys : List (ℕ × Bool)) → (number % 2 == 0) ≡ true
    → IsTaken (number / 2) xs new
    → IsTaken number ((own, said) ∷ map low xs ++ map high ys) ((own, said) ∷ map low new ++ map high ys)
low_taken number own said xs new ys e h other apart =
    rw (side_at other new ys, side_at other xs ys)
    (low_kept_by (other == own) (other % 2 == 0) said (found (other / 2) xs) (found (other / 2) new) (found (other / 2) ys)
    (λ k. h (other / 2) (same_half number other (e ∙ sym k) ∙ apart)))

pub high_taken : (number own : ℕ) (said : Bool) (xs ys new : List (ℕ × Bool)) → (number % 2 == 0) ≡ false
    → IsTaken (number / 2) ys new
    → IsTaken number ((own, said) ∷ map low xs ++ map high ys) ((own, said) ∷ map low xs ++ map high new)
high_taken number own said xs ys new e h other apart =
    rw (side_at other xs new, side_at other xs ys)
    (high_kept_by (other == own) (other % 2 == 0) said (found (other / 2) xs) (found (other / 2) ys) (found (other / 2) new)
    (λ k. h (other / 2) (same_half number other (e ∙ sym k) ∙ apart)))

-- what stands under a number that isn't the first stands on its side
pub found_low : (number own : ℕ) (said : Bool) (xs ys : List (ℕ × Bool)) → (own == number) ≡ false
    → (number % 2 == 0) ≡ true → found number ((own, said) ∷ map low xs ++ map high ys) ≡ found (number / 2) xs
found_low number own said xs ys f e = rw (turned number own, f, side_at number xs ys, e) refl

pub found_high : (number own : ℕ) (said : Bool) (xs ys : List (ℕ × Bool)) → (own == number) ≡ false
    → (number % 2 == 0) ≡ false → found number ((own, said) ∷ map low xs ++ map high ys) ≡ found (number / 2) ys
found_high number own said xs ys f e = rw (turned number own, f, side_at number xs ys, e) refl

-- ---- doubles that fit
differ : (number other : ℕ) → number < 2 ^ 63 → 2 ^ 63 ≤ other → (number == other) ≡ false
differ number other h k = grind (arith, nat_tests)

pub half_changed : (change : Option Bool → Option Bool) (number : ℕ) (xs new : List (ℕ × Bool)) → number < 2 ^ 63
    → IsChanged change number xs new → IsHalf xs → IsHalf new
half_changed change number xs new small h is other k = h other ∙ rw (differ number other small k) (is other k)

pub half_taken : (number : ℕ) (xs new : List (ℕ × Bool)) → number < 2 ^ 63 → IsTaken number xs new → IsHalf xs → IsHalf new
half_taken number xs new small h is other k = h other (differ number other small k) ∙ is other k

pub fits : (number : ℕ) (said : Bool) (xs : List (ℕ × Bool)) → IsHalf xs → found number xs ≡ Some said → number < 2 ^ 63
fits number said xs is h =
    elim (cases_order number (2 ^ 63)) [
      | inl same ↦ let none = is number (omega (arith, same)) in absurd (cc)
      | inr (inl less) ↦ less
      | inr (inr more) ↦ let none = is number (omega (arith, more)) in absurd (cc)
    ]

-- ---- the first leaves, and the first of a side takes its place
low_lifted_by : (first even other : Bool) (x new y : Option Bool) → (first ≡ true → even ≡ true) → (first ≡ true → x ≡ Some other)
    → (first ≡ false → even ≡ true → new ≡ x)
    → (if first then Some other else (if even then new else y)) ≡ (if even then x else y)
low_lifted_by true true other x new y e s h = sym (s refl)
low_lifted_by true false other x new y e s h = absurd (false≢true (e refl))
low_lifted_by false true other x new y e s h = h refl refl
low_lifted_by false false other x new y e s h = refl

high_lifted_by : (first even other : Bool) (x y new : Option Bool) → (first ≡ true → even ≡ false) → (first ≡ true → y ≡ Some other)
    → (first ≡ false → even ≡ false → new ≡ y)
    → (if first then Some other else (if even then x else new)) ≡ (if even then x else y)
high_lifted_by true true other x y new e s h = absurd (true≢false (e refl))
high_lifted_by true false other x y new e s h = sym (s refl)
high_lifted_by false true other x y new e s h = refl
high_lifted_by false false other x y new e s h = h refl refl

double_even : (number half : ℕ) → (number == 2 * half) ≡ true → (number % 2 == 0) ≡ true
double_even number half h = grind (arith, nat_tests)

more_odd : (number half : ℕ) → (number == 2 * half + 1) ≡ true → (number % 2 == 0) ≡ false
more_odd number half h = grind (arith, nat_tests)

double_half : (number half : ℕ) → (number == 2 * half) ≡ true → number / 2 ≡ half
double_half number half h = grind (arith, nat_tests)

more_half : (number half : ℕ) → (number == 2 * half + 1) ≡ true → number / 2 ≡ half
more_half number half h = grind (arith, nat_tests)

double_apart : (number half : ℕ) → (number == 2 * half) ≡ false → (number % 2 == 0) ≡ true → (half == number / 2) ≡ false
double_apart number half h k = grind (arith, nat_tests)

more_apart : (number half : ℕ) → (number == 2 * half + 1) ≡ false → (number % 2 == 0) ≡ false → (half == number / 2) ≡ false
more_apart number half h k = grind (arith, nat_tests)

pub low_lifted : (own half : ℕ) (said other : Bool) (xs new ys : List (ℕ × Bool)) → Lifted half other xs new
    → Lifted own said ((own, said) ∷ map low xs ++ map high ys) ((2 * half, other) ∷ map low new ++ map high ys)
low_lifted own half said other xs new ys h = record {
  first = rw (same_self own) refl;
  begins = same_self own;
  others = λ number apart.
      rw (turned number own, apart, side_at number new ys, side_at number xs ys)
      (low_lifted_by (number == 2 * half) (number % 2 == 0) other (found (number / 2) xs) (found (number / 2) new)
      (found (number / 2) ys) (λ k. double_even number half k) (λ k. rw (double_half number half k) h.first)
      (λ k e. h.others (number / 2) (double_apart number half k e)));
}

pub high_lifted : (own half : ℕ) (said other : Bool) (xs ys new : List (ℕ × Bool)) → Lifted half other ys new
    → Lifted own said ((own, said) ∷ map low xs ++ map high ys) ((2 * half + 1, other) ∷ map low xs ++ map high new)
high_lifted own half said other xs ys new h = record {
  first = rw (same_self own) refl;
  begins = same_self own;
  others = λ number apart.
      rw (turned number own, apart, side_at number xs new, side_at number xs ys)
      (high_lifted_by (number == 2 * half + 1) (number % 2 == 0) other (found (number / 2) xs) (found (number / 2) ys)
      (found (number / 2) new) (λ k. more_odd number half k) (λ k. rw (more_half number half k) h.first)
      (λ k e. h.others (number / 2) (more_apart number half k e)));
}

pub only_lifted : (own : ℕ) (said : Bool) → Lifted own said ((own, said) ∷ []) []
only_lifted own said = record {
  first = rw (same_self own) refl;
  begins = same_self own;
  others = λ number apart. rw (turned number own, apart) refl;
}

-- the first is the one that it begins with
pub lifted_is : (number first : ℕ) (xs : List (ℕ × Bool)) → begins_with number xs ≡ true → begins_with first xs ≡ true → first ≡ number
lifted_is number first [] h k = absurd (false≢true h)
lifted_is number first (x ∷ xs) h k = grind (arith, nat_tests)
