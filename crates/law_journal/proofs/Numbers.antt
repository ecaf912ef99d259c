-- Numbers in decimal digits are read as what they are.
use Rattle.std.proofs.Common.{◌≡◌, ℕ, ◌+◌, ◌-◌, ◌*◌, ◌/◌, ◌%◌, ◌^◌, ◌<◌, ◌≤◌, Bool, true, List, [], ◌∷◌, ◌++◌, refl, ◌∙◌, arith}
use Rattle.std.specs.Prelude.{fold}
use Rattle.std.specs.List.{list_all}
use Rattle.std.specs.Fmt.{decimal}
use Rattle.std.proofs.lemmas.Fmt.{decimal_by_steps}
use Rattle.std.proofs.lemmas.Bool.{and_parts, and_from}
use Rattle.std.proofs.lemmas.Bool.Decides.{nat_tests}
use Rattle.model_value.specs.Number.{is_digit, digits_value}
use Rattle.model_wire.specs.JournalText.{is_some, are_digits}

abbrev pub IsDecimalOf : ℕ → List ℕ → Type 0
IsDecimalOf n digits = (are_digits digits ≡ true) × (digits_value digits ≡ n)

fold-snoc : (f : ℕ → ℕ → ℕ) (digits : List ℕ) (start digit : ℕ) → fold f start (digits ++ digit ∷ []) ≡ f (fold f start digits) digit
fold-snoc f [] start digit = refl
fold-snoc f (first ∷ digits) start digit = fold-snoc f digits (f start first) digit

all-snoc : (test : ℕ → Bool) (digits : List ℕ) (digit : ℕ) → list_all test digits ≡ true → test digit ≡ true
    → list_all test (digits ++ digit ∷ []) ≡ true
all-snoc test [] digit a d = and_from (test digit) true d refl
all-snoc test (first ∷ digits) digit a d =
    let p = and_parts (test first) (list_all test digits) a in
    and_from (test first) (list_all test (digits ++ digit ∷ [])) p.0 (all-snoc test digits digit p.1 d)

some-snoc : (digits : List ℕ) (digit : ℕ) → is_some (digits ++ digit ∷ []) ≡ true
some-snoc [] digit = refl
some-snoc (first ∷ digits) digit = refl

digit-below : (n : ℕ) → n < 10 → is_digit (48 + n) ≡ true
digit-below n h = grind (arith, nat_tests)

one-digit : (n : ℕ) → n < 10 → IsDecimalOf n ((48 + n) ∷ [])
one-digit n h =
    let value : 10 * 0 + ((48 + n) - 48) ≡ n = omega arith in
    (and_from (is_digit (48 + n)) true (digit-below n h) refl, value)

more-digits : (n : ℕ) (digits : List ℕ) → 10 ≤ n → IsDecimalOf (n / 10) digits → IsDecimalOf n (digits ++ (48 + n % 10) ∷ [])
more-digits n digits h d =
    let last : 10 * digits_value digits + ((48 + n % 10) - 48) ≡ n = omega (arith, d.1) in
    let p = and_parts (is_some digits) (list_all is_digit digits) d.0 in (
      and_from (is_some (digits ++ (48 + n % 10) ∷ [])) (list_all is_digit (digits ++ (48 + n % 10) ∷ [])) (some-snoc digits (48 + n % 10))
          (all-snoc is_digit digits (48 + n % 10) p.1 (digit-below (n % 10) (omega arith))),
      fold-snoc (λ number digit. 10 * number + (digit - 48)) digits 0 (48 + n % 10) ∙ last,
    )

pub decimal-of : (n : ℕ) → n < 2 ^ 64 → IsDecimalOf n (decimal n)
decimal-of n h = decimal_by_steps IsDecimalOf one-digit more-digits n h
