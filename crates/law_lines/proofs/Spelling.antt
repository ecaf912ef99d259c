-- The literals of canonical texts say their constants.
use Rattle.std.proofs.Common.{◌≡◌, ℕ, zero, suc, ◌+◌, ◌-◌, ◌*◌, ◌/◌, ◌%◌, ◌^◌, ◌<◌, ◌≤◌, Bool, true, false, ◌&&◌, List, [], ◌∷◌, ◌++◌, length, Option, Some}
use Rattle.std.proofs.Common.{None, refl, sym, ap, subst, ◌∙◌, arith, nat_eq}
use Rattle.std.specs.Prelude.{fold}
use Rattle.std.specs.List.{list_all, AllByRecursion}
use Rattle.std.specs.Char.{is_ascii_digit}
use Rattle.std.specs.Fmt.{decimal}
use Rattle.std.proofs.lemmas.Fmt.{decimal_by_steps}
use Rattle.std.proofs.lemmas.List.{length-append}
use Rattle.std.proofs.lemmas.Bool.{and_parts, and_from, eqb-true}
use Rattle.std.proofs.lemmas.Bool.Decides.{nat_tests}
use Rattle.model_value.specs.declared.place.Place.{Place}
use Rattle.model_value.specs.declared.place.Place.TheVariants.{InText, InBytes}
use Rattle.model_value.specs.Escapes.{escaped_byte, escaped, text_literal, bytes_literal}
use Rattle.model_text.specs.declared.literal.Literal.{Literal}
use Rattle.model_text.specs.declared.literal.Literal.TheVariants.{OfText, OfBytes}
use Rattle.model_text.specs.Literals.{part_value}
use Rattle.model_text.specs.Tokens.{number_of}
use Rattle.model_text.specs.Lines.{Says, IsLiteral, IsDecimal}

-- ---- what holds of each number below a bound, since it was computed
abbrev pub all_below : ℕ → (ℕ → Bool) → Bool
all_below zero test = true
all_below (suc n) test = test n && all_below n test

by_order : (n : ℕ) (test : ℕ → Bool) (b : ℕ) → test n ≡ true → (same : Bool) → nat_eq b n ≡ same → (b < n → test b ≡ true) → b < suc n → test b ≡ true
by_order n test b p true s others h = subst (λ k. test k ≡ true) (sym (eqb-true b n s)) p
by_order n test b p false s others h = others (grind (arith, nat_tests))

pub below : (n : ℕ) (test : ℕ → Bool) (b : ℕ) → all_below n test ≡ true → b < n → test b ≡ true
below zero test b e h = absurd (omega arith)
below (suc n) test b e h =
    let p = and_parts (test n) (all_below n test) e in
    by_order n test b p.0 (nat_eq b n) refl (λ smaller. below n test b p.1 smaller) h

-- ---- escapes
abbrev is_value : Option ℕ → ℕ → Bool
is_value None b = false
is_value (Some value) b = nat_eq value b

value-some : (value : Option ℕ) (b : ℕ) → is_value value b ≡ true → value ≡ Some b
value-some None b e = cc
value-some (Some value) b e = ap Some (eqb-true value b e)

abbrev says_byte : Literal → Place → ℕ → Bool
says_byte literal place b = is_value (part_value literal (escaped_byte place b)) b

text_computed : all_below 128 (says_byte OfText InText) ≡ true
text_computed = refl

bytes_computed : all_below 256 (says_byte OfBytes InBytes) ≡ true
bytes_computed = refl

escapes-say : (literal : Literal) (place : Place) (bound : ℕ) → all_below bound (says_byte literal place) ≡ true → (bytes : List ℕ)
    → AllByRecursion (λ byte. byte < bound) bytes → Says literal bytes (escaped place bytes)
escapes-say literal place bound e [] a = refl
escapes-say literal place bound e (byte ∷ bytes) a = (
  escaped_byte place byte,
  escaped place bytes,
  refl,
  value-some (part_value literal (escaped_byte place byte)) byte (below bound (says_byte literal place) byte e a.0),
  escapes-say literal place bound e bytes a.1,
)

pub text-literal : (bytes : List ℕ) → AllByRecursion (λ byte. byte < 128) bytes → IsLiteral OfText bytes (text_literal bytes)
text-literal bytes a = (escaped InText bytes, refl, escapes-say OfText InText 128 text_computed bytes a)

pub bytes-literal : (bytes : List ℕ) → AllByRecursion (λ byte. byte < 256) bytes → IsLiteral OfBytes bytes (bytes_literal bytes)
bytes-literal bytes a = (escaped InBytes bytes, refl, escapes-say OfBytes InBytes 256 bytes_computed bytes a)

-- ---- decimal digits
abbrev IsDecimalOf : ℕ → List ℕ → Type 0
IsDecimalOf n digits = (list_all is_ascii_digit digits ≡ true) × (number_of digits ≡ n) × (0 < length digits)

fold-snoc : (f : ℕ → ℕ → ℕ) (digits : List ℕ) (start digit : ℕ) → fold f start (digits ++ digit ∷ []) ≡ f (fold f start digits) digit
fold-snoc f [] start digit = refl
fold-snoc f (first ∷ digits) start digit = fold-snoc f digits (f start first) digit

all-snoc : (test : ℕ → Bool) (digits : List ℕ) (digit : ℕ) → list_all test digits ≡ true → test digit ≡ true → list_all test (digits ++ digit ∷ []) ≡ true
all-snoc test [] digit a d = and_from (test digit) true d refl
all-snoc test (first ∷ digits) digit a d =
    let p = and_parts (test first) (list_all test digits) a in
    and_from (test first) (list_all test (digits ++ digit ∷ [])) p.0 (all-snoc test digits digit p.1 d)

digit-below : (n : ℕ) → n < 10 → is_ascii_digit (48 + n) ≡ true
digit-below n h = grind (arith, nat_tests)

one-digit : (n : ℕ) → n < 10 → IsDecimalOf n ((48 + n) ∷ [])
one-digit n h =
    let value : 10 * 0 + ((48 + n) - 48) ≡ n = omega arith in
    (and_from (is_ascii_digit (48 + n)) true (digit-below n h) refl, value, omega arith)

more-digits : (n : ℕ) (digits : List ℕ) → 10 ≤ n → IsDecimalOf (n / 10) digits → IsDecimalOf n (digits ++ (48 + n % 10) ∷ [])
more-digits n digits h d =
    let last : 10 * number_of digits + ((48 + n % 10) - 48) ≡ n = omega (arith, d.1) in (
      all-snoc is_ascii_digit digits (48 + n % 10) d.0 (digit-below (n % 10) (omega arith)),
      fold-snoc (λ number digit. 10 * number + (digit - 48)) digits 0 (48 + n % 10) ∙ last,
      omega (arith, length-append digits ((48 + n % 10) ∷ [])),
    )

decimal-of : (n : ℕ) → n < 2 ^ 64 → IsDecimalOf n (decimal n)
decimal-of n h = decimal_by_steps IsDecimalOf one-digit more-digits n h

pub decimal-digits : (n : ℕ) → n < 2 ^ 63 → IsDecimal (decimal n) × (number_of (decimal n) ≡ n)
decimal-digits n h =
    let d = decimal-of n (omega arith) in
    ((d.2, d.0), d.1)
