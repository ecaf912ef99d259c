-- Quotients that are rounded down, beside those whose remainder is not negative.
use Rattle.std.proofs.Common.{rules, ◌≡◌, ◌≢◌, ◌^◌, Bool, true, false, not, nat_lt, Ok, Err, lt-ltb, eqb-true, eq-eqb, FitsSigned, w64, if◌then◌else◌, ◌==◌}
use Rattle.std.proofs.Common.{int_div, int_rem, ℕ, zero, suc, ◌+◌, ◌-◌, ◌*◌, ◌/◌, ◌%◌, ◌<◌, ◌≤◌, ℤ, pos, negsuc, ◌+ℤ◌, ◌-ℤ◌, ◌*ℤ◌, neg_ℤ, refl, ap, sym, ◌∙◌}
use Rattle.std.proofs.Common.{subst, lt_of_le_of_lt, div-le_self, arith}
use Rattle.std.proofs.Math.Nat.{div-eq_of_lt-le, div-add-mod', mod-lt, zero-lt-suc}
use Rattle.std.proofs.lemmas.Bool.{false≢true}
use Rattle.std.proofs.lemmas.Int.{quot-rem, ints}
use lib.IntN.{pred_ℤ-*ℤ, -ℤ_one}
use lib.Signed.{mag_rem}
use Rattle.model_value.specs.Value.{Int}
use Rattle.model_says.specs.Operations.{number, out_of_range, divided, floor_quotient, floor_remainder}
use Rattle.aio_expr.specs.Rounding.{rounds_up}

-- the quotient of n is k, where n is k times the divisor and a rest below it
quotient_is : (n d k r : ℕ) → n ≡ k * suc d + r → r ≤ d → n / suc d ≡ k
quotient_is n d k r is below = div-eq_of_lt-le (suc d) (omega (arith, is)) (omega (arith, is, below))

parts : (n d : ℕ) → n ≡ (n / suc d) * suc d + n % suc d
parts n d = sym (div-add-mod' n (suc d))

pub below : (n d : ℕ) → n % suc d ≤ d
below n d = omega (arith, mod-lt n (zero-lt-suc d))

up : (a b : ℕ) → a % suc b ≢ 0 → (a + b) / suc b ≡ suc (a / suc b)
up a b rest = quotient_is (a + b) b (suc (a / suc b)) (a % suc b - 1) (omega (arith, parts a b, rest)) (omega (arith, below a b))

exact : (a b : ℕ) → a % suc b ≡ 0 → (a + b) / suc b ≡ a / suc b
exact a b rest = quotient_is (a + b) b (a / suc b) b (omega (arith, parts a b, rest)) (omega arith)

-- the number before one that the divisor divides, and before one that it does not
before : (a b : ℕ) → suc a % suc b ≡ 0 → suc a / suc b ≡ suc (a / suc b)
before a b rest = go (suc a / suc b) (omega (arith, parts (suc a) b, rest))
  where
    go : (q : ℕ) → suc a ≡ q * suc b → q ≡ suc (a / suc b)
    go zero e = absurd (omega (arith, e))
    go (suc q) e = ap suc (sym (quotient_is a b q b (omega (arith, e)) (omega arith)))

stays : (a b : ℕ) → suc a % suc b ≢ 0 → suc a / suc b ≡ a / suc b
stays a b rest = sym (quotient_is a b (suc a / suc b) (suc a % suc b - 1) (omega (arith, parts (suc a) b, rest)) (omega (arith, below (suc a) b)))

neg_less : (q : ℕ) → neg_ℤ (pos q) -ℤ pos 1 ≡ negsuc q
neg_less zero = refl
neg_less (suc q) = ap negsuc (omega arith)

by_test : (n : ℕ) (x y z : ℤ) → (n ≡ 0 → z ≡ y) → (n ≢ 0 → z ≡ x) → z ≡ (if not (n == 0) then x else y)
by_test n x y z is_zero is_not = go (n == 0) refl
  where
    go : (b : Bool) → (n == 0) ≡ b → z ≡ (if not b then x else y)
    go true e = is_zero (eqb-true n 0 e)
    go false e = is_not (λ zero_is. false≢true (sym e ∙ eq-eqb n 0 zero_is))

pub floor_is : (a d : ℤ) → d ≢ pos 0 → floor_quotient a d ≡ (if rounds_up a d then int_div a d -ℤ pos 1 else int_div a d)
floor_is (pos a) (pos b) h = refl
floor_is (negsuc a) (negsuc b) h = refl
floor_is (pos a) (negsuc b) h =
    by_test (a % suc b) (neg_ℤ (pos (a / suc b)) -ℤ pos 1) (neg_ℤ (pos (a / suc b))) (neg_ℤ (pos ((a + b) / suc b)))
    (λ e. ap (λ q. neg_ℤ (pos q)) (exact a b e)) (λ e. ap (λ q. neg_ℤ (pos q)) (up a b e) ∙ sym (neg_less (a / suc b)))
floor_is (negsuc a) (pos zero) h = absurd (h refl)
floor_is (negsuc a) (pos (suc b)) h =
    by_test (suc a % suc b) (neg_ℤ (pos (suc a / suc b)) -ℤ pos 1) (neg_ℤ (pos (suc a / suc b))) (negsuc (a / suc b))
    (λ e. sym (ap (λ q. neg_ℤ (pos q)) (before a b e))) (λ e. sym (ap (λ q. neg_ℤ (pos q) -ℤ pos 1) (stays a b e) ∙ neg_less (a / suc b)))

-- ---- remainders
less_one : (q d : ℤ) → (q -ℤ pos 1) *ℤ d ≡ q *ℤ d -ℤ d
less_one q d = ap (λ p. p *ℤ d) (-ℤ_one q) ∙ pred_ℤ-*ℤ q d

-- what is left of a where a is p and r
rest_is : (a p r : ℤ) → p +ℤ r ≡ a → a -ℤ p ≡ r
rest_is a p r e = omega (arith, ints, e)

one_more : (a p r d : ℤ) → p +ℤ r ≡ a → a -ℤ (p -ℤ d) ≡ r +ℤ d
one_more a p r d e = omega (arith, ints, e)

by_bool : (up : Bool) (a d q r f : ℤ) → f ≡ (if up then q -ℤ pos 1 else q) → q *ℤ d +ℤ r ≡ a → a -ℤ (f *ℤ d) ≡ (if up then r +ℤ d else r)
by_bool true a d q r f is e = ap (λ x. a -ℤ x) (ap (λ x. x *ℤ d) is ∙ less_one q d) ∙ one_more a (q *ℤ d) r d e
by_bool false a d q r f is e = ap (λ x. a -ℤ (x *ℤ d)) is ∙ rest_is a (q *ℤ d) r e

pub remainder_is : (a d : ℤ) → d ≢ pos 0 → floor_remainder a d ≡ (if rounds_up a d then int_rem a d +ℤ d else int_rem a d)
remainder_is a d h = by_bool (rounds_up a d) a d (int_div a d) (int_rem a d) (floor_quotient a d) (floor_is a d h) (quot-rem a d)

-- ---- what divisions give
pub divided_is : (operation : ℤ → ℤ → ℤ) (a d : ℤ) → d ≢ pos 0 → divided operation a d ≡ number (operation a d)
divided_is operation a (pos zero) h = absurd (h refl)
divided_is operation a (pos (suc b)) h = refl
divided_is operation a (negsuc b) h = refl

in_range : (n : ℕ) (z : ℤ) → n < 2 ^ 63 → (if nat_lt n (2 ^ 63) then Ok (Int z) else Err out_of_range) ≡ Ok (Int z)
in_range n z h = ap (λ b. if b then Ok (Int z) else Err out_of_range) (lt-ltb n (2 ^ 63) h)

pub number_is : (z : ℤ) → FitsSigned w64 z → number z ≡ Ok (Int z)
number_is (pos n) fits = in_range n (pos n) fits.sfits
number_is (negsuc n) fits = in_range n (negsuc n) fits.sfits

-- ---- where the quotient is rounded up
pub floor_up : (a d : ℤ) → d ≢ pos 0 → rounds_up a d ≡ true → floor_quotient a d ≡ int_div a d -ℤ pos 1
floor_up a d h up = floor_is a d h ∙ ap (λ b. if b then int_div a d -ℤ pos 1 else int_div a d) up

pub floor_stays : (a d : ℤ) → d ≢ pos 0 → rounds_up a d ≡ false → floor_quotient a d ≡ int_div a d
floor_stays a d h up = floor_is a d h ∙ ap (λ b. if b then int_div a d -ℤ pos 1 else int_div a d) up

pub remainder_up : (a d : ℤ) → d ≢ pos 0 → rounds_up a d ≡ true → floor_remainder a d ≡ int_rem a d +ℤ d
remainder_up a d h up = remainder_is a d h ∙ ap (λ b. if b then int_rem a d +ℤ d else int_rem a d) up

pub remainder_stays : (a d : ℤ) → d ≢ pos 0 → rounds_up a d ≡ false → floor_remainder a d ≡ int_rem a d
remainder_stays a d h up = remainder_is a d h ∙ ap (λ b. if b then int_rem a d +ℤ d else int_rem a d) up

not_zero : (n : ℕ) → not (n == 0) ≡ true → n ≢ 0
not_zero n up e = false≢true (sym (ap not (eq-eqb n 0 e)) ∙ up)

one_lower_fits : (q a : ℕ) → q ≤ a → a < 2 ^ 63 → FitsSigned w64 (neg_ℤ (pos q) -ℤ pos 1)
one_lower_fits q a below fits = subst (FitsSigned w64) (sym (neg_less q)) (record { sfits = lt_of_le_of_lt below fits })

pub lower_fits : (a d : ℤ) → d ≢ pos 0 → FitsSigned w64 a → rounds_up a d ≡ true → FitsSigned w64 (int_div a d -ℤ pos 1)
lower_fits (pos a) (pos b) h fits up = absurd (false≢true up)
lower_fits (negsuc a) (negsuc b) h fits up = absurd (false≢true up)
lower_fits (pos a) (negsuc b) h fits up = one_lower_fits (a / suc b) a (div-le_self a (suc b)) fits.sfits
lower_fits (negsuc a) (pos zero) h fits up = absurd (h refl)
lower_fits (negsuc a) (pos (suc b)) h fits up =
    one_lower_fits (suc a / suc b) a (subst (λ q. q ≤ a) (sym (stays a b (not_zero (suc a % suc b) up))) (div-le_self a (suc b))) fits.sfits

sum_fits : (r b : ℕ) → r ≤ b → b < 2 ^ 63 → FitsSigned w64 (pos r +ℤ negsuc b)
sum_fits r b le fits = search (rules, ints)

rest_fits : (r b : ℕ) → r ≤ b → suc b < 2 ^ 63 → FitsSigned w64 (neg_ℤ (pos r) +ℤ pos (suc b))
rest_fits zero b le fits = search (rules, ints)
rest_fits (suc r) b le fits = search (rules, ints)

pub lifted_fits : (a d : ℤ) → d ≢ pos 0 → FitsSigned w64 d → rounds_up a d ≡ true → FitsSigned w64 (int_rem a d +ℤ d)
lifted_fits (pos a) (pos b) h fits up = absurd (false≢true up)
lifted_fits (negsuc a) (negsuc b) h fits up = absurd (false≢true up)
lifted_fits (pos a) (negsuc b) h fits up = sum_fits (a % suc b) b (below a b) fits.sfits
lifted_fits (negsuc a) (pos zero) h fits up = absurd (h refl)
lifted_fits (negsuc a) (pos (suc b)) h fits up = rest_fits (suc a % suc b) b (below (suc a) b) fits.sfits

pub int_rem-fits : (a d : ℤ) → FitsSigned w64 a → FitsSigned w64 (int_rem a d)
int_rem-fits a d fits = record { sfits = lt_of_le_of_lt (mag_rem a d) fits.sfits }
