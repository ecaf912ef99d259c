-- A remainder of a negative divisor is above it, and at most 0.
use Rattle.std.proofs.Common.{◌≡◌, ◌≢◌, ℕ, suc, ◌%◌, ◌≤◌, ℤ, pos, negsuc, ◌+ℤ◌, neg_ℤ, ◌<ℤ◌, ◌≤ℤ◌, Bool, true, false, not, if◌then◌else◌, ◌==◌, Ok, Err, refl}
use Rattle.std.proofs.Common.{ap, sym, subst, arith}
use Rattle.std.specs.Result.{result_unwrap_or}
use Rattle.std.proofs.lemmas.Bool.{eqb-true, eqb-false}
use Rattle.std.proofs.lemmas.Int.{ints}
use Rattle.model_value.specs.Value.{Value, Nothing, Int}
use Rattle.model_says.specs.Operations.{fits, divided, floor_remainder, out_of_range}
use Rattle.aio_expr.proofs.Floors.{below, remainder_is}

IsBetween : ℕ → ℤ → Type 0
IsBetween n z = (negsuc n <ℤ z) × (z ≤ℤ pos 0)

at_zero : (r n : ℕ) → r ≡ 0 → IsBetween n (pos r)
unfolding IsBetween
at_zero r n e = (omega (arith, ints, e), omega (arith, ints, e))

lifted : (r n : ℕ) → r ≤ n → r ≢ 0 → IsBetween n (pos r +ℤ negsuc n)
unfolding IsBetween
lifted r n le e = (omega (arith, ints, le, e), omega (arith, ints, le, e))

lowered : (r n : ℕ) → r ≤ n → IsBetween n (neg_ℤ (pos r))
unfolding IsBetween
lowered r n le = (omega (arith, ints, le), omega (arith, ints, le))

by_test : (r n : ℕ) → r ≤ n → IsBetween n (if not (r == 0) then pos r +ℤ negsuc n else pos r)
by_test r n le = go (r == 0) refl
  where
    go : (b : Bool) → (r == 0) ≡ b → IsBetween n (if not b then pos r +ℤ negsuc n else pos r)
    go true e = at_zero r n (eqb-true r 0 e)
    go false e = lifted r n le (eqb-false r 0 e)

not_zero : (n : ℕ) → negsuc n ≢ pos 0
not_zero n e = absurd cc

between : (a : ℤ) (n : ℕ) → IsBetween n (floor_remainder a (negsuc n))
between (pos a) n = subst (IsBetween n) (sym (remainder_is (pos a) (negsuc n) (not_zero n))) (by_test (a % suc n) n (below a n))
between (negsuc a) n = subst (IsBetween n) (sym (remainder_is (negsuc a) (negsuc n) (not_zero n))) (lowered (suc a % suc n) n (below (suc a) n))

abbrev int_in : Value → ℤ
int_in (Int z) = z
int_in _ = pos 0

given : (test : Bool) (z r : ℤ) → (if test then Ok (Int z) else Err out_of_range) ≡ Ok (Int r) → z ≡ r
given true z r e = ap (λ a. int_in (result_unwrap_or a Nothing)) e
given false z r e = absurd cc

pub remainder-below : (a b r : ℤ) → b <ℤ pos 0 → divided floor_remainder a b ≡ Ok (Int r) → (b <ℤ r) × (r ≤ℤ pos 0)
unfolding IsBetween
remainder-below a (pos n) r negative e = absurd (omega (arith, ints, negative))
remainder-below a (negsuc n) r negative e =
    subst (λ z. (negsuc n <ℤ z) × (z ≤ℤ pos 0)) (given (fits (floor_remainder a (negsuc n))) (floor_remainder a (negsuc n)) r e) (between a n)
