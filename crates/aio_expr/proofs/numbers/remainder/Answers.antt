use Rattle.std.proofs.Common.{◌≡◌, ◌≢◌, true, false, Ok, pos, ◌+ℤ◌, FitsSigned, w64, to_z, of_z, to_z-of_z, int_rem, sym, ◌∙◌, ap, ap₂, subst}
use Rattle.model_value.specs.Value.{Int}
use Rattle.model_says.specs.Operations.{number, floor_remainder}
use Rattle.aio_expr.specs.Rounding.{rounds_up}
use Rattle.aio_expr.proofs.Floors.{divided_is, number_is, remainder_up, remainder_stays, lifted_fits, int_rem-fits}
use Rattle.aio_expr.proofs.numbers.remainder.Goals as goal

pub returns-in-Some : goal.returns-in-Some
returns-in-Some c =
    let a = c.args.a in
    let b = c.args.b in
    let nonzero : b ≢ pos 0 = λ e. c.if-b-eq0.false (ap (of_z w64) e) in
    let test = (simp (to_z-of_z c.ranges.a, to_z-of_z c.ranges.b) at c.rounds_up.ensures) in
    let up : rounds_up a b ≡ true = sym test ∙ c.if-rounds_up.true in
    let left = (simp (to_z-of_z c.ranges.a, to_z-of_z c.ranges.b) at c.in-Some.ensures) in
    let fits : FitsSigned w64 c.in-Some.left = subst (FitsSigned w64) (sym left.1) (int_rem-fits a b c.ranges.a) in
    let lifted : FitsSigned w64 (int_rem a b +ℤ b) = lifted_fits a b nonzero c.ranges.b up in
    let sum = ap₂ (λ x y. x +ℤ y) (to_z-of_z fits ∙ left.1) (to_z-of_z c.ranges.b) in
    let is : c.int.result ≡ Int (int_rem a b +ℤ b) =
    c.int.ensures ∙ ap (λ z. Int (to_z w64 (of_z w64 z))) sum ∙ ap Int (to_z-of_z lifted) in
    divided_is floor_remainder a b nonzero ∙ ap number (remainder_up a b nonzero up) ∙ number_is (int_rem a b +ℤ b) lifted ∙ ap Ok (sym is)

pub returns-in-Some-2 : goal.returns-in-Some-2
returns-in-Some-2 c =
    let a = c.args.a in
    let b = c.args.b in
    let nonzero : b ≢ pos 0 = λ e. c.if-b-eq0.false (ap (of_z w64) e) in
    let test = (simp (to_z-of_z c.ranges.a, to_z-of_z c.ranges.b) at c.rounds_up.ensures) in
    let stays : rounds_up a b ≡ false = sym test ∙ c.if-rounds_up.false in
    let left = (simp (to_z-of_z c.ranges.a, to_z-of_z c.ranges.b) at c.in-Some.ensures) in
    let fits = int_rem-fits a b c.ranges.a in
    let is : c.int-in-Some-2.result ≡ Int (int_rem a b) =
    c.int-in-Some-2.ensures ∙ ap Int (to_z-of_z (subst (FitsSigned w64) (sym left.1) fits) ∙ left.1) in
    divided_is floor_remainder a b nonzero ∙ ap number (remainder_stays a b nonzero stays) ∙ number_is (int_rem a b) fits ∙ ap Ok (sym is)
