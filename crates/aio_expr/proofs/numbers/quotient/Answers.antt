use Rattle.std.proofs.Common.{◌≡◌, ◌≢◌, true, false, Ok, pos, ◌-ℤ◌, FitsSigned, w64, to_z, of_z, to_z-of_z, int_div, sym, ◌∙◌, ap, subst}
use Rattle.model_value.specs.Value.{Int}
use Rattle.model_says.specs.Operations.{number, floor_quotient}
use Rattle.aio_expr.specs.Rounding.{rounds_up}
use Rattle.aio_expr.proofs.Floors.{divided_is, number_is, floor_up, floor_stays, lower_fits}
use Rattle.aio_expr.proofs.numbers.quotient.Goals as goal

pub returns-in-Some : goal.returns-in-Some
returns-in-Some c =
    let a = c.args.a in
    let b = c.args.b in
    let nonzero : b ≢ pos 0 = λ e. c.if-b-eq0.false (ap (of_z w64) e) in
    let test = (simp (to_z-of_z c.ranges.a, to_z-of_z c.ranges.b) at c.rounds_up.ensures) in
    let up : rounds_up a b ≡ true = sym test ∙ c.if-rounds_up.true in
    let div = (simp (to_z-of_z c.ranges.a, to_z-of_z c.ranges.b) at c.in-Some.ensures) in
    let fits : FitsSigned w64 c.in-Some.toward_zero = subst (FitsSigned w64) (sym div.1) div.0.1 in
    let lower : FitsSigned w64 (int_div a b -ℤ pos 1) = lower_fits a b nonzero c.ranges.a up in
    let is : c.int.result ≡ Int (int_div a b -ℤ pos 1) =
    c.int.ensures ∙ ap (λ z. Int (to_z w64 (of_z w64 (z -ℤ pos 1)))) (to_z-of_z fits ∙ div.1) ∙ ap Int (to_z-of_z lower) in
    divided_is floor_quotient a b nonzero ∙ ap number (floor_up a b nonzero up) ∙ number_is (int_div a b -ℤ pos 1) lower ∙ ap Ok (sym is)

pub returns-in-Some-2 : goal.returns-in-Some-2
returns-in-Some-2 c =
    let a = c.args.a in
    let b = c.args.b in
    let nonzero : b ≢ pos 0 = λ e. c.if-b-eq0.false (ap (of_z w64) e) in
    let test = (simp (to_z-of_z c.ranges.a, to_z-of_z c.ranges.b) at c.rounds_up.ensures) in
    let stays : rounds_up a b ≡ false = sym test ∙ c.if-rounds_up.false in
    let div = (simp (to_z-of_z c.ranges.a, to_z-of_z c.ranges.b) at c.in-Some.ensures) in
    let fits : FitsSigned w64 c.in-Some.toward_zero = subst (FitsSigned w64) (sym div.1) div.0.1 in
    let is : c.int-in-Some-2.result ≡ Int (int_div a b) = c.int-in-Some-2.ensures ∙ ap Int (to_z-of_z fits ∙ div.1) in
    divided_is floor_quotient a b nonzero ∙ ap number (floor_stays a b nonzero stays) ∙ number_is (int_div a b) div.0.1 ∙ ap Ok (sym is)
