-- A count of prefix operators, one less.
use Rattle.std.proofs.Common.{◌≡◌, ℕ, suc, ◌+◌, ◌-◌, ◌<◌, ap, arith}
use Rattle.model_text.specs.Terms.{Not, Negate}
use Rattle.algorithm_reading.specs.Operands.{Operand, of_one}
use Rattle.algorithm_reading.specs.Pending.{with_nots, with_minuses}

one_less : (count done : ℕ) → done < count → count - done ≡ suc (count - (done + 1))
one_less count done below = omega arith

pub with_nots-one_less : (count done : ℕ) (operand : Operand) → done < count → with_nots (count - done) operand
    ≡ with_nots (count - (done + 1)) (of_one Not operand)
with_nots-one_less count done operand below = ap (λ left. with_nots left operand) (one_less count done below)

pub with_minuses-one_less : (count done : ℕ) (operand : Operand) → done < count → with_minuses (count - done) operand
    ≡ with_minuses (count - (done + 1)) (of_one Negate operand)
with_minuses-one_less count done operand below = ap (λ left. with_minuses left operand) (one_less count done below)
