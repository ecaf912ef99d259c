-- What digits stand for, one digit after another.
use Rattle.std.proofs.Common.{◌≡◌, ℕ, ◌+◌, ◌-◌, ◌*◌, ◌<◌, List, length, get_or, take, ap, ◌∙◌, sym, arith, min}
use Rattle.std.proofs.lemmas.List.Sums.{fold_more}
use Rattle.model_value.specs.Number.{digits_value}

pub capped : (value digit over : ℕ) → min (10 * min value over + digit) over ≡ min (10 * value + digit) over
capped value digit over = omega arith

pub digits_value-take_more : (digits : List ℕ) (i over : ℕ) → i < length digits → min (digits_value (take (i + 1) digits)) over
    ≡ min (10 * min (digits_value (take i digits)) over + (get_or digits i 0 - 48)) over
digits_value-take_more digits i over within =
    ap (λ v. min v over) (fold_more (λ value digit. 10 * value + (digit - 48)) 0 digits i 0 within)
    ∙ sym (capped (digits_value (take i digits)) (get_or digits i 0 - 48) over)
