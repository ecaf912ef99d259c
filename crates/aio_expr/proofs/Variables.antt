-- What a variable holds, and what an assignment makes of the variables, by its number.
use Rattle.std.proofs.Common.{◌≡◌, ℕ, zero, suc, ◌+◌, true, false, List, [], ◌∷◌, slice_set, refl, ap, sym, ◌∙◌, zero-add, arith}
use Rattle.std.specs.Str.{bytes_eq}
use Rattle.model_value.specs.Value.{Value}
use Rattle.model_says.specs.Variables.{Binding, held, assigned}
use Rattle.algorithm_locals.specs.Numbered.{local, holding}
use Rattle.algorithm_locals.proofs.Environments.{chosen-same, same-local, other-local}
use Rattle.aio_expr.specs.Values.{value_in}

held-from : (values : List Value) (number from : ℕ) → held (holding from values) (local (from + number)) ≡ value_in values number
held-from [] number from = refl
held-from (value ∷ values) zero from =
    chosen-same (bytes_eq (local from) (local (from + 0))) true _ _ (same-local from (from + 0) (omega arith))
held-from (value ∷ values) (suc number) from =
    let next : from + suc number ≡ suc from + number = omega arith in
    chosen-same (bytes_eq (local from) (local (from + suc number))) false _ _
    (other-local from (from + suc number) (λ is. omega (arith, is)))
    ∙ ap (λ n. held (holding (suc from) values) (local n)) next
    ∙ held-from values number (suc from)

pub held-number : (values : List Value) (number : ℕ) → held (holding 0 values) (local number) ≡ value_in values number
held-number values number = ap (λ n. held (holding 0 values) (local n)) (sym (zero-add number)) ∙ held-from values number 0

assigned-from : (values : List Value) (number : ℕ) (value : Value) (from : ℕ) →
    assigned (local (from + number)) value (holding from values) ≡ holding from (slice_set values number value)
assigned-from [] number value from = refl
assigned-from (first ∷ values) zero value from =
    chosen-same (bytes_eq (local from) (local (from + 0))) true _ _ (same-local from (from + 0) (omega arith))
assigned-from (first ∷ values) (suc number) value from =
    let next : from + suc number ≡ suc from + number = omega arith in
    let here : Binding = record { name = local from; value = first } in
    chosen-same (bytes_eq (local from) (local (from + suc number))) false _ _
    (other-local from (from + suc number) (λ is. omega (arith, is)))
    ∙ ap (λ n. here ∷ assigned (local n) value (holding (suc from) values)) next
    ∙ ap (λ others. here ∷ others) (assigned-from values number value (suc from))

pub assigned-number : (values : List Value) (number : ℕ) (value : Value) →
    assigned (local number) value (holding 0 values) ≡ holding 0 (slice_set values number value)
assigned-number values number value =
    ap (λ n. assigned (local n) value (holding 0 values)) (sym (zero-add number)) ∙ assigned-from values number value 0
