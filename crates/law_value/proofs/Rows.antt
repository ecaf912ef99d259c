-- A list and the row of values or exceptions that it makes: each gives the other back.
use Rattle.std.proofs.Common.{◌≡◌, refl, ap, List, [], ◌∷◌}
use Rattle.model_value.specs.Value.{Value, Values, no_values, value_then, Exc, Excs, no_excs, exc_then, list_of, values, excs_of, excs}

pub list_of-values : (vs : List Value) → list_of (values vs) ≡ vs
list_of-values [] = refl
list_of-values (v ∷ vs) = ap (λ r. v ∷ r) (list_of-values vs)

pub values-list_of : (vs : Values) → values (list_of vs) ≡ vs
values-list_of no_values = refl
values-list_of (value_then v vs) = ap (λ r. value_then v r) (values-list_of vs)

pub excs_of-excs : (es : List Exc) → excs_of (excs es) ≡ es
excs_of-excs [] = refl
excs_of-excs (e ∷ es) = ap (λ r. e ∷ r) (excs_of-excs es)

pub excs-excs_of : (es : Excs) → excs (excs_of es) ≡ es
excs-excs_of no_excs = refl
excs-excs_of (exc_then e es) = ap (λ r. exc_then e r) (excs-excs_of es)

-- the four together
pub ruleset rows = (list_of-values, values-list_of, excs_of-excs, excs-excs_of)
