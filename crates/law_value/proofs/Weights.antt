-- The weight of a list with one more item, and of members with one more; an exception's weight by its parts.
use Rattle.std.proofs.Common.{◌≡◌, ◌+◌, List, [], ◌∷◌, ◌++◌, length, ap, arith}
use Rattle.model_value.specs.Value.{Value, Exc, exc, values, excs, text_of, bytes_of, members_of}
use Rattle.model_value.specs.Weight.{weight_of, items_weight, exc_weight, members_weight}
use Rattle.law_value.proofs.Rows.{excs-excs_of}

pub items_weight-push : (vs : List Value) (v : Value) → items_weight (values (vs ++ v ∷ [])) ≡ items_weight (values vs) + weight_of v
items_weight-push [] v = omega arith
items_weight-push (w ∷ vs) v = omega (arith, items_weight-push vs v)

pub members_weight-push : (es : List Exc) (e : Exc) → members_weight (excs (es ++ e ∷ [])) ≡ members_weight (excs es) + exc_weight e
members_weight-push [] e = omega arith
members_weight-push (f ∷ es) e = omega (arith, members_weight-push es e)

pub exc_weight-parts : (e : Exc) → exc_weight e ≡ members_weight (excs (members_of e)) + length (text_of e) + length (bytes_of e) + 1
exc_weight-parts (exc kind text bytes members) = omega (arith, ap members_weight (excs-excs_of members))
