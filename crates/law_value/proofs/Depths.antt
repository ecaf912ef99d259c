-- The depth of a list with one more item, and of members with one more; an exception's depth by its members.
use Rattle.std.proofs.Common.{◌≡◌, ◌+◌, max, List, [], ◌∷◌, ◌++◌, ap, arith}
use Rattle.model_value.specs.Value.{Value, Exc, exc, values, excs, members_of}
use Rattle.model_value.specs.Depth.{depth_of, items_depth, exc_depth, members_depth}
use Rattle.law_value.proofs.Rows.{excs-excs_of}

pub items_depth-push : (vs : List Value) (v : Value) → items_depth (values (vs ++ v ∷ [])) ≡ max (items_depth (values vs)) (depth_of v)
items_depth-push [] v = omega arith
items_depth-push (w ∷ vs) v = omega (arith, items_depth-push vs v)

pub members_depth-push : (es : List Exc) (e : Exc) → members_depth (excs (es ++ e ∷ [])) ≡ max (members_depth (excs es)) (exc_depth e)
members_depth-push [] e = omega arith
members_depth-push (f ∷ es) e = omega (arith, members_depth-push es e)

pub exc_depth-parts : (e : Exc) → exc_depth e ≡ members_depth (excs (members_of e)) + 1
exc_depth-parts (exc kind text bytes members) = omega (arith, ap members_depth (excs-excs_of members))
