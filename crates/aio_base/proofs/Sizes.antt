-- An item is smaller than its list, and a member than its exception's list of members.
use Rattle.std.proofs.Common.{◌≡◌, ℕ, zero, suc, ◌<◌, List, [], ◌∷◌, length, get_or, ap, arith}
use Rattle.model_value.specs.Value.{Value, Items, Exc, exc, values, members_of}
use Rattle.law_value.proofs.Rows.{excs-excs_of}
use Rattle.aio_base.specs.Size.{value_size, list_size, exc_size, members_size, excs_size}

pub value_size-item : (vs : List Value) (i : ℕ) (v : Value) → i < length vs → v ≡ get_or vs i v → value_size v < list_size vs
value_size-item [] i v h e = absurd (omega arith)
value_size-item (w ∷ vs) zero v h e = omega (arith, ap value_size e)
value_size-item (w ∷ vs) (suc i) v h e = omega (arith, value_size-item vs i v (omega arith) e)

pub exc_size-member : (es : List Exc) (i : ℕ) (e : Exc) → i < length es → e ≡ get_or es i e → exc_size e < excs_size es
exc_size-member [] i e h is = absurd (omega arith)
exc_size-member (f ∷ es) zero e h is = omega (arith, ap exc_size is)
exc_size-member (f ∷ es) (suc i) e h is = omega (arith, exc_size-member es i e (omega arith) is)

-- the items of a list are smaller than the list value, and the members of an exception than the exception
pub list_size-items : (vs : List Value) → list_size vs < value_size (Items (values vs))
list_size-items vs = omega arith

pub excs_size-members : (e : Exc) → excs_size (members_of e) < exc_size e
excs_size-members (exc kind text bytes members) = omega (arith, ap members_size (excs-excs_of members))
