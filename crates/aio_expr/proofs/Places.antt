-- An item by its index, from the place that the index names.
use Rattle.std.proofs.Common.{◌≡◌, ℕ, suc, ◌-◌, ℤ, pos, negsuc, Bool, true, false, nat_lt, if◌then◌else◌, List, length, reverse, slice_index_or, Some, None}
use Rattle.std.proofs.Common.{unwrap_or, refl, ap, ap₂, sym, ◌∙◌, arith}
use Rattle.std.proofs.lemmas.Bool.{ltb-true, ltb-false}
use Rattle.std.proofs.lemmas.List.{get_or-reverse, length-reverse}
use Rattle.std.proofs.lemmas.Option.{slice_get-get_or, slice_get_past}
use Rattle.model_value.specs.Value.{Value, Int, Items, values}
use Rattle.model_says.specs.Operations.{item_at, found, indexed}
use Rattle.law_value.proofs.Rows.{list_of-values}
use Rattle.aio_expr.specs.Places.{place_of}

some-none : {A B : Type 0} (x : A) → Some x ≡ None → B
some-none {A} x e = absurd cc

-- a place that is chosen by a test
chosen_some : (test : Bool) (n place : ℕ) → (if test then Some n else None) ≡ Some place → (test ≡ true) × (n ≡ place)
chosen_some true n place e = (refl, ap (λ o. unwrap_or o n) e)
chosen_some false n place e = some-none place (sym e)

chosen_none : (test : Bool) (n : ℕ) → (if test then Some n else None) ≡ None → test ≡ false
chosen_none true n e = some-none n e
chosen_none false n e = refl

pub item_at-some : {A : Type 0} (xs : List A) (z : ℤ) (place : ℕ) (d : A) → place_of (length xs) z ≡ Some place → item_at xs z
    ≡ Some (slice_index_or xs place d)
item_at-some xs (pos index) place d is =
    let found = chosen_some (nat_lt index (length xs)) index place is in
    slice_get-get_or xs index d (ltb-true index (length xs) found.0) ∙ ap (λ p. Some (slice_index_or xs p d)) found.1
item_at-some xs (negsuc index) place d is =
    let found = chosen_some (nat_lt index (length xs)) (length xs - suc index) place is in
    let below = ltb-true index (length xs) found.0 in
    slice_get-get_or (reverse xs) index d (omega (arith, below, length-reverse xs))
    ∙ ap Some (get_or-reverse xs index d below)
    ∙ ap (λ p. Some (slice_index_or xs p d)) (omega (arith, found.1))

pub item_at-none : {A : Type 0} (xs : List A) (z : ℤ) → place_of (length xs) z ≡ None → item_at xs z ≡ None
item_at-none xs (pos index) is =
    slice_get_past xs index (ltb-false index (length xs) (chosen_none (nat_lt index (length xs)) index is))
item_at-none xs (negsuc index) is =
    let past = ltb-false index (length xs) (chosen_none (nat_lt index (length xs)) (length xs - suc index) is) in
    slice_get_past (reverse xs) index (omega (arith, past, length-reverse xs))

pub indexed-list : (sequence index : Value) (items : List Value) (z : ℤ) → sequence ≡ Items (values items) → index ≡ Int z → indexed sequence index
    ≡ found (item_at items z)
indexed-list sequence index items z list_is int_is =
    ap₂ indexed list_is int_is ∙ ap (λ l. found (item_at l z)) (list_of-values items)
