-- Places of coroutines, one more at a time from the last to the first.
use Rattle.std.proofs.Common.{◌≡◌, ℕ, suc, ◌+◌, ◌-◌, ◌<◌, ◌≤◌, Bool, true, false, cond, List, ◌∷◌, length, drop, slice_index_or, Option, Some, unwrap_or, arith}
use Rattle.std.proofs.Common.{ap, ap₂, sym, ◌∙◌}
use Rattle.std.proofs.lemmas.List.{drop_more}
use Rattle.std.specs.Ordering.{nat_cmp}
use Rattle.std.specs.Cmp.Lexicographic.{slice_cmp}
use Rattle.std.specs.Str.{bytes_eq}
use Rattle.std.specs.BTreeMap as tree
use Rattle.std.proofs.lemmas.Map.Text.{btree_map_updates_str}
use denote.Ref.{Bor}
use Rattle.model_tree.specs.Syntax.{Coroutine}
use Rattle.model_says.specs.Requests.{place_among}
use Rattle.aio_flat.specs.Places.{HasPlaces}

pub first-or-later : (is_here : Bool) (count at later : ℕ) (found : Option ℕ) →
    unwrap_or found count ≡ (at + 1) + later →
    unwrap_or (cond is_here (Some at) found) count ≡ at + cond is_here 0 (suc later)
first-or-later true count at later found is = omega arith
first-or-later false count at later found is = omega (arith, is)

pub HasPlaces-insert : (old new : tree.BTreeMap (Bor (List ℕ)) ℕ) (key : Bor (List ℕ)) (count at : ℕ) (coroutine : Coroutine)
    (others : List Coroutine) → coroutine.name ≡ key.now →
    tree.Updates (λ x y. slice_cmp nat_cmp x.now y.now) old new key (Some at) → HasPlaces old count (at + 1) others →
    HasPlaces new count at (coroutine ∷ others)
HasPlaces-insert old new key count at coroutine others named updates has = λ name.
    ap (λ found. unwrap_or found count) (btree_map_updates_str key.now old new (Some at) updates name)
    ∙ first-or-later (bytes_eq key.now name) count at (place_among others name) _ (has name)
    ∙ ap (λ n. at + cond (bytes_eq n name) 0 (suc (place_among others name))) (sym named)

pub drop-before : {A : Type 0} (xs : List A) (at : ℕ) (x : A) → 0 < at → at ≤ length xs → x ≡ slice_index_or xs (at - 1) x →
    drop (at - 1) xs ≡ x ∷ drop at xs
drop-before xs at x some inside is =
    let before : at - 1 < length xs = omega arith in
    let next : at - 1 + 1 ≡ at = omega arith in
    drop_more xs (at - 1) x before ∙ ap₂ (λ y n. y ∷ drop n xs) (sym is) next
