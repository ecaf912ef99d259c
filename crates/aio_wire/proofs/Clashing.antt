-- Items that take up what an earlier one takes up.
use denote.Enum.Bare.{sameb, same_true}
use Rattle.std.proofs.Common.{◌≡◌, ℕ, Bool, true, false, eqb, not, ◌&&◌, ◌||◌, List, [], ◌∷◌, ◌++◌, Option, Some, None, filter_map, refl, sym, ap, ◌∙◌, subst}
use Rattle.std.proofs.lemmas.Bool.{false≢true, eqb-true, and_right, and_parts}
use Rattle.std.proofs.lemmas.List.Elements.{filter_map-append}
use Rattle.std.proofs.lemmas.List.Folds.{list_any-append}
use Rattle.std.specs.List.{cons_option, list_any}
use Rattle.model_wire.specs.contracts.item.Interest.{the_type}
use Rattle.model_wire.specs.declared.item.Interest.{Interest}
use Rattle.model_wire.specs.Call.{Item}
use Rattle.model_wire.specs.Fits.{clashes, interest_of, is_same, stand_apart}

abbrev pub same : Interest × ℕ → Interest × ℕ → Bool
same one other = sameb the_type one.0 other.0 && eqb one.1 other.1

-- ---- what takes up the same, either way round
alike : (one other : Interest × ℕ) → same one other ≡ true → one ≡ other
alike one other h =
    let parts = and_parts (sameb the_type one.0 other.0) (eqb one.1 other.1) h in
    ap (λ i. (i, one.1)) (same_true the_type tt one.0 other.0 parts.0) ∙ ap (λ n. (other.0, n)) (eqb-true one.1 other.1 parts.1)

swapped : (one other : Interest × ℕ) → same one other ≡ true → same other one ≡ true
swapped one other h = subst (λ x. same other x ≡ true) (sym (alike one other h)) (subst (λ x. same x other ≡ true) (alike one other h) h)

both_ways : (one other : Interest × ℕ) → same one other ≡ same other one
both_ways one other = at (same one other) (same other one) refl refl
  where
    at : (a b : Bool) → same one other ≡ a → same other one ≡ b → same one other ≡ same other one
    at true b p q = p ∙ sym (swapped one other p)
    at false true p q = absurd (false≢true (sym p ∙ swapped other one q))
    at false false p q = p ∙ sym q

-- An item clashes with one of these where what it takes up is taken.
pub taken_is : (x : Item) (taken : Interest × ℕ) → interest_of x ≡ Some taken → (items : List Item)
    → list_any (same taken) (filter_map interest_of items) ≡ list_any (λ other. clashes other x) items
taken_is x taken is [] = refl
taken_is x taken is (other ∷ items) = at (interest_of other) refl (taken_is x taken is items)
  where
    at : (it : Option (Interest × ℕ)) → interest_of other ≡ it
        → list_any (same taken) (filter_map interest_of items) ≡ list_any (λ o. clashes o x) items
        → list_any (same taken) (filter_map interest_of (other ∷ items)) ≡ list_any (λ o. clashes o x) (other ∷ items)
    at None e rest =
        ap (λ it. list_any (same taken) (cons_option it (filter_map interest_of items))) e ∙ rest
        ∙ ap (λ it. is_same it (interest_of x) || list_any (λ o. clashes o x) items) (sym e)
    at (Some one) e rest =
        ap (λ it. list_any (same taken) (cons_option it (filter_map interest_of items))) e
        ∙ ap (λ b. same taken one || b) rest
        ∙ ap (λ b. b || list_any (λ o. clashes o x) items) (both_ways taken one)
        ∙ ap (λ it. is_same (Some one) it || list_any (λ o. clashes o x) items) (sym is)
        ∙ ap (λ it. is_same it (interest_of x) || list_any (λ o. clashes o x) items) (sym e)

-- one that takes up nothing clashes with none
pub takes_nothing : (x : Item) → interest_of x ≡ None → (items : List Item) → list_any (λ other. clashes other x) items ≡ false
takes_nothing x none [] = refl
takes_nothing x none (other ∷ items) =
    ap (λ it. is_same (interest_of other) it || list_any (λ o. clashes o x) items) none
    ∙ ap (λ b. b || list_any (λ o. clashes o x) items) (nothing (interest_of other)) ∙ takes_nothing x none items
  where
    nothing : (it : Option (Interest × ℕ)) → is_same it None ≡ false
    nothing None = refl
    nothing (Some taken) = refl

-- ---- one more item
parted : (a b c d : Bool) → (not (a || (b || false)) && (c && not d)) ≡ ((not a && c) && not (b || d))
parted true b c d = refl
parted false true true d = refl
parted false true false d = refl
parted false false c d = refl

pub one_more : (items : List Item) (x : Item) → stand_apart (items ++ x ∷ []) ≡ (stand_apart items && not (list_any (λ other. clashes other x) items))
one_more [] x = refl
one_more (first ∷ items) x =
    ap (λ b. not b && stand_apart (items ++ x ∷ [])) (list_any-append (clashes first) items (x ∷ []))
    ∙ ap (λ b. not (list_any (clashes first) items || (clashes first x || false)) && b) (one_more items x)
    ∙ parted (list_any (clashes first) items) (clashes first x) (stand_apart items) (list_any (λ other. clashes other x) items)

or_true : (a : Bool) → (a || true) ≡ true
or_true true = refl
or_true false = refl

-- one that clashes with an earlier one
pub clash : (items others : List Item) (x : Item) → list_any (λ other. clashes other x) items ≡ true → stand_apart (items ++ x ∷ others) ≡ false
clash [] others x h = absurd (false≢true h)
clash (first ∷ items) others x h = at (clashes first x) refl (clash items others x)
  where
    at : (b : Bool) → clashes first x ≡ b
        → (list_any (λ other. clashes other x) items ≡ true → stand_apart (items ++ x ∷ others) ≡ false)
        → stand_apart (first ∷ items ++ x ∷ others) ≡ false
    at true e rest =
        let any : list_any (clashes first) (items ++ x ∷ others) ≡ true =
        list_any-append (clashes first) items (x ∷ others)
        ∙ ap (λ b. list_any (clashes first) items || (b || list_any (clashes first) others)) e ∙ or_true (list_any (clashes first) items) in
        ap (λ b. not b && stand_apart (items ++ x ∷ others)) any
    at false e rest =
        let later : list_any (λ other. clashes other x) items ≡ true = sym (ap (λ b. b || list_any (λ other. clashes other x) items) e) ∙ h in
        and_right (not (list_any (clashes first) (items ++ x ∷ others))) (stand_apart (items ++ x ∷ others)) (rest later)

-- ---- the first items, once one more was looked at
pub front_apart : (items front : List Item) (x : Item) → front ≡ items ++ x ∷ [] → stand_apart items ≡ true
    → list_any (λ other. clashes other x) items ≡ false → stand_apart front ≡ true
front_apart items front x is apart none =
    ap stand_apart is ∙ one_more items x ∙ ap (λ b. b && not (list_any (λ other. clashes other x) items)) apart ∙ ap not none

pub front_taken : (items front : List Item) (x : Item) (it : Option (Interest × ℕ)) → front ≡ items ++ x ∷ [] → interest_of x ≡ it
    → filter_map interest_of front ≡ filter_map interest_of items ++ cons_option it []
front_taken items front x it is takes =
    ap (filter_map interest_of) is ∙ filter_map-append interest_of items (x ∷ [])
    ∙ ap (λ t. filter_map interest_of items ++ cons_option t []) takes
