-- Operands are built as their expressions are.
use Rattle.std.proofs.Common.{◌≡◌, ◌⊎◌, inl, inr, ◌≤◌, ◌<◌, List, [], ◌∷◌, Option, Some, None, map, refl, ap, ◌∙◌, sym, le-leb, arith}
use Rattle.std.proofs.lemmas.Bool.{lt-leb, cases_lt}
use Rattle.std.specs.Prelude.{option_and_then, option_map, if◌then◌else◌}
use Rattle.model_tree.specs.Syntax.{Name}
use Rattle.model_tree.specs.declared.operator.Operator.{Operator}
use Rattle.model_tree.specs.declared.operator.Comparison.{Comparison}
use Rattle.model_text.specs.Terms.{Term, Or, And, Not, Compare, Calculate, Negate, Index, ListOf, terms, height, height_of_all}
use Rattle.model_text.specs.Places.{most_height}
use Rattle.model_text.specs.Levels.{all_of}
use Rattle.algorithm_reading.specs.Operands.{Operand, Fits, TooHigh, capped, of_one, of_two, that_fits, of_fitting, of_all, list_of, call, call_of}

pub capped-low : (t : Term) → height t ≤ most_height → capped t ≡ Fits t
capped-low t h = ap (λ test. if test then Fits t else TooHigh) (le-leb (height t) most_height h)

pub capped-high : (t : Term) → most_height < height t → capped t ≡ TooHigh
capped-high t h = ap (λ test. if test then Fits t else TooHigh) (lt-leb (height t) most_height h)

one-at : (build : Term → Term) (t : Term) → height t ≤ height (build t) → (most_height < height t) ⊎ (height t ≤ most_height) → capped (build t)
    ≡ of_one build (capped t)
one-at build t h (inl high) =
    capped-high (build t) (omega arith) ∙ sym (ap (of_one build) (capped-high t high))
one-at build t h (inr low) = sym (ap (of_one build) (capped-low t low))

pub one-capped : (build : Term → Term) (t : Term) → height t ≤ height (build t) → capped (build t) ≡ of_one build (capped t)
one-capped build t h = one-at build t h (cases_lt most_height (height t))

two-at : (build : Term → Term → Term) (l r : Term) → height l ≤ height (build l r) → height r ≤ height (build l r)
    → (most_height < height l) ⊎ (height l ≤ most_height) → capped (build l r) ≡ of_two build (capped l) (capped r)
two-at build l r hl hr (inl high) =
    capped-high (build l r) (omega arith) ∙ sym (ap (λ left. of_two build left (capped r)) (capped-high l high))
two-at build l r hl hr (inr low) =
    one-capped (build l) r hr ∙ sym (ap (λ left. of_two build left (capped r)) (capped-low l low))

pub two-capped : (build : Term → Term → Term) (l r : Term) → height l ≤ height (build l r) → height r ≤ height (build l r) → capped (build l r)
    ≡ of_two build (capped l) (capped r)
two-capped build l r hl hr = two-at build l r hl hr (cases_lt most_height (height l))

pub not-capped : (t : Term) → capped (Not t) ≡ of_one Not (capped t)
not-capped t = one-capped Not t (omega arith)

pub negate-capped : (t : Term) → capped (Negate t) ≡ of_one Negate (capped t)
negate-capped t = one-capped Negate t (omega arith)

pub or-capped : (l r : Term) → capped (Or l r) ≡ of_two Or (capped l) (capped r)
or-capped l r = two-capped Or l r (omega arith) (omega arith)

pub and-capped : (l r : Term) → capped (And l r) ≡ of_two And (capped l) (capped r)
and-capped l r = two-capped And l r (omega arith) (omega arith)

pub index-capped : (l r : Term) → capped (Index l r) ≡ of_two Index (capped l) (capped r)
index-capped l r = two-capped Index l r (omega arith) (omega arith)

pub calculate-capped : (o : Operator) (l r : Term) → capped (Calculate o l r) ≡ of_two (Calculate o) (capped l) (capped r)
calculate-capped o l r = two-capped (Calculate o) l r (omega arith) (omega arith)

pub compare-capped : (c : Comparison) (l r : Term) → capped (Compare c l r) ≡ of_two (Compare c) (capped l) (capped r)
compare-capped c l r = two-capped (Compare c) l r (omega arith) (omega arith)

-- ---- rows
pub record CappedRow (all : List Term) (found : Option (List Term)) : Type 0 where
  pub is : ((height_of_all (terms all) ≤ most_height) × (found ≡ Some all)) ⊎ ((most_height < height_of_all (terms all)) × (found ≡ None))

abbrev then_fits : Operand → Option (List Term) → Option (List Term)
then_fits operand found = option_and_then (λ y. option_map (λ ys. y ∷ ys) found) (that_fits operand)

row-low : (t : Term) (ts : List Term) (found : Option (List Term)) → height t ≤ most_height → CappedRow ts found → CappedRow (t ∷ ts) (then_fits (Fits t) found)
row-low t ts found h row =
    elim row.is [
      | inl low ↦ record { is = inl (omega (arith, low.0), ap (then_fits (Fits t)) low.1) }
      | inr high ↦ record { is = inr (omega (arith, high.0), ap (then_fits (Fits t)) high.1) }
    ]

row-at : (t : Term) (ts : List Term) (found : Option (List Term)) → (most_height < height t) ⊎ (height t ≤ most_height) → CappedRow ts found
    → CappedRow (t ∷ ts) (then_fits (capped t) found)
row-at t ts found (inl high) row =
    record { is = inr (omega arith, ap (λ operand. then_fits operand found) (capped-high t high)) }
row-at t ts found (inr low) row = rw (capped-low t low) (row-low t ts found low row)

pub row : (all : List Term) → CappedRow all (all_of that_fits (map capped all))
row [] = record { is = inl (omega arith, refl) }
row (t ∷ ts) = row-at t ts (all_of that_fits (map capped ts)) (cases_lt most_height (height t)) (row ts)

all-at : (build : List Term → Term) (all : List Term) (found : Option (List Term)) → height_of_all (terms all) ≤ height (build all) → CappedRow all found
    → capped (build all) ≡ of_fitting build found
all-at build all found h row =
    elim row.is [
      | inl low ↦ sym (ap (of_fitting build) low.1)
      | inr high ↦ capped-high (build all) (omega (arith, high.0)) ∙ sym (ap (of_fitting build) high.1)
    ]

pub all-capped : (build : List Term → Term) (all : List Term) → height_of_all (terms all) ≤ height (build all) → capped (build all)
    ≡ of_all build (map capped all)
all-capped build all h = all-at build all (all_of that_fits (map capped all)) h (row all)

pub list-capped : (all : List Term) → capped (ListOf (terms all)) ≡ list_of (map capped all)
list-capped all = all-capped (λ items. ListOf (terms items)) all (omega arith)

pub call-capped : (name : Name) (bare : Option Name) (all : List Term) → capped (call name bare all) ≡ call_of name bare (map capped all)
call-capped name None all = all-capped (call name None) all (omega arith)
call-capped name (Some bare) all = all-capped (call name (Some bare)) all (omega arith)

-- ---- all of the readings
pub all_of-capped : {A : Type 0} (reading : A → Option Term) (slots : List A) → option_map (map capped) (all_of reading slots)
    ≡ all_of (λ slot. option_map capped (reading slot)) slots
all_of-capped reading [] = refl
all_of-capped reading (slot ∷ slots) =
    first-capped (reading slot) (all_of reading slots)
    ∙ ap (λ rest. option_and_then (λ y. option_map (λ ys. y ∷ ys) rest) (option_map capped (reading slot))) (all_of-capped reading slots)
  where
    first-capped : (first : Option Term) (rest : Option (List Term)) → option_map (map capped) (option_and_then (λ y. option_map (λ ys. y ∷ ys) rest) first)
        ≡ option_and_then (λ y. option_map (λ ys. y ∷ ys) (option_map (map capped) rest)) (option_map capped first)
    first-capped None rest = refl
    first-capped (Some t) None = refl
    first-capped (Some t) (Some ts) = refl
