-- The test whether a future leads to another decides it: a way that comes to no future twice is short enough.
use Rattle.std.proofs.Common.{◌≡◌, ℕ, zero, suc, ◌+◌, ◌<◌, ◌⊎◌, ◌↔◌, Bool, true, false, ◌||◌, ◌==◌, List, [], ◌∷◌, Option, Some, None, length, nat_eq}
use Rattle.std.proofs.Common.{slice_get, refl, ap, sym, ◌∙◌, inl, inr, arith}
use Rattle.std.specs.List.{list_any}
use Rattle.std.proofs.lemmas.Bool.{cases_Bool, eq-eqb, eqb-true, or_cases, or_left, or_right}
use Rattle.std.proofs.lemmas.Option.{slice_get_within}
use Rattle.model_loop.specs.Parts.{Future, Parts}
use Rattle.model_loop.specs.Cycles.{passes, PassesTo, Leads, at_once, through, leads_within, leads}
use Rattle.model_loop.specs.Cancel.{has_seen}
use Rattle.law_cancel.proofs.PassCases.{passes_at}
use Rattle.law_cancel.proofs.Seen.{left, left_le, left-cons}

-- ---- a test of some element
any_at : (f : ℕ → Bool) (xs : List ℕ) (x : ℕ) → list_any (λ y. y == x) xs ≡ true → f x ≡ true → list_any f xs ≡ true
any_at f [] x h k = absurd (cc)
any_at f (y ∷ ys) x h k = go (or_cases (y == x) (list_any (λ z. z == x) ys) h) (λ e. any_at f ys x e k)
  where
    go : (nat_eq y x ≡ true) ⊎ (list_any (λ z. z == x) ys ≡ true) → (list_any (λ z. z == x) ys ≡ true → list_any f ys ≡ true) → (f y || list_any f ys) ≡ true
    go (inl e) ih = or_left (f y) (list_any f ys) (ap f (eqb-true y x e) ∙ k)
    go (inr e) ih = or_right (f y) (list_any f ys) (ih e)

record Found (f : ℕ → Bool) (xs : List ℕ) : Type 0 where
  at : ℕ
  there : list_any (λ y. y == at) xs ≡ true
  passes : f at ≡ true

any_found : (f : ℕ → Bool) (xs : List ℕ) → list_any f xs ≡ true → Found f xs
any_found f [] h = absurd (cc)
any_found f (y ∷ ys) h = go (or_cases (f y) (list_any f ys) h) (any_found f ys)
  where
    go : (f y ≡ true) ⊎ (list_any f ys ≡ true) → (list_any f ys ≡ true → Found f ys) → Found f (y ∷ ys)
    go (inl e) ih = record { at = y; there = or_left (nat_eq y y) (list_any (λ z. z == y) ys) (eq-eqb y y refl); passes = e }
    go (inr e) ih =
        let r = ih e in
        record { at = r.at; there = or_right (nat_eq y r.at) (list_any (λ z. z == r.at) ys) r.there; passes = r.passes }

-- ---- from the test to a way
pub leads_from_within : (n : ℕ) (p : Parts) (from to : ℕ) → leads_within n p from to ≡ true → Leads p from to
leads_from_within zero p from to h = absurd (cc)
leads_from_within (suc n) p from to h =
    let r = any_found (λ next. (next == to) || leads_within n p next to) (passes p from) h in
    go r.at r.there (or_cases (r.at == to) (leads_within n p r.at to) r.passes) (λ k. leads_from_within n p r.at to k)
  where
    go : (next : ℕ) → PassesTo p from next → (nat_eq next to ≡ true) ⊎ (leads_within n p next to ≡ true) → (leads_within n p next to ≡ true → Leads p next to)
        → Leads p from to
    go next there (inl e) ih = at_once (ap (λ x. list_any (λ y. y == x) (passes p from)) (sym (eqb-true next to e)) ∙ there)
    go next there (inr k) ih = through next there (ih k)

-- ---- a way, by the futures between its ends
abbrev IsWay : Parts → (from : ℕ) → List ℕ → (to : ℕ) → Type 0
IsWay p from [] to = PassesTo p from to
IsWay p from (x ∷ xs) to = PassesTo p from x × IsWay p x xs to

within_from_way : (n : ℕ) (p : Parts) (from : ℕ) (xs : List ℕ) (to : ℕ) → length xs < n → IsWay p from xs to → leads_within n p from to ≡ true
within_from_way zero p from xs to h w = absurd (omega arith)
within_from_way (suc n) p from [] to h w =
    any_at (λ next. (next == to) || leads_within n p next to) (passes p from) to w (or_left (nat_eq to to) (leads_within n p to to) (eq-eqb to to refl))
within_from_way (suc n) p from (x ∷ xs) to h w =
    any_at (λ next. (next == to) || leads_within n p next to) (passes p from) x w.0
    (or_right (nat_eq x to) (leads_within n p x to) (within_from_way n p x xs to (omega arith) w.1))

-- no element stands twice
abbrev Differ : List ℕ → Type 0
Differ [] = Unit {0}
Differ (x ∷ xs) = (has_seen xs x ≡ false) × Differ xs

record SimpleWay (p : Parts) (from to : ℕ) : Type 0 where
  between : List ℕ
  is : IsWay p from between to
  differ : Differ (from ∷ between)

-- a way that comes to a future can be begun there
cut : (p : Parts) (x : ℕ) (xs : List ℕ) (to from : ℕ) → IsWay p x xs to → Differ (x ∷ xs) → has_seen (x ∷ xs) from ≡ true → SimpleWay p from to
cut p x [] to from w d h = go (or_cases (nat_eq from x) false h)
  where
    go : (nat_eq from x ≡ true) ⊎ (false ≡ true) → SimpleWay p from to
    go (inl e) = let same = eqb-true from x e in rw same (record { between = []; is = w; differ = d })
    go (inr e) = absurd (cc)
cut p x (y ∷ ys) to from w d h =
    go (or_cases (nat_eq from x) (has_seen (y ∷ ys) from) h) (λ k. cut p y ys to from w.1 d.1 k)
  where
    go : (nat_eq from x ≡ true) ⊎ (has_seen (y ∷ ys) from ≡ true) → (has_seen (y ∷ ys) from ≡ true → SimpleWay p from to) → SimpleWay p from to
    go (inl e) ih = let same = eqb-true from x e in rw same (record { between = y ∷ ys; is = w; differ = d })
    go (inr k) ih = ih k

way : (p : Parts) {from to : ℕ} → Leads p from to → SimpleWay p from to
way p (at_once e) = record { between = []; is = e; differ = (refl, tt) }
way p (through {from = from} {to = to} next e l) =
    let w = way p l in
    go w (cases_Bool (has_seen (next ∷ w.between) from))
  where
    go : (w : SimpleWay p next to) → (has_seen (next ∷ w.between) from ≡ true) ⊎ (has_seen (next ∷ w.between) from ≡ false) → SimpleWay p from to
    go w (inl h) = cut p next w.between to from w.is w.differ h
    go w (inr h) = record { between = next ∷ w.between; is = (e, w.is); differ = (h, w.differ) }

-- ---- different futures that exist are no more than there are
abbrev AllBelow : ℕ → List ℕ → Type 0
AllBelow n [] = Unit {0}
AllBelow n (x ∷ xs) = (x < n) × AllBelow n xs

few : (n : ℕ) (xs : List ℕ) → Differ xs → AllBelow n xs → left n xs + length xs ≡ left n []
few n [] d b = omega arith
few n (x ∷ xs) d b =
    let ih = few n xs d.1 b.1 in
    let l = left-cons n xs x b.0 d.0 in
    omega arith

-- a future that passes to another exists
passes_within : (p : Parts) (from to : ℕ) → PassesTo p from to → from < length p.futures
passes_within p from to h = at (slice_get p.futures from) refl h
  where
    at : (o : Option Future) → slice_get p.futures from ≡ o → list_any (λ next. next == to) (passes_at o from p) ≡ true → from < length p.futures
    at None e h = absurd (cc)
    at (Some future) e h = slice_get_within p.futures from future e

way_within : (p : Parts) (from : ℕ) (xs : List ℕ) (to : ℕ) → IsWay p from xs to → AllBelow (length p.futures) (from ∷ xs)
way_within p from [] to w = (passes_within p from to w, tt)
way_within p from (x ∷ xs) to w = (passes_within p from x w.0, way_within p x xs to w.1)

pub leads_decides : (p : Parts) (from to : ℕ) → (leads p from to ≡ true) ↔ Leads p from to
leads_decides p from to = (leads_from_within (length p.futures) p from to, back)
  where
    back : Leads p from to → leads p from to ≡ true
    back l =
        let w = way p l in
        let f = few (length p.futures) (from ∷ w.between) w.differ (way_within p from w.between to w.is) in
        let g = left_le (length p.futures) [] in
        within_from_way (length p.futures) p from w.between to (omega arith) w.is
