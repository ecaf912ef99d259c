-- Numbers in a list: whether one is in it, and the list without one.
use Rattle.std.proofs.Common.{◌≡◌, ◌==◌, ◌⊎◌, inl, inr, ℕ, zero, suc, List, [], ◌∷◌, Some, if◌then◌else◌, length, slice_get, slice_set, refl, sym, ap, subst}
use Rattle.std.proofs.Common.{◌∙◌}
use Rattle.std.specs.List.{AllByRecursion as Each}
use Rattle.std.proofs.lemmas.Bool.{cases_eq, eq-eqb, ne_eqb}
use Rattle.std.proofs.lemmas.Option.{same_Some}
use Rattle.law_runs.specs.Allowed.{IsAmong}
use Rattle.law_members.proofs.Counted.{IsIn}

pub in_among : (id : ℕ) (ids : List ℕ) → IsIn id ids → IsAmong ids id
in_among id [] h = absurd h
in_among id (x ∷ ids) (inl e) = (0, ap Some e)
in_among id (x ∷ ids) (inr h) = let it = in_among id ids h in (suc it.0, it.1)

pub each_in : (P : ℕ → Type 0) (ids : List ℕ) → ((id : ℕ) → IsIn id ids → P id) → Each P ids
each_in P [] all = tt
each_in P (id ∷ ids) all = (all id (inl refl), each_in P ids (λ other h. all other (inr h)))

pub in_or_not : (id : ℕ) (ids : List ℕ) → IsIn id ids ⊎ (IsIn id ids → ⊥)
in_or_not id [] = inr (λ h. h)
in_or_not id (x ∷ ids) = at (cases_eq x id) (in_or_not id ids)
  where
    at : (x ≡ id) ⊎ (x ≡ id → ⊥) → IsIn id ids ⊎ (IsIn id ids → ⊥) → IsIn id (x ∷ ids) ⊎ (IsIn id (x ∷ ids) → ⊥)
    at (inl e) rest = inl (inl e)
    at (inr n) (inl h) = inl (inr h)
    at (inr n) (inr none) = inr neither
      where
        neither : IsIn id (x ∷ ids) → ⊥
        neither (inl e) = n e
        neither (inr h) = none h

-- what is there is written once more
pub set_there : {A : Type 0} (xs : List A) (place : ℕ) (x : A) → slice_get xs place ≡ Some x → slice_set xs place x ≡ xs
set_there [] place x e = refl
set_there (y ∷ xs) zero x e = ap (λ z. z ∷ xs) (sym (same_Some y x e))
set_there (y ∷ xs) (suc place) x e = ap (λ ys. y ∷ ys) (set_there xs place x e)

-- ---- without one, where it comes first
abbrev pub without : ℕ → List ℕ → List ℕ
without id [] = []
without id (x ∷ ids) = if x == id then ids else x ∷ without id ids

pub without_one : (id : ℕ) (ids : List ℕ) → IsIn id ids → suc (length (without id ids)) ≡ length ids
without_one id [] h = absurd h
without_one id (x ∷ ids) h = at (cases_eq x id) (λ rest. without_one id ids rest)
  where
    at : (x ≡ id) ⊎ (x ≡ id → ⊥) → (IsIn id ids → suc (length (without id ids)) ≡ length ids) → suc (length (without id (x ∷ ids))) ≡ length (x ∷ ids)
    at (inl e) next = ap (λ b. suc (length (if b then ids else x ∷ without id ids))) (eq-eqb x id e)
    at (inr n) next =
        let rest = next (behind h n) in
        ap (λ b. suc (length (if b then ids else x ∷ without id ids))) (ne_eqb x id n) ∙ ap suc rest
      where
        behind : IsIn id (x ∷ ids) → (x ≡ id → ⊥) → IsIn id ids
        behind (inl e) n = absurd (n e)
        behind (inr h) n = h

pub without_others : (id other : ℕ) (ids : List ℕ) → (other ≡ id → ⊥) → IsIn other ids → IsIn other (without id ids)
without_others id other [] n h = absurd h
without_others id other (x ∷ ids) n h = at (cases_eq x id) h (λ rest. without_others id other ids n rest)
  where
    at : (x ≡ id) ⊎ (x ≡ id → ⊥) → IsIn other (x ∷ ids) → (IsIn other ids → IsIn other (without id ids)) → IsIn other (without id (x ∷ ids))
    at (inl e) (inl same) next = absurd (n (sym same ∙ e))
    at (inl e) (inr h) next = subst (λ b. IsIn other (if b then ids else x ∷ without id ids)) (sym (eq-eqb x id e)) h
    at (inr d) (inl same) next = subst (λ b. IsIn other (if b then ids else x ∷ without id ids)) (sym (ne_eqb x id d)) (inl same)
    at (inr d) (inr h) next = subst (λ b. IsIn other (if b then ids else x ∷ without id ids)) (sym (ne_eqb x id d)) (inr (next h))
