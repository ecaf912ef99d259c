-- Reads of a list after a write to it.
use Rattle.std.proofs.Common.{◌≡◌, ◌≢◌, ℕ, zero, suc, ◌<◌, ◌⊎◌, List, [], ◌∷◌, ◌++◌, Option, Some, length, slice_get, slice_set, refl, ap, sym, ◌∙◌, arith, inl}
use Rattle.std.proofs.Common.{inr}
use Rattle.std.proofs.lemmas.Bool.{cases_eq}

pub get-set_same : {X : Type 0} (xs : List X) (i : ℕ) (old new : X) → slice_get xs i ≡ Some old → slice_get (slice_set xs i new) i ≡ Some new
get-set_same [] i old new e = absurd (cc)
get-set_same (x ∷ xs) zero old new e = refl
get-set_same (x ∷ xs) (suc i) old new e = get-set_same xs i old new e

pub get-set_other : {X : Type 0} (xs : List X) (i j : ℕ) (new : X) → i ≢ j → slice_get (slice_set xs i new) j ≡ slice_get xs j
get-set_other [] i j new n = refl
get-set_other (x ∷ xs) zero zero new n = absurd (n refl)
get-set_other (x ∷ xs) zero (suc j) new n = refl
get-set_other (x ∷ xs) (suc i) zero new n = refl
get-set_other (x ∷ xs) (suc i) (suc j) new n = get-set_other xs i j new (λ e. n (ap suc e))

-- what a function makes of each element is the same after a write that it doesn't see
pub get-set_kept : {X Y : Type 0} (f : Option X → Y) (xs : List X) (i j : ℕ) (old new : X) → slice_get xs i ≡ Some old → f (Some new) ≡ f (Some old)
    → f (slice_get (slice_set xs i new) j) ≡ f (slice_get xs j)
get-set_kept f xs i j old new e same = go (cases_eq i j)
  where
    go : (i ≡ j) ⊎ (i ≡ j → ⊥) → f (slice_get (slice_set xs i new) j) ≡ f (slice_get xs j)
    go (inl p) = rw (← p) (ap f (get-set_same xs i old new e) ∙ same ∙ sym (ap f e))
    go (inr n) = ap f (get-set_other xs i j new n)

pub get_within : {X : Type 0} (xs : List X) (i : ℕ) (x : X) → slice_get xs i ≡ Some x → i < length xs
get_within [] i x e = absurd (cc)
get_within (y ∷ ys) zero x e = omega arith
get_within (y ∷ ys) (suc i) x e = let h = get_within ys i x e in omega arith

-- after a push
pub get-push_last : {X : Type 0} (xs : List X) (x : X) → slice_get (xs ++ x ∷ []) (length xs) ≡ Some x
get-push_last [] x = refl
get-push_last (y ∷ ys) x = get-push_last ys x

pub get-push_other : {X : Type 0} (xs : List X) (x : X) (i : ℕ) → i ≢ length xs → slice_get (xs ++ x ∷ []) i ≡ slice_get xs i
get-push_other [] x zero n = absurd (n refl)
get-push_other [] x (suc i) n = refl
get-push_other (y ∷ ys) x zero n = refl
get-push_other (y ∷ ys) x (suc i) n = get-push_other ys x i (λ e. n (ap suc e))
