-- Lists, and what is so of each of their items.
use Rattle.std.proofs.Common.{◌≡◌, ℕ, zero, suc, Bool, true, false, cond, List, [], ◌∷◌, ◌++◌, Option, Some, None, slice_get, slice_set, refl, ap, subst, ◌∙◌}
use Rattle.std.specs.Prelude.{filter}
use Rattle.std.specs.List.{AllByRecursion as Each, flat_map, list_all}
use Rattle.std.specs.Map.{lookup, remove_entry, set_value}
use Rattle.std.proofs.lemmas.Bool.{and_from, and_parts}
use Rattle.law_runs.specs.Allowed.{IsAmong}

module _ {A : Type 0} (P : A → Type 0) where
  pub each_append : (xs ys : List A) → Each P xs → Each P ys → Each P (xs ++ ys)
  each_append [] ys a b = b
  each_append (x ∷ xs) ys a b = (a.0, each_append xs ys a.1 b)

  pub each_left : (xs ys : List A) → Each P (xs ++ ys) → Each P xs
  each_left [] ys a = tt
  each_left (x ∷ xs) ys a = (a.0, each_left xs ys a.1)

  pub each_right : (xs ys : List A) → Each P (xs ++ ys) → Each P ys
  each_right [] ys a = a
  each_right (x ∷ xs) ys a = each_right xs ys a.1

  pub each_on : (Q : A → Type 0) → ((x : A) → P x → Q x) → (xs : List A) → Each P xs → Each Q xs
  each_on Q on [] a = tt
  each_on Q on (x ∷ xs) a = (on x a.0, each_on Q on xs a.1)

  pub each_both : (Q R : A → Type 0) → ((x : A) → P x → Q x → R x) → (xs : List A) → Each P xs → Each Q xs → Each R xs
  each_both Q R on [] a b = tt
  each_both Q R on (x ∷ xs) a b = (on x a.0 b.0, each_both Q R on xs a.1 b.1)

  pub each_filter : (test : A → Bool) (xs : List A) → Each P xs → Each P (filter test xs)
  each_filter test [] a = tt
  each_filter test (x ∷ xs) a = at (each_filter test xs a.1) (test x)
    where
      at : Each P (filter test xs) → (b : Bool) → Each P (cond b (x ∷ filter test xs) (filter test xs))
      at rest true = (a.0, rest)
      at rest false = rest

  pub each_at : (xs : List A) (place : ℕ) (x : A) → slice_get xs place ≡ Some x → Each P xs → P x
  each_at [] place x e a = absurd (cc)
  each_at (y ∷ xs) zero x e a = subst P (same y x e) a.0
    where
      same : (y x : A) → Some y ≡ Some x → y ≡ x
      same y x e = cc
  each_at (y ∷ xs) (suc place) x e a = each_at xs place x e a.1

  pub each_set : (xs : List A) (place : ℕ) (x : A) → Each P xs → P x → Each P (slice_set xs place x)
  each_set [] place x a b = tt
  each_set (y ∷ xs) zero x a b = (b, a.1)
  each_set (y ∷ xs) (suc place) x a b = (a.0, each_set xs place x a.1 b)

-- ---- of what several have
pub flat_each : {A B : Type 0} (f : A → List B) (P : B → Type 0) (xs : List A) → Each P (flat_map f xs) → Each (λ x. Each P (f x)) xs
flat_each f P [] a = tt
flat_each f P (x ∷ xs) a = (each_left P (f x) (flat_map f xs) a, flat_each f P xs (each_right P (f x) (flat_map f xs) a))

pub each_flat : {A B : Type 0} (f : A → List B) (P : B → Type 0) (xs : List A) → Each (λ x. Each P (f x)) xs → Each P (flat_map f xs)
each_flat f P [] a = tt
each_flat f P (x ∷ xs) a = each_append P (f x) (flat_map f xs) a.0 (each_flat f P xs a.1)

-- ---- what is among them
pub each_from : (P : ℕ → Type 0) (xs : List ℕ) → ((id : ℕ) → IsAmong xs id → P id) → Each P xs
each_from P [] from = tt
each_from P (x ∷ xs) from = (from x (0, refl), each_from P xs (λ id e. from id (suc e.0, e.1)))

pub among_each : (P : ℕ → Type 0) (xs : List ℕ) (id : ℕ) → Each P xs → IsAmong xs id → P id
among_each P xs id all h = each_at P xs h.0 id h.1 all

pub among_left : (xs ys : List ℕ) (id : ℕ) → IsAmong xs id → IsAmong (xs ++ ys) id
among_left [] ys id (zero, e) = absurd (cc)
among_left [] ys id (suc place, e) = absurd (cc)
among_left (x ∷ xs) ys id (zero, e) = (0, e)
among_left (x ∷ xs) ys id (suc place, e) = let r = among_left xs ys id (place, e) in (suc r.0, r.1)

pub among_right : (xs ys : List ℕ) (id : ℕ) → IsAmong ys id → IsAmong (xs ++ ys) id
among_right [] ys id h = h
among_right (x ∷ xs) ys id h = let r = among_right xs ys id h in (suc r.0, r.1)

-- ---- by a test
pub all_each : {A : Type 0} (test : A → Bool) (xs : List A) → list_all test xs ≡ true → Each (λ x. test x ≡ true) xs
all_each test [] h = tt
all_each test (x ∷ xs) h = let b = and_parts (test x) (list_all test xs) h in (b.0, all_each test xs b.1)

pub each_all : {A : Type 0} (test : A → Bool) (xs : List A) → Each (λ x. test x ≡ true) xs → list_all test xs ≡ true
each_all test [] a = refl
each_all test (x ∷ xs) a = and_from (test x) (list_all test xs) a.0 (each_all test xs a.1)

-- ---- entries by their keys
module _ {A : Type 0} (P : ℕ × A → Type 0) (test : ℕ → Bool) where
  pub each_removed : (xs : List (ℕ × A)) → Each P xs → Each P (remove_entry test xs)
  each_removed [] a = tt
  each_removed (x ∷ xs) a = at (each_removed xs a.1) (test x.0)
    where
      at : Each P (remove_entry test xs) → (b : Bool) → Each P (cond b xs (x ∷ remove_entry test xs))
      at rest true = a.1
      at rest false = (a.0, rest)

  pub each_replaced : (xs : List (ℕ × A)) (it : A) → Each P xs → ((key : ℕ) → P (key, it)) → Each P (set_value test xs it)
  each_replaced [] it a b = tt
  each_replaced (x ∷ xs) it a b = at (each_replaced xs it a.1 b) (test x.0)
    where
      at : Each P (set_value test xs it) → (c : Bool) → Each P (cond c ((x.0, it) ∷ xs) (x ∷ set_value test xs it))
      at rest true = (b x.0, a.1)
      at rest false = (a.0, rest)

  pub each_found : (xs : List (ℕ × A)) (it : A) → lookup test xs ≡ Some it → Each P xs → (key : ℕ) × P (key, it)
  each_found [] it e a = absurd (cc)
  each_found (x ∷ xs) it e a = at (λ g. each_found xs it g a.1) (test x.0) e
    where
      here : (y it : A) → Some y ≡ Some it → y ≡ it
      here y it e = cc

      at : (lookup test xs ≡ Some it → (key : ℕ) × P (key, it)) → (b : Bool) → cond b (Some x.1) (lookup test xs) ≡ Some it → (key : ℕ) × P (key, it)
      at rest true e = (x.0, subst (λ y. P (x.0, y)) (here x.1 it e) a.0)
      at rest false e = rest e

-- one that is found and replaced is there
pub replaced_among : {A : Type 0} (f : ℕ × A → List ℕ) (test : ℕ → Bool) (xs : List (ℕ × A)) (old new : A) (id : ℕ)
    → lookup test xs ≡ Some old → ((key : ℕ) → IsAmong (f (key, new)) id) → IsAmong (flat_map f (set_value test xs new)) id
replaced_among f test [] old new id e h = absurd (cc)
replaced_among {A} f test (x ∷ xs) old new id e h = at (λ g. replaced_among f test xs old new id g h) (test x.0) e
  where
    at : (lookup test xs ≡ Some old → IsAmong (flat_map f (set_value test xs new)) id) → (b : Bool) → cond b (Some x.1) (lookup test xs) ≡ Some old
        → IsAmong (flat_map f (cond b ((x.0, new) ∷ xs) (x ∷ set_value test xs new))) id
    at rest true e = among_left (f (x.0, new)) (flat_map f xs) id (h x.0)
    at rest false e = among_right (f x) (flat_map f (set_value test xs new)) id (rest e)

pub last_among : {A : Type 0} (f : A → List ℕ) (xs : List A) (x : A) (id : ℕ) → IsAmong (f x) id → IsAmong (flat_map f (xs ++ x ∷ [])) id
last_among f [] x id h = among_left (f x) [] id h
last_among f (y ∷ xs) x id h = among_right (f y) (flat_map f (xs ++ x ∷ [])) id (last_among f xs x id h)
