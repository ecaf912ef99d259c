-- Lists of what several things keep.
use Rattle.std.proofs.Common.{◌≡◌, ℕ, zero, suc, Bool, true, false, cond, List, [], ◌∷◌, ◌++◌, Some, map, slice_get, slice_set, refl, ap, subst, ◌∙◌}
use Rattle.std.specs.Prelude.{filter}
use Rattle.std.specs.List.{AllByRecursion as Each, flat_map, list_all}
use Rattle.std.proofs.lemmas.Bool.{and_from, and_parts}
use Rattle.law_runs.specs.Allowed.{IsAmong}

pub each_append : {A : Type 0} (P : A → Type 0) (xs ys : List A) → Each P xs → Each P ys → Each P (xs ++ ys)
each_append P [] ys a b = b
each_append P (x ∷ xs) ys a b = (a.0, each_append P xs ys a.1 b)

pub each_left : {A : Type 0} (P : A → Type 0) (xs ys : List A) → Each P (xs ++ ys) → Each P xs
each_left P [] ys a = tt
each_left P (x ∷ xs) ys a = (a.0, each_left P xs ys a.1)

pub each_right : {A : Type 0} (P : A → Type 0) (xs ys : List A) → Each P (xs ++ ys) → Each P ys
each_right P [] ys a = a
each_right P (x ∷ xs) ys a = each_right P xs ys a.1

pub each_on : {A : Type 0} (P Q : A → Type 0) → ((x : A) → P x → Q x) → (xs : List A) → Each P xs → Each Q xs
each_on P Q on [] a = tt
each_on P Q on (x ∷ xs) a = (on x a.0, each_on P Q on xs a.1)

pub each_filter : {A : Type 0} (P : A → Type 0) (test : A → Bool) (xs : List A) → Each P xs → Each P (filter test xs)
each_filter P test [] a = tt
each_filter P test (x ∷ xs) a = at (each_filter P test xs a.1) (test x)
  where
    at : Each P (filter test xs) → (b : Bool) → Each P (cond b (x ∷ filter test xs) (filter test xs))
    at rest true = (a.0, rest)
    at rest false = rest

-- of what each keeps
pub flat_append : {A B : Type 0} (f : A → List B) (P : B → Type 0) (xs ys : List A) → Each P (flat_map f xs) → Each P (flat_map f ys)
    → Each P (flat_map f (xs ++ ys))
flat_append f P [] ys a b = b
flat_append f P (x ∷ xs) ys a b =
    each_append P (f x) (flat_map f (xs ++ ys)) (each_left P (f x) (flat_map f xs) a)
    (flat_append f P xs ys (each_right P (f x) (flat_map f xs) a) b)

pub flat_at : {A B : Type 0} (f : A → List B) (P : B → Type 0) (xs : List A) (place : ℕ) (x : A) → slice_get xs place ≡ Some x
    → Each P (flat_map f xs) → Each P (f x)
flat_at f P [] place x e a = absurd (cc)
flat_at {A} f P (y ∷ xs) zero x e a = subst (λ z. Each P (f z)) (same y x e) (each_left P (f y) (flat_map f xs) a)
  where
    same : (y x : A) → Some y ≡ Some x → y ≡ x
    same y x e = cc
flat_at f P (y ∷ xs) (suc place) x e a = flat_at f P xs place x e (each_right P (f y) (flat_map f xs) a)

-- one is replaced that keeps the same
pub flat_set : {A B : Type 0} (f : A → List B) (xs : List A) (place : ℕ) (old new : A) → slice_get xs place ≡ Some old → f new ≡ f old
    → flat_map f (slice_set xs place new) ≡ flat_map f xs
flat_set f [] place old new e same = refl
flat_set {A} f (x ∷ xs) zero old new e same = ap (λ ys. ys ++ flat_map f xs) (same ∙ ap f (is x old e))
  where
    is : (x old : A) → Some x ≡ Some old → old ≡ x
    is x old e = cc
flat_set f (x ∷ xs) (suc place) old new e same = ap (λ ys. f x ++ ys) (flat_set f xs place old new e same)

-- what each of them keeps
pub flat_each : {A B : Type 0} (f : A → List B) (P : B → Type 0) (xs : List A) → Each (λ x. Each P (f x)) xs → Each P (flat_map f xs)
flat_each f P [] a = tt
flat_each f P (x ∷ xs) a = each_append P (f x) (flat_map f xs) a.0 (flat_each f P xs a.1)

-- one is replaced
pub flat_replaced : {A B : Type 0} (f : A → List B) (P : B → Type 0) (xs : List A) (place : ℕ) (new : A) → Each P (flat_map f xs) → Each P (f new)
    → Each P (flat_map f (slice_set xs place new))
flat_replaced f P [] place new a b = tt
flat_replaced f P (x ∷ xs) zero new a b = each_append P (f new) (flat_map f xs) b (each_right P (f x) (flat_map f xs) a)
flat_replaced f P (x ∷ xs) (suc place) new a b =
    each_append P (f x) (flat_map f (slice_set xs place new)) (each_left P (f x) (flat_map f xs) a)
    (flat_replaced f P xs place new (each_right P (f x) (flat_map f xs) a) b)

-- tests of values, as a proposition of each
pub each_true : {A : Type 0} (test : A → Bool) (xs : List A) → list_all test xs ≡ true → Each (λ x. test x ≡ true) xs
each_true test [] h = tt
each_true test (x ∷ xs) h = let b = and_parts (test x) (list_all test xs) h in (b.0, each_true test xs b.1)

pub all_true : {A : Type 0} (test : A → Bool) (xs : List A) → Each (λ x. test x ≡ true) xs → list_all test xs ≡ true
all_true test [] a = refl
all_true test (x ∷ xs) a = and_from (test x) (list_all test xs) a.0 (all_true test xs a.1)

pub each_map : {A B : Type 0} (P : B → Type 0) (f : A → B) (xs : List A) → Each (λ x. P (f x)) xs → Each P (map f xs)
each_map P f [] a = tt
each_map P f (x ∷ xs) a = (a.0, each_map P f xs a.1)

-- what one keeps is among what all do
pub among_left : (xs ys : List ℕ) (id : ℕ) → IsAmong xs id → IsAmong (xs ++ ys) id
among_left [] ys id (zero, e) = absurd (cc)
among_left [] ys id (suc place, e) = absurd (cc)
among_left (x ∷ xs) ys id (zero, e) = (0, e)
among_left (x ∷ xs) ys id (suc place, e) = let r = among_left xs ys id (place, e) in (suc r.0, r.1)

pub among_right : (xs ys : List ℕ) (id : ℕ) → IsAmong ys id → IsAmong (xs ++ ys) id
among_right [] ys id h = h
among_right (x ∷ xs) ys id h = let r = among_right xs ys id h in (suc r.0, r.1)

pub flat_among : {A : Type 0} (f : A → List ℕ) (xs : List A) (place : ℕ) (x : A) (id : ℕ) → slice_get xs place ≡ Some x → IsAmong (f x) id
    → IsAmong (flat_map f xs) id
flat_among f [] place x id e h = absurd (cc)
flat_among {A} f (y ∷ xs) zero x id e h = among_left (f y) (flat_map f xs) id (subst (λ z. IsAmong (f z) id) (same y x e) h)
  where
    same : (y x : A) → Some y ≡ Some x → x ≡ y
    same y x e = cc
flat_among f (y ∷ xs) (suc place) x id e h = among_right (f y) (flat_map f xs) id (flat_among f xs place x id e h)

pub each_from : (P : ℕ → Type 0) (xs : List ℕ) → ((place id : ℕ) → slice_get xs place ≡ Some id → P id) → Each P xs
each_from P [] from = tt
each_from P (x ∷ xs) from = (from 0 x refl, each_from P xs (λ place id e. from (suc place) id e))
