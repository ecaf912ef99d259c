-- Four lists, one after another.
use Rattle.std.proofs.Common.{◌≡◌, ℕ, zero, suc, List, [], ◌∷◌, ◌++◌, Some, slice_get, refl}
use Rattle.std.specs.List.{AllByRecursion as Each}
use Rattle.law_runs.specs.Allowed.{IsAmong}

append : {A : Type 0} (P : A → Type 0) (xs ys : List A) → Each P xs → Each P ys → Each P (xs ++ ys)
append P [] ys a b = b
append P (x ∷ xs) ys a b = (a.0, append P xs ys a.1 b)

left : {A : Type 0} (P : A → Type 0) (xs ys : List A) → Each P (xs ++ ys) → Each P xs
left P [] ys a = tt
left P (x ∷ xs) ys a = (a.0, left P xs ys a.1)

right : {A : Type 0} (P : A → Type 0) (xs ys : List A) → Each P (xs ++ ys) → Each P ys
right P [] ys a = a
right P (x ∷ xs) ys a = right P xs ys a.1

among_left : (xs ys : List ℕ) (id : ℕ) → IsAmong xs id → IsAmong (xs ++ ys) id
among_left [] ys id h = absurd (none h)
  where
    none : {id : ℕ} → IsAmong [] id → ⊥
    none {id} (zero, e) = absurd (cc)
    none {id} (suc place, e) = absurd (cc)
among_left (x ∷ xs) ys id (zero, e) = (0, e)
among_left (x ∷ xs) ys id (suc place, e) = let r = among_left xs ys id (place, e) in (suc r.0, r.1)

among_right : (xs ys : List ℕ) (id : ℕ) → IsAmong ys id → IsAmong (xs ++ ys) id
among_right [] ys id h = h
among_right (x ∷ xs) ys id h = let r = among_right xs ys id h in (suc r.0, r.1)

pub each_from : (P : ℕ → Type 0) (xs : List ℕ) → ((place id : ℕ) → slice_get xs place ≡ Some id → P id) → Each P xs
each_from P [] from = tt
each_from P (x ∷ xs) from = (from 0 x refl, each_from P xs (λ place id e. from (suc place) id e))

-- ---- four
pub record Four {A : Type 0} (P : A → Type 0) (a b c d : List A) : Type 0 where
  pub first : Each P a
  pub second : Each P b
  pub third : Each P c
  pub fourth : Each P d

pub join : {A : Type 0} (P : A → Type 0) (a b c d : List A) → Four P a b c d → Each P (a ++ (b ++ (c ++ d)))
join P a b c d it =
    append P a (b ++ (c ++ d)) it.first (append P b (c ++ d) it.second (append P c d it.third it.fourth))

pub split : {A : Type 0} (P : A → Type 0) (a b c d : List A) → Each P (a ++ (b ++ (c ++ d))) → Four P a b c d
split P a b c d all =
    let rest = right P a (b ++ (c ++ d)) all in
    let last = right P b (c ++ d) rest in
    record {
      first = left P a (b ++ (c ++ d)) all;
      second = left P b (c ++ d) rest;
      third = left P c d last;
      fourth = right P c d last;
    }

module _ (a b c d : List ℕ) (id : ℕ) where
  pub in_first : IsAmong a id → IsAmong (a ++ (b ++ (c ++ d))) id
  in_first h = among_left a (b ++ (c ++ d)) id h

  pub in_second : IsAmong b id → IsAmong (a ++ (b ++ (c ++ d))) id
  in_second h = among_right a (b ++ (c ++ d)) id (among_left b (c ++ d) id h)

  pub in_third : IsAmong c id → IsAmong (a ++ (b ++ (c ++ d))) id
  in_third h = among_right a (b ++ (c ++ d)) id (among_right b (c ++ d) id (among_left c d id h))

  pub in_fourth : IsAmong d id → IsAmong (a ++ (b ++ (c ++ d))) id
  in_fourth h = among_right a (b ++ (c ++ d)) id (among_right b (c ++ d) id (among_right c d id h))
