-- Two lists that agree place by place.
use Rattle.std.proofs.Common.{◌≡◌, ℕ, zero, suc, ◌<◌, List, [], ◌∷◌, ◌++◌, length, slice_set, slice_index_or, refl, ap, arith}
use Rattle.std.specs.List.{AllZip}

module _ {A B : Type 0} (R : A → B → Type 0) where
  pub zip_set : (xs : List A) (ys : List B) (i : ℕ) (x : A) (y : B)
      → AllZip R xs ys → R x y → AllZip R (slice_set xs i x) (slice_set ys i y)
  zip_set [] [] i x y h r = h
  zip_set [] (b ∷ ys) i x y h r = absurd h
  zip_set (a ∷ xs) [] i x y h r = absurd h
  zip_set (a ∷ xs) (b ∷ ys) zero x y h r = (r, h.1)
  zip_set (a ∷ xs) (b ∷ ys) (suc i) x y h r = (h.0, zip_set xs ys i x y h.1 r)

  pub zip_at : (xs : List A) (ys : List B) (i : ℕ) (d : A) (e : B)
      → AllZip R xs ys → i < length xs → R (slice_index_or xs i d) (slice_index_or ys i e)
  zip_at [] ys i d e h within = absurd (omega arith)
  zip_at (a ∷ xs) [] i d e h within = absurd h
  zip_at (a ∷ xs) (b ∷ ys) zero d e h within = h.0
  zip_at (a ∷ xs) (b ∷ ys) (suc i) d e h within = zip_at xs ys i d e h.1 (omega arith)

  pub zip_push : (xs : List A) (ys : List B) (x : A) (y : B)
      → AllZip R xs ys → R x y → AllZip R (xs ++ x ∷ []) (ys ++ y ∷ [])
  zip_push [] [] x y h r = (r, tt)
  zip_push [] (b ∷ ys) x y h r = absurd h
  zip_push (a ∷ xs) [] x y h r = absurd h
  zip_push (a ∷ xs) (b ∷ ys) x y h r = (h.0, zip_push xs ys x y h.1 r)

  pub zip_length : (xs : List A) (ys : List B) → AllZip R xs ys → length xs ≡ length ys
  zip_length [] [] h = refl
  zip_length [] (b ∷ ys) h = absurd h
  zip_length (a ∷ xs) [] h = absurd h
  zip_length (a ∷ xs) (b ∷ ys) h = ap suc (zip_length xs ys h.1)

pub zip_weaker : {A B : Type 0} (R S : A → B → Type 0) → ((x : A) (y : B) → R x y → S x y)
    → (xs : List A) (ys : List B) → AllZip R xs ys → AllZip S xs ys
zip_weaker R S on [] [] h = tt
zip_weaker R S on [] (b ∷ ys) h = absurd h
zip_weaker R S on (a ∷ xs) [] h = absurd h
zip_weaker R S on (a ∷ xs) (b ∷ ys) h = (on a b h.0, zip_weaker R S on xs ys h.1)
