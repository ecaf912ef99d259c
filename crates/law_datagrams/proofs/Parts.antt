-- Lists that are part of lists, in order and each item once.
use Rattle.std.proofs.Common.{◌≡◌, inl, inr, List, [], ◌∷◌, ◌++◌, refl, ap, ◌∙◌}
use Rattle.law_datagrams.specs.Notes.{IsPartOf}

module _ {A : Type 0} where
  pub appended : (xs ys zs : List A) → (xs ++ ys) ++ zs ≡ xs ++ (ys ++ zs)
  appended [] ys zs = refl
  appended (x ∷ xs) ys zs = ap (λ l. x ∷ l) (appended xs ys zs)

  pub no_more : (xs : List A) → xs ++ [] ≡ xs
  no_more [] = refl
  no_more (x ∷ xs) = ap (λ l. x ∷ l) (no_more xs)

  -- ---- of all
  pub whole : (xs : List A) → IsPartOf xs xs
  whole [] = tt
  whole (x ∷ xs) = inl (refl, whole xs)

  -- of more
  pub more_last : (xs ys zs : List A) → IsPartOf xs ys → IsPartOf xs (ys ++ zs)
  more_last [] ys zs h = tt
  more_last (x ∷ xs) [] zs h = absurd h
  more_last (x ∷ xs) (y ∷ ys) zs (inl h) = inl (h.0, more_last xs ys zs h.1)
  more_last (x ∷ xs) (y ∷ ys) zs (inr h) = inr (more_last (x ∷ xs) ys zs h)

  -- one more of both
  pub both_last : (xs ys : List A) (z : A) → IsPartOf xs ys → IsPartOf (xs ++ z ∷ []) (ys ++ z ∷ [])
  both_last [] [] z h = inl (refl, tt)
  both_last [] (y ∷ ys) z h = inr (both_last [] ys z tt)
  both_last (x ∷ xs) [] z h = absurd h
  both_last (x ∷ xs) (y ∷ ys) z (inl h) = inl (h.0, both_last xs ys z h.1)
  both_last (x ∷ xs) (y ∷ ys) z (inr h) = inr (both_last (x ∷ xs) ys z h)

  -- a part of a part
  pub within : (xs ys zs : List A) → IsPartOf xs ys → IsPartOf ys zs → IsPartOf xs zs
  within [] ys zs h g = tt
  within (x ∷ xs) [] zs h g = absurd h
  within (x ∷ xs) (y ∷ ys) [] h g = absurd g
  within (x ∷ xs) (y ∷ ys) (z ∷ zs) (inl h) (inl g) = inl (h.0 ∙ g.0, within xs ys zs h.1 g.1)
  within (x ∷ xs) (y ∷ ys) (z ∷ zs) (inr h) (inl g) = inr (within (x ∷ xs) ys zs h g.1)
  within (x ∷ xs) (y ∷ ys) (z ∷ zs) h (inr g) = inr (within (x ∷ xs) (y ∷ ys) zs h g)

  -- what comes before others, and before fewer others
  pub front : (xs ys : List A) → IsPartOf xs (xs ++ ys)
  front [] ys = tt
  front (x ∷ xs) ys = inl (refl, front xs ys)

  pub fewer : (xs ys zs : List A) → IsPartOf ys zs → IsPartOf (xs ++ ys) (xs ++ zs)
  fewer [] ys zs h = h
  fewer (x ∷ xs) ys zs h = inl (refl, fewer xs ys zs h)
