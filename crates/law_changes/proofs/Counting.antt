-- How many entries of a list pass a test.
use Rattle.std.proofs.Common.{◌≡◌, ◌+◌, Bool, true, false, cond, List, ◌∷◌, ◌++◌, refl, ◌∙◌, arith}
use Rattle.std.proofs.lemmas.List.Sums.{sum_by-cons, sum_by-append}
use Rattle.std.specs.List.{count_by}

module _ {X : Type 0} (f : X → Bool) where
  pub count-cons : (x : X) (xs : List X) → count_by f (x ∷ xs) ≡ cond (f x) 1 0 + count_by f xs
  count-cons x xs = sum_by-cons (λ e. cond (f e) 1 0) x xs

  pub count-append : (xs ys : List X) → count_by f (xs ++ ys) ≡ count_by f xs + count_by f ys
  count-append xs ys = sum_by-append (λ e. cond (f e) 1 0) xs ys

  -- the first is counted, or isn't
  pub count-yes : (x : X) (xs : List X) → f x ≡ true → count_by f (x ∷ xs) ≡ 1 + count_by f xs
  count-yes x xs e = count-cons x xs ∙ rw e refl

  pub count-no : (x : X) (xs : List X) → f x ≡ false → count_by f (x ∷ xs) ≡ count_by f xs
  count-no x xs e = count-cons x xs ∙ rw e (omega arith)
