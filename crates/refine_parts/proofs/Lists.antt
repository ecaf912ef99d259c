-- What holds of each element of a list.
use Rattle.std.proofs.Common.{◌≡◌, ℕ, ◌+◌, ◌<◌, ◌≤◌, ◌⊎◌, Bool, true, false, cond, List, [], ◌∷◌, ◌++◌, map, filter, refl, inl, inr, arith}
use Rattle.std.specs.List.{AllByRecursion as Each}
use Rattle.std.proofs.lemmas.Bool.{cases_lt}
use Rattle.std.proofs.lemmas.List.Sums.{sum_by-cons}
use Rattle.std.specs.Prelude.{nat_eq}
use Rattle.std.proofs.lemmas.Bool.{eq-eqb}
use Rattle.model_loop.specs.Numbered.{occurrences}

pub all-append : {A : Type 0} (P : A → Type 0) (xs ys : List A) → Each P xs → Each P ys → Each P (xs ++ ys)
all-append P [] ys a b = b
all-append P (x ∷ xs) ys a b = (a.0, all-append P xs ys a.1 b)

pub all_left : {A : Type 0} (P : A → Type 0) (xs ys : List A) → Each P (xs ++ ys) → Each P xs
all_left P [] ys a = tt
all_left P (x ∷ xs) ys a = (a.0, all_left P xs ys a.1)

pub all_right : {A : Type 0} (P : A → Type 0) (xs ys : List A) → Each P (xs ++ ys) → Each P ys
all_right P [] ys a = a
all_right P (x ∷ xs) ys a = all_right P xs ys a.1

pub all_more : {A : Type 0} (P Q : A → Type 0) → ((x : A) → P x → Q x) → (xs : List A) → Each P xs → Each Q xs
all_more P Q more [] a = tt
all_more P Q more (x ∷ xs) a = (more x a.0, all_more P Q more xs a.1)

pub all_both : {A : Type 0} (P Q R : A → Type 0) → ((x : A) → P x → Q x → R x) → (xs : List A) → Each P xs → Each Q xs → Each R xs
all_both P Q R more [] a b = tt
all_both P Q R more (x ∷ xs) a b = (more x a.0 b.0, all_both P Q R more xs a.1 b.1)

pub all-filter : {A : Type 0} (P : A → Type 0) (test : A → Bool) (xs : List A) → Each P xs → Each P (filter test xs)
all-filter P test [] a = tt
all-filter P test (x ∷ xs) a = go (test x) (all-filter P test xs a.1)
  where
    go : (b : Bool) → Each P (filter test xs) → Each P (cond b (x ∷ filter test xs) (filter test xs))
    go true more = (a.0, more)
    go false more = more

-- two functions that agree on each element
pub map_same : {A B : Type 0} (f g : A → B) (xs : List A) → Each (λ x. f x ≡ g x) xs → map f xs ≡ map g xs
map_same f g [] a = refl
map_same f g (x ∷ xs) a = let e = a.0 in let more = map_same f g xs a.1 in cc

pub occurrences-cons : (k x : ℕ) (xs : List ℕ) → occurrences k (x ∷ xs) ≡ cond (nat_eq k x) 1 0 + occurrences k xs
occurrences-cons k x xs = sum_by-cons (λ y. cond (nat_eq k y) 1 0) x xs

-- numbers that stand nowhere from the next one on are below it
pub all_below : {A : Type 0} (f : A → ℕ) (next : ℕ) (xs : List A) → ((k : ℕ) → next ≤ k → occurrences k (map f xs) ≡ 0)
    → Each (λ x. f x < next) xs
all_below f next [] none = tt
all_below {A} f next (x ∷ xs) none = (first (cases_lt (f x) next), all_below f next xs others)
  where
    cons : (k : ℕ) → occurrences k (f x ∷ map f xs) ≡ cond (nat_eq k (f x)) 1 0 + occurrences k (map f xs)
    cons k = occurrences-cons k (f x) (map f xs)

    first : (f x < next) ⊎ (next ≤ f x) → f x < next
    first (inl h) = h
    first (inr h) =
        let a = none (f x) h in
        let b = cons (f x) in
        let c : ◌≡◌ {A = ℕ} (cond (nat_eq (f x) (f x)) 1 0) 1 = rw (eq-eqb (f x) (f x) refl) refl in
        absurd (omega (arith, a, b, c))

    others : (k : ℕ) → next ≤ k → occurrences k (map f xs) ≡ 0
    others k h = let a = none k h in let b = cons k in omega (arith, a, b)
