-- Posts of a seat, as a post joins what was posted.
use Rattle.std.proofs.Common.{◌≡◌, ◌≢◌, ◌⊎◌, inl, inr, ℕ, zero, suc, ◌<◌, List, [], ◌∷◌, ◌++◌, length, Bool, cond}
use Rattle.std.proofs.Common.{refl, sym, ap, ◌∙◌, subst, ⊎_elim, append-nil, arith, length-append, eq-eqb, ne_eqb}
use Rattle.std.specs.Prelude.{◌==◌}
use Rattle.std.proofs.lemmas.List.Elements.{filter-append}
use mathlib.Core.Option.{some, some-injective, some-ne-none}
use lib.ListN.{get_elem?}
use Rattle.model_pump.specs.Posts.{Post, posts_of}
use Rattle.aio_inbox.specs.Numbers.{IsNumbered}

module _ {A : Type 0} where
  pub snoc_at : (l : List A) (a b : A) (j : ℕ) → get_elem? (l ++ a ∷ []) j ≡ some b → (get_elem? l j ≡ some b) ⊎ ((j ≡ length l) × (a ≡ b))
  snoc_at [] a b zero e = inr (refl, some-injective a b e)
  snoc_at [] a b (suc j) e = absurd (some-ne-none b (sym e))
  snoc_at (x ∷ xs) a b zero e = inl e
  snoc_at (x ∷ xs) a b (suc j) e =
      ⊎_elim
      (λ (h : get_elem? xs j ≡ some b). inl h)
      (λ (h : (j ≡ length xs) × (a ≡ b)). inr (ap suc h.0, h.1))
      (snoc_at xs a b j e)

  pub at_front : (l : List A) (x : A) (ys : List A) → get_elem? (l ++ x ∷ ys) (length l) ≡ some x
  at_front [] x ys = refl
  at_front (y ∷ l) x ys = at_front l x ys

-- a post on this seat, and on another
pub posts_here : (k : ℕ) (x : Post) (xs : List Post) → x.seat ≡ k → posts_of k (x ∷ xs) ≡ x ∷ posts_of k xs
posts_here k x xs e = ap (λ (b : Bool). cond b (x ∷ posts_of k xs) (posts_of k xs)) (eq-eqb x.seat k e)

pub posts_else : (k : ℕ) (x : Post) (xs : List Post) → x.seat ≢ k → posts_of k (x ∷ xs) ≡ posts_of k xs
posts_else k x xs n = ap (λ (b : Bool). cond b (x ∷ posts_of k xs) (posts_of k xs)) (ne_eqb x.seat k n)

pub posts_both : (k : ℕ) (xs ys : List Post) → posts_of k (xs ++ ys) ≡ posts_of k xs ++ posts_of k ys
posts_both k xs ys = filter-append (λ (p : Post). p.seat == k) xs ys

pub posted_here : (k : ℕ) (all : List Post) (x : Post) → x.seat ≡ k → posts_of k (all ++ x ∷ []) ≡ posts_of k all ++ x ∷ []
posted_here k all x e = posts_both k all (x ∷ []) ∙ ap (λ l. posts_of k all ++ l) (posts_here k x [] e)

pub posted_else : (k : ℕ) (all : List Post) (x : Post) → x.seat ≢ k → posts_of k (all ++ x ∷ []) ≡ posts_of k all
posted_else k all x n = posts_both k all (x ∷ []) ∙ ap (λ l. posts_of k all ++ l) (posts_else k x [] n) ∙ append-nil (posts_of k all)

-- a post among others
pub posts_around : (x : Post) (xs ys : List Post) → posts_of x.seat (xs ++ x ∷ ys) ≡ posts_of x.seat xs ++ x ∷ posts_of x.seat ys
posts_around x xs ys = posts_both x.seat xs (x ∷ ys) ∙ ap (λ l. posts_of x.seat xs ++ l) (posts_here x.seat x ys refl)

-- more were posted on its seat than came before it
pub more_than_before : (x : Post) (xs ys : List Post) → length (posts_of x.seat xs) < length (posts_of x.seat (xs ++ x ∷ ys))
more_than_before x xs ys =
    let n = ap length (posts_around x xs ys) in
    let m = length-append (posts_of x.seat xs) (x ∷ posts_of x.seat ys) in
    omega (arith, n, m)

pub numbered_more : (k : ℕ) (xs : List Post) (x : Post) → IsNumbered k xs → x.seat ≡ k → x.number ≡ length xs → IsNumbered k (xs ++ x ∷ [])
numbered_more k xs x old seat number i p e =
    ⊎_elim
    (λ (h : get_elem? xs i ≡ some p). old i p h)
    (λ (h : (i ≡ length xs) × (x ≡ p)). subst (λ (q : Post). (q.seat ≡ k) × (q.number ≡ i)) h.1 (seat, number ∙ sym h.0))
    (snoc_at xs x p i e)

-- the first that is held of a seat has the number of those that were taken
pub next_number : (x : Post) (taken items : List Post) → IsNumbered x.seat (posts_of x.seat (taken ++ x ∷ items))
    → x.number ≡ length (posts_of x.seat taken)
next_number x taken items numbered =
    (numbered (length (posts_of x.seat taken)) x
    (ap (λ l. get_elem? l (length (posts_of x.seat taken))) (posts_around x taken items)
    ∙ at_front (posts_of x.seat taken) x (posts_of x.seat items))).1
