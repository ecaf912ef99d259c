-- What stays linked where a node comes or goes.
use Rattle.std.proofs.Common.{◌≡◌, true, false, List, [], ◌∷◌, ◌++◌, length, refl, ap, arith}
use Rattle.std.proofs.lemmas.Bool.{true≢false}
use mathlib.Core.Logic.{∥∥₁_elim}
use base.Stored.{Coded-set, coded_bool}
use denote.RawPtr.{Ptr, coded_ptr}
use Rattle.aio_chain.specs.Links.{Link, links_of, is_empty, GoesOn, IsChained}

-- ---- lists that are not empty
pub uncons : {Y : Type 0} (xs : List Y) → is_empty xs ≡ false → (y : Y) × (ys : List Y) × (xs ≡ y ∷ ys)
uncons [] p = absurd (true≢false p)
uncons (y ∷ ys) p = (y, ys, refl)

last_of : {Y : Type 0} (x : Y) (xs : List Y) → (ys : List Y) × (y : Y) × (x ∷ xs ≡ ys ++ y ∷ [])
last_of x [] = ([], x, refl)
last_of x (z ∷ zs) = let on = last_of z zs in (x ∷ on.0, on.1, ap (λ l. x ∷ l) on.2)

pub unsnoc : {Y : Type 0} (xs : List Y) → is_empty xs ≡ false → (ys : List Y) × (y : Y) × (xs ≡ ys ++ y ∷ [])
unsnoc [] p = absurd (true≢false p)
unsnoc (x ∷ xs) p = last_of x xs

pub both_empty : {Y Z : Type 0} (xs : List Y) (ys : List Z) → length xs ≡ length ys → is_empty xs ≡ is_empty ys
both_empty [] [] e = refl
both_empty [] (y ∷ ys) e = absurd (omega arith)
both_empty (x ∷ xs) [] e = absurd (omega arith)
both_empty (x ∷ xs) (y ∷ ys) e = refl

pub links_empty : {Z : Type 0} (ns : List (Link × Z)) → is_empty (links_of ns) ≡ is_empty ns
links_empty [] = refl
links_empty (n ∷ ns) = refl

-- ---- there is one proof at most that nodes are chained
one_goes_on : (l : Link) (ls : List Link) (t : Ptr) → IsProp (GoesOn l ls t)
one_goes_on l [] t = λ p q i. (Coded-set coded_bool l.2 true p.0 q.0 i, Coded-set coded_ptr t l.0 p.1 q.1 i)
one_goes_on l (m ∷ ls) t = λ p q i.
    (Coded-set coded_bool l.2 false p.0 q.0 i, Coded-set coded_ptr l.1 m.0 p.1 q.1 i, one_goes_on m ls t p.2 q.2 i)

one_is_chained : (h t : Ptr) (ls : List Link) → IsProp (IsChained h t ls)
one_is_chained h t [] = λ p q. refl
one_is_chained h t (l ∷ ls) = λ p q i. (Coded-set coded_ptr h l.0 p.0 q.0 i, one_goes_on l ls t p.1 q.1 i)

pub chained_had : (h t : Ptr) (ls : List Link) → ∥ IsChained h t ls ∥₁ → IsChained h t ls
chained_had h t ls c = ∥∥₁_elim c (one_is_chained h t ls) (λ p. p)

-- ---- the first node leaves
pub chained_rest : (h t : Ptr) (l : Link) (ls : List Link) → IsChained h t (l ∷ ls) → IsChained l.1 t ls × (l.2 ≡ is_empty ls)
chained_rest h t l [] c = (tt, c.1.0)
chained_rest h t l (m ∷ ls) c = ((c.1.1, c.1.2), c.1.0)

-- ---- where the last node lies
goes_to_last : (k : Link) (t : Ptr) (ls : List Link) (l : Link) → GoesOn k (ls ++ l ∷ []) t → t ≡ l.0
goes_to_last k t [] l c = c.2.1
goes_to_last k t (m ∷ ls) l c = goes_to_last m t ls l c.2

pub chained_last : (h t : Ptr) (ls : List Link) (l : Link) → IsChained h t (ls ++ l ∷ []) → t ≡ l.0
chained_last h t [] l c = c.1.1
chained_last h t (m ∷ ls) l c = goes_to_last m t ls l c.1

-- ---- nodes come after the last, which leads to the first of them and is the last no more
goes_to_more : (a p u : Ptr) (ms : List Link) → is_empty ms ≡ false → IsChained p u ms → GoesOn (a, p, false) ms u
goes_to_more a p u [] e d = absurd (true≢false e)
goes_to_more a p u (m ∷ ms) e d = (refl, d.0, d.1)

goes_on_more : (k : Link) (t p u : Ptr) (ls : List Link) (l : Link) (ms : List Link) → is_empty ms ≡ false
    → GoesOn k (ls ++ l ∷ []) t → IsChained p u ms → GoesOn k ((ls ++ (l.0, p, false) ∷ []) ++ ms) u
goes_on_more k t p u [] l ms e c d = (c.0, c.1, goes_to_more l.0 p u ms e d)
goes_on_more k t p u (m ∷ ls) l ms e c d = (c.0, c.1, goes_on_more m t p u ls l ms e c.2 d)

pub chained_more : (h t p u : Ptr) (ls : List Link) (l : Link) (ms : List Link) → is_empty ms ≡ false
    → IsChained h t (ls ++ l ∷ []) → IsChained p u ms → IsChained h u ((ls ++ (l.0, p, false) ∷ []) ++ ms)
chained_more h t p u [] l ms e c d = (c.0, goes_to_more l.0 p u ms e d)
chained_more h t p u (m ∷ ls) l ms e c d = (c.0, goes_on_more m t p u ls l ms e c.1 d)
