-- The table of futures after a change of the map.
use Rattle.std.proofs.Common.{◌≡◌, ◌≢◌, ℕ, zero, suc, ◌<◌, ◌≤◌, ◌⊎◌, List, [], ◌∷◌, ◌++◌, Option, Some, None, length, slice_get, slice_set, refl, ap, sym, ◌∙◌}
use Rattle.std.proofs.Common.{arith, inl, inr, length-append}
use Rattle.std.specs.Prelude.{unwrap_or}
use Rattle.std.proofs.lemmas.Bool.{cases_eq, cases_lt}
use Rattle.model_loop.specs.Parts.{Future}
use Rattle.algorithm_parts.specs.Released.{released}
use Rattle.aio_future.specs.Table.{table, held_in, IsBelow}

pub length-table : (f : ℕ → Option Future) (n : ℕ) → length (table f n) ≡ n
length-table f zero = refl
length-table f (suc n) = let ih = length-table f n in length-append (table f n) _ ∙ omega arith

pub table-same : (f g : ℕ → Option Future) (n : ℕ) → ((j : ℕ) → j < n → g j ≡ f j) → table g n ≡ table f n
table-same f g zero h = refl
table-same f g (suc n) h =
    let ih : table g n ≡ table f n = table-same f g n (λ j l. h j (omega arith)) in
    rw (h n (omega arith), ih) refl

get_in_front : {X : Type 0} (xs ys : List X) (k : ℕ) → k < length xs → slice_get (xs ++ ys) k ≡ slice_get xs k
get_in_front [] ys k l = absurd (omega arith)
get_in_front (x ∷ xs) ys zero l = refl
get_in_front (x ∷ xs) ys (suc k) l = get_in_front xs ys k (omega arith)

get_at_end : {X : Type 0} (xs : List X) (y : X) → slice_get (xs ++ y ∷ []) (length xs) ≡ Some y
get_at_end [] y = refl
get_at_end (x ∷ xs) y = get_at_end xs y

set_in_front : {X : Type 0} (xs ys : List X) (k : ℕ) (v : X) → k < length xs → slice_set (xs ++ ys) k v ≡ slice_set xs k v ++ ys
set_in_front [] ys k v l = absurd (omega arith)
set_in_front (x ∷ xs) ys zero v l = refl
set_in_front (x ∷ xs) ys (suc k) v l = ap (λ zs. x ∷ zs) (set_in_front xs ys k v (omega arith))

set_at_end : {X : Type 0} (xs : List X) (y v : X) → slice_set (xs ++ y ∷ []) (length xs) v ≡ xs ++ v ∷ []
set_at_end [] y v = refl
set_at_end (x ∷ xs) y v = ap (λ zs. x ∷ zs) (set_at_end xs y v)

pub get-table : (f : ℕ → Option Future) (n k : ℕ) → k < n → slice_get (table f n) k ≡ Some (unwrap_or (f k) released)
get-table f zero k l = absurd (omega arith)
get-table f (suc n) k l = go (cases_eq k n) (λ below. get-table f n k below)
  where
    go : (k ≡ n) ⊎ (k ≡ n → ⊥) → (k < n → slice_get (table f n) k ≡ Some (unwrap_or (f k) released))
        → slice_get (table f n ++ unwrap_or (f n) released ∷ []) k ≡ Some (unwrap_or (f k) released)
    go (inl e) ih = rw e (ap (λ i. slice_get (table f n ++ unwrap_or (f n) released ∷ []) i) (sym (length-table f n)) ∙ get_at_end (table f n) _)
    go (inr ne) ih =
        let len = length-table f n in
        get_in_front (table f n) _ k (omega arith) ∙ ih (omega arith)

past_end : {X : Type 0} (xs : List X) (k : ℕ) → length xs ≤ k → slice_get xs k ≡ None
past_end [] k l = refl
past_end (x ∷ xs) zero l = absurd (omega arith)
past_end (x ∷ xs) (suc k) l = past_end xs k (omega arith)

pub get-table_past : (f : ℕ → Option Future) (n k : ℕ) → n ≤ k → slice_get (table f n) k ≡ None
get-table_past f n k l = past_end (table f n) k (let len = length-table f n in omega arith)

-- one number of the map changed
pub set-table : (f g : ℕ → Option Future) (n k : ℕ) (x : Future) → k < n → unwrap_or (g k) released ≡ x → ((j : ℕ) → j ≢ k → g j ≡ f j)
    → table g n ≡ slice_set (table f n) k x
set-table f g zero k x l e h = absurd (omega arith)
set-table f g (suc n) k x l e h = go (cases_eq k n) (λ below. set-table f g n k x below e h)
  where
    go : (k ≡ n) ⊎ (k ≡ n → ⊥) → (k < n → table g n ≡ slice_set (table f n) k x)
        → table g n ++ unwrap_or (g n) released ∷ [] ≡ slice_set (table f n ++ unwrap_or (f n) released ∷ []) k x
    go (inl p) ih =
        let same : table g n ≡ table f n = table-same f g n (λ j b. h j (omega arith)) in
        let last : unwrap_or (g n) released ≡ x = rw (← p) e in
        let there : slice_set (table f n ++ unwrap_or (f n) released ∷ []) k x ≡ table f n ++ x ∷ [] = rw p (ap (λ i. slice_set
        (table f n ++ unwrap_or (f n) released ∷ []) i x) (sym (length-table f n)) ∙ set_at_end (table f n) _ x) in
        rw (same, last, there) refl
    go (inr ne) ih =
        let len = length-table f n in
        let kept : g n ≡ f n = h n (λ q. ne (sym q)) in
        rw (kept, ih (omega arith)) (sym (set_in_front (table f n) _ k x (omega arith)))

-- a number that was never held is the next one
pub push-table : (f g : ℕ → Option Future) (n : ℕ) (x : Future) → g n ≡ Some x → ((j : ℕ) → j ≢ n → g j ≡ f j) → table g (suc n) ≡ table f n ++ x ∷ []
push-table f g n x e h =
    let same : table g n ≡ table f n = table-same f g n (λ j b. h j (omega arith)) in
    rw (e, same) refl

none_some : {X Y : Type 0} (o : Option X) (x : X) → o ≡ Some x → o ≡ None → Y
none_some o x e f = absurd (cc)

-- what is held is below the next number
pub held_below : (es : List (ℕ × Future)) (n k : ℕ) (x : Future) → IsBelow es n → held_in es k ≡ Some x → k < n
held_below es n k x below e = go (cases_lt k n)
  where
    go : (k < n) ⊎ (n ≤ k) → k < n
    go (inl l) = l
    go (inr l) = none_some (held_in es k) x e (below k l)

pub at_held : (es : List (ℕ × Future)) (n k : ℕ) (x : Future) → IsBelow es n → Some x ≡ held_in es k → slice_get (table (held_in es) n) k ≡ Some x
at_held es n k x below e = get-table (held_in es) n k (held_below es n k x below (sym e)) ∙ rw (← e) refl

pub at_released : (es : List (ℕ × Future)) (n k : ℕ) → k < n → None ≡ held_in es k → slice_get (table (held_in es) n) k ≡ Some released
at_released es n k l e = get-table (held_in es) n k l ∙ rw (← e) refl
