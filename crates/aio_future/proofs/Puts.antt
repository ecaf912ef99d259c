-- The table after one number of the map changed.
use Rattle.std.proofs.Common.{◌≡◌, ◌≢◌, ℕ, zero, suc, ◌+◌, ◌<◌, ◌≤◌, ◌⊎◌, Bool, true, false, cond, List, [], ◌∷◌, ◌++◌, Option, Some, None, length, slice_get}
use Rattle.std.proofs.Common.{slice_set, refl, ap, sym, ◌∙◌, arith, inl, inr, nat_eq, nat_lt, MutBor, if◌then◌else◌}
use Rattle.std.specs.Prelude.{unwrap_or, is_none}
use Rattle.std.specs.Option.{IsSome, option_copied_mut}
use Rattle.std.proofs.lemmas.Bool.{cases_lt, eq-eqb, ne_eqb, lt-ltb, le-ltb}
use Rattle.model_loop.specs.Parts.{Future}
use Rattle.model_loop.specs.Futures.{is_pending_at, asked_kind}
use Rattle.algorithm_parts.specs.Released.{released}
use Rattle.aio_future.specs.Table.{table, held_in, IsBelow}
use Rattle.aio_future.proofs.TableLemmas.{set-table, push-table, at_held, at_released, table-same, get-table_past, held_below, length-table}

-- the entries after one number got a future, or lost its own
abbrev pub Puts : List (ℕ × Future) → List (ℕ × Future) → ℕ → Option Future → Type 0
Puts es after k w = (q : ℕ) → held_in after q ≡ cond (nat_eq k q) w (held_in es q)

pub put_same : (es after : List (ℕ × Future)) (k : ℕ) (w : Option Future) → Puts es after k w → held_in after k ≡ w
put_same es after k w u = u k ∙ rw (eq-eqb k k refl) refl

pub put_other : (es after : List (ℕ × Future)) (k : ℕ) (w : Option Future) → Puts es after k w → (j : ℕ) → j ≢ k → held_in after j ≡ held_in es j
put_other es after k w u j n = u j ∙ rw (ne_eqb k j (λ e. n (sym e))) refl

pub put-table : (es after : List (ℕ × Future)) (n k : ℕ) (w : Option Future) → k < n → Puts es after k w
    → table (held_in after) n ≡ slice_set (table (held_in es) n) k (unwrap_or w released)
put-table es after n k w l u =
    set-table (held_in es) (held_in after) n k (unwrap_or w released) l (ap (λ o. unwrap_or o released) (put_same es after k w u)) (put_other es after k w u)

pub put_next-table : (es after : List (ℕ × Future)) (n : ℕ) (x : Future) → Puts es after n (Some x)
    → table (held_in after) (suc n) ≡ table (held_in es) n ++ x ∷ []
put_next-table es after n x u = push-table (held_in es) (held_in after) n x (put_same es after n (Some x) u) (put_other es after n (Some x) u)

pub some_lent : (r : Option (MutBor Future)) (o : Option Future) → option_copied_mut r ≡ o → IsSome o → IsSome r
some_lent None None e s = s
some_lent None (Some x) e s = absurd (cc)
some_lent (Some m) o e s = refl

pub pending_held : (es : List (ℕ × Future)) (n k : ℕ) (fs : List Future) → table (held_in es) n ≡ fs → is_pending_at (slice_get fs k) ≡ true
    → IsSome (held_in es k)
pending_held es n k fs view p = go (held_in es k) refl (cases_lt k n)
  where
    not : {X : Type 0} (o : Option Future) (b : Bool) → is_pending_at o ≡ b → b ≡ false → is_pending_at o ≡ true → X
    not o b e f t = absurd (cc)

    go : (o : Option Future) → held_in es k ≡ o → (k < n) ⊎ (n ≤ k) → IsSome o
    go (Some x) e l = refl
    go None e (inl l) = not (slice_get fs k) false (rw (← view) (ap is_pending_at (at_released es n k l (sym e)))) refl p
    go None e (inr l) = not (slice_get fs k) false (rw (← view) (ap is_pending_at (get-table_past (held_in es) n k l))) refl p

none_is : {X : Type 0} (o : Option X) → is_none o ≡ true → o ≡ None
none_is None e = refl
none_is (Some x) e = absurd (cc)

-- a pending future has no outcome
pub open_there : (es : List (ℕ × Future)) (n k : ℕ) (fs : List Future) (r : Option (MutBor Future)) (m : MutBor Future)
    → IsBelow es n → table (held_in es) n ≡ fs → option_copied_mut r ≡ held_in es k → r ≡ Some m
    → is_pending_at (slice_get fs k) ≡ true → m.now.outcome ≡ None
open_there es n k fs r m below view value is pending =
    let there : Some m.now ≡ held_in es k = ap option_copied_mut (sym is) ∙ value in
    let here : slice_get fs k ≡ Some m.now = rw (← view) (at_held es n k m.now below there) in
    none_is m.now.outcome (rw here at pending)

pub some_is : {X : Type 0} (o : Option X) (x : X) → Some x ≡ o → IsSome o
some_is (Some y) x e = refl
some_is None x e = absurd (cc)

same_some : {X : Type 0} (o : Option X) (x y : X) → o ≡ Some x → o ≡ Some y → x ≡ y
same_some o x y e f = cc

-- a held future changed in its place
pub wrote : (es after : List (ℕ × Future)) (n k : ℕ) (fs : List Future) (r : Option (MutBor Future)) (m : MutBor Future) (new : Future)
    (change : Future → Future)
    → IsBelow es n → table (held_in es) n ≡ fs → option_copied_mut r ≡ held_in es k → r ≡ Some m → (IsSome (held_in es k)
    → Puts es after k (Some new)) → new ≡ change m.now
    → (future : Future) → slice_get fs k ≡ Some future → table (held_in after) n ≡ slice_set fs k (change future)
wrote es after n k fs r m new change below view value is puts changed future found =
    let there : Some m.now ≡ held_in es k = ap option_copied_mut (sym is) ∙ value in
    let here : slice_get fs k ≡ Some m.now = rw (← view) (at_held es n k m.now below there) in
    let same : m.now ≡ future = same_some (slice_get fs k) m.now future here found in
    put-table es after n k (Some new) (held_below es n k m.now below (sym there)) (puts (some_is (held_in es k) m.now there))
    ∙ ap (λ xs. slice_set xs k new) view ∙ ap (slice_set fs k) (changed ∙ ap change same)

-- what stood there
pub was : (es : List (ℕ × Future)) (n k : ℕ) (fs : List Future) (r : Option (MutBor Future)) (m : MutBor Future)
    → IsBelow es n → table (held_in es) n ≡ fs → option_copied_mut r ≡ held_in es k → r ≡ Some m
    → (future : Future) → slice_get fs k ≡ Some future → m.now ≡ future
was es n k fs r m below view value is future found =
    let there : Some m.now ≡ held_in es k = ap option_copied_mut (sym is) ∙ value in
    let here : slice_get fs k ≡ Some m.now = rw (← view) (at_held es n k m.now below there) in
    same_some (slice_get fs k) m.now future here found

pub below_next : (es after : List (ℕ × Future)) (n : ℕ) (w : Option Future) → IsBelow es n → Puts es after n w → IsBelow after (n + 1)
below_next es after n w below u j l =
    let ne : j ≢ n = omega arith in
    put_other es after n w u j ne ∙ below j (omega arith)

-- a future is released
pub gone : (es after : List (ℕ × Future)) (n k : ℕ) (fs : List Future) → IsBelow es n → table (held_in es) n ≡ fs → Puts es after k None
    → table (held_in after) n ≡ (if nat_lt k (length fs) then slice_set fs k released else fs)
gone es after n k fs below view u = go (cases_lt k n)
  where
    len : length fs ≡ n
    len = rw (← view) (length-table (held_in es) n)

    go : (k < n) ⊎ (n ≤ k) → table (held_in after) n ≡ (if nat_lt k (length fs) then slice_set fs k released else fs)
    go (inl l) = put-table es after n k None l u ∙ ap (λ xs. slice_set xs k released) view ∙ rw (len, lt-ltb k n l) refl
    go (inr l) =
        table-same (held_in es) (held_in after) n (λ j b. put_other es after k None u j (omega arith)) ∙ view ∙ rw (len, le-ltb k n l) refl

pub at_none : (es : List (ℕ × Future)) (n k : ℕ) (fs : List Future) → table (held_in es) n ≡ fs → None ≡ held_in es k
    → (if nat_lt k (length fs) then Some released else None) ≡ slice_get fs k
at_none es n k fs view e = go (cases_lt k n)
  where
    len : length fs ≡ n
    len = rw (← view) (length-table (held_in es) n)

    go : (k < n) ⊎ (n ≤ k) → (if nat_lt k (length fs) then Some released else None) ≡ slice_get fs k
    go (inl l) = rw (len, lt-ltb k n l) (sym (at_released es n k l e) ∙ ap (λ xs. slice_get xs k) view)
    go (inr l) = rw (len, le-ltb k n l) (sym (get-table_past (held_in es) n k l) ∙ ap (λ xs. slice_get xs k) view)

-- a future is made
pub made : (es after : List (ℕ × Future)) (n m : ℕ) (fs : List Future) (x y : Future) → table (held_in es) n ≡ fs → m ≡ n + 1 → x ≡ y
    → Puts es after n (Some x)
    → table (held_in after) m ≡ fs ++ y ∷ []
made es after n m fs x y view next same u =
    let s : m ≡ suc n = omega arith in
    rw s (put_next-table es after n x u ∙ ap (λ xs. xs ++ x ∷ []) view ∙ ap (λ z. fs ++ z ∷ []) same)

set_same : {X : Type 0} (xs : List X) (k : ℕ) (v : X) → slice_get xs k ≡ Some v → slice_set xs k v ≡ xs
set_same [] k v e = refl
set_same (x ∷ xs) zero v e = let same : x ≡ v = cc in ap (λ z. z ∷ xs) (sym same)
set_same (x ∷ xs) (suc k) v e = ap (λ ys. x ∷ ys) (set_same xs k v e)

-- a future that stands as a released one is released
pub let_go_same : (fs : List Future) (k : ℕ) → slice_get fs k ≡ Some released
    → (if nat_lt k (length fs) then slice_set fs k released else fs) ≡ fs
let_go_same fs k e = go (nat_lt k (length fs))
  where
    go : (b : Bool) → (if b then slice_set fs k released else fs) ≡ fs
    go true = set_same fs k released e
    go false = refl

-- a released future that is asked
pub ask_released : (es : List (ℕ × Future)) (n k : ℕ) (fs : List Future) → table (held_in es) n ≡ fs → None ≡ held_in es k
    → (future : Future) → slice_get fs k ≡ Some future → fs ≡ slice_set fs k (record future { kind = asked_kind future.kind })
ask_released es n k fs view e future found = go (cases_lt k n)
  where
    none : slice_get fs k ≡ Some future → slice_get fs k ≡ None → fs ≡ slice_set fs k (record future { kind = asked_kind future.kind })
    none f m = absurd (cc)

    there : released ≡ future → fs ≡ slice_set fs k (record future { kind = asked_kind future.kind })
    there same = rw (← same) (sym (set_same fs k released (rw same found)))

    go : (k < n) ⊎ (n ≤ k) → fs ≡ slice_set fs k (record future { kind = asked_kind future.kind })
    go (inl l) = there (same_some (slice_get fs k) released future (rw (← view) (at_released es n k l e)) found)
    go (inr l) = none found (rw (← view) (get-table_past (held_in es) n k l))
