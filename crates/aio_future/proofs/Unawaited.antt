-- What the futures keep of who waits for them: from a number on none has members, and one that isn't said to wake a task has
-- no step among its callbacks.
use Rattle.std.proofs.Common.{◌≡◌, ℕ, ◌+◌, ◌<◌, ◌≤◌, ◌⊎◌, Bool, true, false, ◌==◌, ◌||◌, List, [], ◌∷◌, ◌++◌, Option, Some, None, slice_get}
use Rattle.std.proofs.Common.{refl, ap, sym, subst, ◌∙◌, arith, inl, inr, nat_lt, MutBor, if◌then◌else◌}
use Rattle.std.specs.Prelude.{unwrap_or}
use Rattle.std.specs.Option.{IsSome, option_copied_mut}
use Rattle.std.specs.List.{list_any}
use Rattle.std.proofs.lemmas.Bool.{cases_lt, cases_eq, false≢true, ne_eqb, ltb-true}
use Rattle.model_value.specs.Action.{Action}
use Rattle.model_loop.specs.Parts.{FutureKind, Plain, OfTask, Many, Future}
use Rattle.model_loop.specs.Futures.{asked_kind, made_before}
use Rattle.model_loop.specs.Totals.{callbacks_at}
use Rattle.algorithm_parts.specs.Released.{released}
use Rattle.algorithm_parts.specs.Shape.{members_of, members_at}
use Rattle.aio_future.specs.Table.{table, held_in, IsBelow}
use Rattle.aio_future.specs.Awaited.{is_step, WakesNone, HasNoMembersFrom, alone_after, IsUnawaited}
use Rattle.aio_future.proofs.TableLemmas.{get-table, get-table_past, held_below, at_held}
use Rattle.aio_future.proofs.Puts.{Puts, put_same, put_other, some_is, below_next}

-- ---- callbacks
last_step : (actions : List Action) (action : Action) → list_any is_step actions ≡ false → is_step action ≡ false
    → list_any is_step (actions ++ action ∷ []) ≡ false
last_step [] action none e = ap (λ b. b || false) e
last_step (a ∷ actions) action none e = at (is_step a) none (λ h. last_step actions action h e)
  where
    at : (b : Bool) → (b || list_any is_step actions) ≡ false
        → (list_any is_step actions ≡ false → list_any is_step (actions ++ action ∷ []) ≡ false)
        → (b || list_any is_step (actions ++ action ∷ [])) ≡ false
    at true h ih = absurd (false≢true (sym h))
    at false h ih = ih h

pub one_more : (wakes after : Bool) (action : Action) (actions more : List Action) → WakesNone wakes actions
    → after ≡ (if is_step action then true else wakes) → more ≡ actions ++ action ∷ [] → WakesNone after more
one_more wakes after action actions more none is grows h = ap (list_any is_step) grows ∙ at (is_step action) refl (sym is ∙ h)
  where
    at : (b : Bool) → is_step action ≡ b → (if b then true else wakes) ≡ false → list_any is_step (actions ++ action ∷ []) ≡ false
    at true e k = absurd (false≢true (sym k))
    at false e k = last_step actions action (none k) e

-- ---- members
pub asked_members : (kind : FutureKind) → members_of (asked_kind kind) ≡ members_of kind
asked_members Plain = refl
asked_members (OfTask task) = refl
asked_members (Many members asked) = refl

-- one number got what has the members that were there
pub members_kept : (es after : List (ℕ × Future)) (k : ℕ) (w : Option Future) (alone : ℕ) → Puts es after k w
    → members_at w ≡ members_at (held_in es k) → HasNoMembersFrom es alone → HasNoMembersFrom after alone
members_kept es after k w alone puts same none j l = at (cases_eq j k)
  where
    at : (j ≡ k) ⊎ (j ≡ k → ⊥) → members_at (held_in after j) ≡ []
    at (inl e) =
        subst (λ i. members_at (held_in after i) ≡ []) (sym e)
        (ap members_at (put_same es after k w puts) ∙ same ∙ none k (subst (λ i. alone ≤ i) e l))
    at (inr n) = ap members_at (put_other es after k w puts j n) ∙ none j l

-- what the type keeps
abbrev pub Kept : List (ℕ × Future) → (next alone : ℕ) → Future → Type 0
Kept es next alone over = IsBelow es next × ((over ≡ released) × HasNoMembersFrom es alone)

-- a held future changed in its place, and its members stayed
pub wrote_keeps : (es after : List (ℕ × Future)) (n k alone : ℕ) (over : Future) (r : Option (MutBor Future)) (m : MutBor Future)
    (new : Future) → Kept es n alone over → option_copied_mut r ≡ held_in es k → r ≡ Some m
    → (IsSome (held_in es k) → Puts es after k (Some new)) → members_of new.kind ≡ members_of m.now.kind → Kept after n alone over
wrote_keeps es after n k alone over r m new kept value is puts same =
    (below, (kept.1.0, members_kept es after k (Some new) alone put (same ∙ ap members_at there) kept.1.1))
  where
    there : Some m.now ≡ held_in es k
    there = ap option_copied_mut (sym is) ∙ value

    put : Puts es after k (Some new)
    put = puts (some_is (held_in es k) m.now there)

    below : IsBelow after n
    below j l =
        let within : k < n = held_below es n k m.now kept.0 (sym there) in
        put_other es after k (Some new) put j (λ e. omega (arith, within, l, e)) ∙ kept.0 j l

-- a future is released
pub gone_keeps : (es after : List (ℕ × Future)) (n k alone : ℕ) (over : Future) → Kept es n alone over → Puts es after k None
    → Kept after n alone over
gone_keeps es after n k alone over kept puts = (below, (kept.1.0, members))
  where
    below : IsBelow after n
    below j l = at (cases_eq j k)
      where
        at : (j ≡ k) ⊎ (j ≡ k → ⊥) → held_in after j ≡ None
        at (inl e) = subst (λ i. held_in after i ≡ None) (sym e) (put_same es after k None puts)
        at (inr n) = put_other es after k None puts j n ∙ kept.0 j l

    members : HasNoMembersFrom after alone
    members j l = at (cases_eq j k)
      where
        at : (j ≡ k) ⊎ (j ≡ k → ⊥) → members_at (held_in after j) ≡ []
        at (inl e) = subst (λ i. members_at (held_in after i) ≡ []) (sym e) (ap members_at (put_same es after k None puts))
        at (inr n) = ap members_at (put_other es after k None puts j n) ∙ kept.1.1 j l

-- a future is made
pub made_keeps : (es after : List (ℕ × Future)) (n next alone later : ℕ) (over x : Future) → Kept es n alone over → next ≡ n + 1
    → later ≡ alone_after x.kind next alone → Puts es after n (Some x) → Kept after next later over
made_keeps es after n next alone later over x kept is rises puts =
    (subst (λ m. IsBelow after m) (sym is) (below_next es after n (Some x) kept.0 puts), (kept.1.0, members))
  where
    new : (kind : FutureKind) → alone_after kind next alone ≤ n → members_of kind ≡ []
    new Plain h = refl
    new (OfTask task) h = refl
    new (Many members asked) h = let k : next ≤ n = h in absurd (omega (arith, is, k))

    old : (kind : FutureKind) (j : ℕ) → alone_after kind next alone ≤ j → members_at (held_in es j) ≡ []
    old Plain j h = kept.1.1 j h
    old (OfTask task) j h = kept.1.1 j h
    old (Many members asked) j h = let k : next ≤ j = h in ap members_at (kept.0 j (omega (arith, is, k)))

    members : HasNoMembersFrom after later
    members j l = at (cases_eq j n)
      where
        at : (j ≡ n) ⊎ (j ≡ n → ⊥) → members_at (held_in after j) ≡ []
        at (inl e) =
            let here : alone_after x.kind next alone ≤ n = subst (λ m. m ≤ n) rises (subst (λ i. later ≤ i) e l) in
            subst (λ i. members_at (held_in after i) ≡ []) (sym e) (ap members_at (put_same es after n (Some x) puts) ∙ new x.kind here)
        at (inr ne) =
            let past : alone_after x.kind next alone ≤ j = subst (λ m. m ≤ j) rises l in
            ap members_at (put_other es after n (Some x) puts j ne) ∙ old x.kind j past

-- ---- nobody waits
no_member : (xs : List ℕ) (holder id : ℕ) → holder ≤ id → list_any (λ member. member == id) (made_before holder xs) ≡ false
no_member [] holder id l = refl
no_member (x ∷ xs) holder id l = at (nat_lt x holder) apart (no_member xs holder id l)
  where
    apart : nat_lt x holder ≡ true → x ≡ id → ⊥
    apart h e = let b = ltb-true x holder h in omega (arith, e, b, l)

    at : (b : Bool) → (b ≡ true → x ≡ id → ⊥) → list_any (λ member. member == id) (made_before holder xs) ≡ false
        → list_any (λ member. member == id) (if b then x ∷ made_before holder xs else made_before holder xs) ≡ false
    at true other ih = ap (λ b. b || list_any (λ member. member == id) (made_before holder xs)) (ne_eqb x id (other refl)) ∙ ih
    at false other ih = ih

members_in : (es : List (ℕ × Future)) (n j : ℕ) → members_at (held_in es j) ≡ [] → members_at (slice_get (table (held_in es) n) j) ≡ []
members_in es n j none = at (cases_lt j n)
  where
    over : (o : Option Future) → members_at o ≡ [] → members_at (Some (unwrap_or o released)) ≡ []
    over None h = refl
    over (Some f) h = h

    at : (j < n) ⊎ (n ≤ j) → members_at (slice_get (table (held_in es) n) j) ≡ []
    at (inl l) = ap members_at (get-table (held_in es) n j l) ∙ over (held_in es j) none
    at (inr l) = ap members_at (get-table_past (held_in es) n j l)

pub unawaited : (es : List (ℕ × Future)) (n id alone : ℕ) (fs : List Future) (x : Future) → IsBelow es n → table (held_in es) n ≡ fs
    → HasNoMembersFrom es alone → Some x ≡ held_in es id → alone ≤ id → list_any is_step x.callbacks ≡ false → IsUnawaited id fs
unawaited es n id alone fs x below view none there past steps = record {
  wakes =
      ap (λ ys. list_any is_step (callbacks_at (slice_get ys id))) (sym view)
      ∙ ap (λ o. list_any is_step (callbacks_at o)) (at_held es n id x below there) ∙ steps;
  member = λ holder. at holder (cases_lt holder alone);
}
  where
    at : (holder : ℕ) → (holder < alone) ⊎ (alone ≤ holder)
        → list_any (λ member. member == id) (made_before holder (members_at (slice_get fs holder))) ≡ false
    at holder (inl l) = no_member (members_at (slice_get fs holder)) holder id (omega (arith, l, past))
    at holder (inr l) =
        ap (λ xs. list_any (λ member. member == id) (made_before holder xs))
        (ap (λ ys. members_at (slice_get ys holder)) (sym view) ∙ members_in es n holder (none holder l))
