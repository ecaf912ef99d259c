-- What is so of all gathers and waits, between calls: so many handles of theirs are still to come as they count, at most, and one of
-- them is registered on each member that is pending.
use Rattle.std.proofs.Common.{◌≡◌, ◌<◌, ◌≤◌, ◌+◌, ◌-◌, ◌==◌, ◌&&◌, ◌⊎◌, inl, inr, ℕ, Bool, true, false, not, List, [], ◌∷◌, Option, Some, None}
use Rattle.std.proofs.Common.{slice_get, refl, sym, ap, subst, ◌∙◌, arith}
use Rattle.std.specs.Prelude.{◌%◌, nat_le}
use Rattle.std.specs.List.{count_by, sum_by}
use Rattle.std.proofs.lemmas.Bool.{and_from, and_parts, cases_eq, cases_lt, eq-eqb, eqb-true, false≢true, le-leb, leb-true}
use Rattle.std.proofs.lemmas.Option.{none-some, same_Some}
use Rattle.model_value.specs.Action.{Action}
use Rattle.model_value.specs.declared.action.Action.TheVariants as action
use Rattle.model_loop.specs.Futures.{is_pending, is_pending_at, next_future}
use Rattle.model_loop.specs.Loop.{Loop}
use Rattle.model_loop.specs.Parts.{Future, Handle, Parts}
use Rattle.model_loop.specs.Totals.{callbacks_at, callbacks_of}
use Rattle.model_machine.specs.Extra.{ExtraStep, made_by_all}
use Rattle.model_reach.specs.Part.{key_at, place_of}
use Rattle.model_gather.specs.Gathered.{gather_part}
use Rattle.law_steps.proofs.Settling.{count_fewer}
use Rattle.law_waiters.specs.Timed.{is_key}
use Rattle.law_members.specs.Handles.{coming}
use Rattle.law_members.proofs.Coming.{coming_fewer, one_of, registered_there, taken_coming}
use Rattle.law_members.proofs.Onward.{IsOf, Onward, makes, steps_coming, steps_stay}

abbrev pub the_key : ℕ → ℕ
the_key place = key_at gather_part place

-- a request that counts: its own future, its members, and how many of them aren't counted yet
pub record Counts : Type 0 where
  pub own : ℕ
  pub members : List ℕ
  pub left : ℕ

abbrev pub IsIn : ℕ → List ℕ → Type 0
IsIn id [] = ⊥
IsIn id (x ∷ xs) = (x ≡ id) ⊎ IsIn id xs

-- ---- tests of handles
-- what stands for a key's place tells the request at place `k`
abbrev pub is_told : (k : ℕ) → Option (ℕ × ℕ) → Bool
is_told k None = false
is_told k (Some it) = it.0 == k

abbrev pub tells_of : (ℕ → Option (ℕ × ℕ)) → (k : ℕ) → Action → Bool
tells_of tells k (action.Extra key) = (key % 4 == 0) && is_told k (tells (place_of gather_part key))
tells_of tells k _ = false

-- of keys from this place on
abbrev pub is_from : ℕ → Action → Bool
is_from n (action.Extra key) = (key % 4 == 0) && nat_le n (place_of gather_part key)
is_from n _ = false

off : (b c : Bool) → b ≡ false → (b && c) ≡ false
off true c e = absurd (false≢true (sym e))
off false c e = refl

pub tells_is_of : (tells : ℕ → Option (ℕ × ℕ)) (k : ℕ) → IsOf (tells_of tells k)
tells_is_of tells k (action.Extra key) e = off (key % 4 == 0) (is_told k (tells (place_of gather_part key))) e
tells_is_of tells k _ e = refl

pub from_is_of : (n : ℕ) → IsOf (is_from n)
from_is_of n (action.Extra key) e = off (key % 4 == 0) (nat_le n (place_of gather_part key)) e
from_is_of n _ e = refl

place_is : (j : ℕ) → place_of gather_part (the_key j) ≡ j
place_is j = omega arith

is_ours : (j : ℕ) → (the_key j % 4 == 0) ≡ true
is_ours j = eq-eqb (the_key j % 4) 0 (omega arith)

-- of a key of this part, by its place
pub tells_at_key : (tells : ℕ → Option (ℕ × ℕ)) (k j : ℕ) → tells_of tells k (action.Extra (the_key j)) ≡ is_told k (tells j)
tells_at_key tells k j = ap (λ b. b && is_told k (tells (place_of gather_part (the_key j)))) (is_ours j) ∙ ap (λ n. is_told k (tells n)) (place_is j)

pub from_at_key : (n j : ℕ) → is_from n (action.Extra (the_key j)) ≡ nat_le n j
from_at_key n j = ap (λ b. b && nat_le n (place_of gather_part (the_key j))) (is_ours j) ∙ ap (nat_le n) (place_is j)

-- a handle with this key tells that request
key_tells : (tells : ℕ → Option (ℕ × ℕ)) (k j m : ℕ) → tells j ≡ Some (k, m) → (it : Action) → is_key (the_key j) it ≡ true → tells_of tells k it ≡ true
key_tells tells k j m e (action.Extra key) is =
    ap (λ n. tells_of tells k (action.Extra n)) (eqb-true key (the_key j) is) ∙ tells_at_key tells k j ∙ ap (is_told k) e ∙ eq-eqb k k refl
key_tells tells k j m e _ is = absurd (false≢true is)

-- ---- what is so
-- a handle that tells the request at place `k` of this member is registered on it
abbrev pub IsRegistered : (tells : ℕ → Option (ℕ × ℕ)) → (k member : ℕ) → Parts → Type 0
IsRegistered tells k member p =
    (j : ℕ) × ((tells j ≡ Some (k, member)) × (0 < count_by (is_key (the_key j)) (callbacks_of p member)))

-- `counts` gives the request that counts at a place, and `tells` whom a handle tells of which future; so many keys were drawn.
pub record Counted (counts : ℕ → Option Counts) (tells : ℕ → Option (ℕ × ℕ)) (drawn : ℕ) (p : Parts) : Type 0 where
  pub fresh : coming (is_from drawn) p ≡ 0
  pub small : (k : ℕ) → drawn ≤ k → (counts k ≡ None) × (tells k ≡ None)
  pub back : (j k m : ℕ) → tells j ≡ Some (k, m) → k < j
  pub own : (k : ℕ) (it : Counts) → counts k ≡ Some it → it.own < next_future p
  pub left : (k : ℕ) (it : Counts) → counts k ≡ Some it → coming (tells_of tells k) p ≤ it.left
  pub there : (k : ℕ) (it : Counts) → counts k ≡ Some it → (m : ℕ) → IsIn m it.members → m < it.own → is_pending p m ≡ true
      → IsRegistered tells k m p

-- ---- so none is left only where all are done
pub pending_found : (p : Parts) (m : ℕ) (o : Option Future) → slice_get p.futures m ≡ o → is_pending_at o ≡ true
    → (future : Future) × (slice_get p.futures m ≡ Some future)
pending_found p m None e is = absurd (false≢true is)
pending_found p m (Some future) e is = (future, e)

pub none_pending : {counts : ℕ → Option Counts} {tells : ℕ → Option (ℕ × ℕ)} {drawn : ℕ} {p : Parts} → Counted counts tells drawn p
    → (k : ℕ) (it : Counts) → counts k ≡ Some it → it.left ≡ 0 → (m : ℕ) → IsIn m it.members → m < it.own → is_pending p m ≡ false
none_pending {counts} {tells} {drawn} {p} c k it e none m among before = at (is_pending p m) refl
  where
    at : (b : Bool) → is_pending p m ≡ b → b ≡ false
    at false is = refl
    at true is =
        let there = c.there k it e m among before is in
        let found = pending_found p m (slice_get p.futures m) refl is in
        let a = c.left k it e in
        let b = registered_there (tells_of tells k) p.futures m found.0 found.1 in
        let d = ap (λ o. count_by (is_key (the_key there.0)) (callbacks_at o)) found.1 in
        let f = count_fewer (is_key (the_key there.0)) (tells_of tells k) (key_tells tells k there.0 m there.1.0) found.0.callbacks in
        let g = there.1.1 in
        absurd (omega (arith, a, b, d, f, g, none))

module _ {counts : ℕ → Option Counts} {tells : ℕ → Option (ℕ × ℕ)} {drawn : ℕ} {p : Parts} (c : Counted counts tells drawn p) where
  -- ---- the loop goes on
  pub goes_on : (q : Parts) → Onward p q → Counted counts tells drawn q
  goes_on q onward = record {
    fresh = let a = c.fresh in let b = onward.fewer (is_from drawn) (from_is_of drawn) in omega (arith, a, b);
    small = c.small;
    back = c.back;
    own = λ k it e. let a = c.own k it e in let b = onward.stays.made in omega (arith, a, b);
    left = λ k it e.
        let a = c.left k it e in
        let b = onward.fewer (tells_of tells k) (tells_is_of tells k) in
        omega (arith, a, b);
    there = λ k it e m among before is.
        let o = c.own k it e in
        let was = onward.stays.pending m (omega (arith, before, o)) is in
        let there = c.there k it e m among before was.0 in
        (there.0, (there.1.0, let a = was.1 (is_key (the_key there.0)) in let b = there.1.1 in omega (arith, a, b)));
  }

  -- ---- what is kept is told anew
  pub same_counted : (counts' : ℕ → Option Counts) (tells' : ℕ → Option (ℕ × ℕ)) (drawn' : ℕ) → ((k : ℕ) → counts' k ≡ counts k)
      → ((j : ℕ) → tells' j ≡ tells j) → drawn' ≡ drawn → Counted counts' tells' drawn' p
  same_counted counts' tells' drawn' same tells_same size = record {
    fresh = ap (λ n. coming (is_from n) p) size ∙ c.fresh;
    small = λ k h. let s = c.small k (omega (arith, h, size)) in (same k ∙ s.0, tells_same k ∙ s.1);
    back = λ j k m e. c.back j k m (sym (tells_same j) ∙ e);
    own = λ k it e. c.own k it (sym (same k) ∙ e);
    left = λ k it e.
        let a = coming_fewer (tells_of tells' k) (tells_of tells k) (λ it is. told_same k it is) p in
        let b = c.left k it (sym (same k) ∙ e) in
        omega (arith, a, b);
    there = λ k it e m among before is.
        let there = c.there k it (sym (same k) ∙ e) m among before is in
        (there.0, (tells_same there.0 ∙ there.1.0, there.1.1));
  }
    where
      told_same : (k : ℕ) (it : Action) → tells_of tells' k it ≡ true → tells_of tells k it ≡ true
      told_same k (action.Extra key) is =
          ap (λ o. (key % 4 == 0) && is_told k o) (sym (tells_same (place_of gather_part key))) ∙ is
      told_same k _ is = absurd (false≢true is)

  -- ---- one counts one fewer: its handle is taken out
  module _ (counts' : ℕ → Option Counts) (k : ℕ) (old new : Counts) (was : counts k ≡ Some old) (is : counts' k ≡ Some new)
      (others : (j : ℕ) → (k ≡ j → ⊥) → counts' j ≡ counts j) (own_same : new.own ≡ old.own) (members_same : new.members ≡ old.members)
      (left_now : coming (tells_of tells k) p ≤ new.left) where
    it_is : (j : ℕ) (it : Counts) → k ≡ j → counts' j ≡ Some it → new ≡ it
    it_is j it e f = same_Some new it (sym is ∙ ap counts' e ∙ f)

    within : (j : ℕ) → drawn ≤ j → k ≡ j → ⊥
    within j h e = none-some old (sym (c.small j h).0 ∙ ap counts (sym e) ∙ was)

    pub counted_down : Counted counts' tells drawn p
    counted_down = record {
      fresh = c.fresh;
      small = λ j h. let s = c.small j h in (others j (within j h) ∙ s.0, s.1);
      back = c.back;
      own = λ j it e. own j it e (cases_eq k j);
      left = λ j it e. left j it e (cases_eq k j);
      there = λ j it e m among before pending. there j it e m among before pending (cases_eq k j);
    }
      where
        own : (j : ℕ) (it : Counts) → counts' j ≡ Some it → (k ≡ j) ⊎ (k ≡ j → ⊥) → it.own < next_future p
        own j it e (inl same) =
            let a = ap (λ (w : Counts). w.own) (it_is j it same e) in
            let b = c.own k old was in
            omega (arith, a, b, own_same)
        own j it e (inr n) = c.own j it (sym (others j n) ∙ e)

        left : (j : ℕ) (it : Counts) → counts' j ≡ Some it → (k ≡ j) ⊎ (k ≡ j → ⊥) → coming (tells_of tells j) p ≤ it.left
        left j it e (inl same) =
            let a = ap (λ (w : Counts). w.left) (it_is j it same e) in
            let b = ap (λ n. coming (tells_of tells n) p) same in
            omega (arith, a, b, left_now)
        left j it e (inr n) = c.left j it (sym (others j n) ∙ e)

        there : (j : ℕ) (it : Counts) → counts' j ≡ Some it → (m : ℕ) → IsIn m it.members → m < it.own → is_pending p m ≡ true
            → (k ≡ j) ⊎ (k ≡ j → ⊥) → IsRegistered tells j m p
        there j it e m among before pending (inl same) =
            let here = it_is j it same e in
            let members = ap (λ (w : Counts). w.members) here in
            let a = ap (λ (w : Counts). w.own) here in
            subst (λ n. IsRegistered tells n m p) same
            (c.there k old was m (subst (IsIn m) (sym members ∙ members_same) among) (omega (arith, before, a, own_same)) pending)
        there j it e m among before pending (inr n) = c.there j it (sym (others j n) ∙ e) m among before pending

  -- ---- its handle is taken out
  pub taken_left : (handle : Handle) (rest : List Handle) (j k m : ℕ) (it : Counts) → p.pending ≡ handle ∷ rest → handle.dead ≡ false
      → handle.action ≡ action.Extra (the_key j) → tells j ≡ Some (k, m) → counts k ≡ Some it
      → coming (tells_of tells k) (record p { pending = rest }) ≤ it.left - 1
  taken_left handle rest j k m it first live is told found =
      let a = taken_coming (tells_of tells k) handle rest p first in
      let b : one_of (not handle.dead && tells_of tells k handle.action) ≡ 1 =
      ap (λ d. one_of (not d && tells_of tells k handle.action)) live ∙ ap (λ it. one_of (tells_of tells k it)) is
      ∙ ap one_of (tells_at_key tells k j ∙ ap (is_told k) told ∙ eq-eqb k k refl) in
      let d = c.left k it found in
      omega (arith, a, b, d)

  -- ---- keys are drawn
  module _ (counts' : ℕ → Option Counts) (tells' : ℕ → Option (ℕ × ℕ)) (more : ℕ) (steps : List ExtraStep) (l : Loop) (of : l.parts ≡ p)
      (old : (k : ℕ) → k < drawn → (counts' k ≡ counts k) × (tells' k ≡ tells k))
      (past : (k : ℕ) → drawn + more ≤ k → (counts' k ≡ None) × (tells' k ≡ None))
      (begins : (k : ℕ) (it : Counts) → drawn ≤ k → counts' k ≡ Some it → k ≡ drawn)
      (tells_new : (j k m : ℕ) → drawn ≤ j → tells' j ≡ Some (k, m) → (k ≡ drawn) × (drawn < j))
      (none_past : sum_by (makes (is_from (drawn + more))) steps ≡ 0)
      (none_old : (k : ℕ) → k < drawn → sum_by (makes (tells_of tells' k)) steps ≡ 0)
      (own_new : (it : Counts) → counts' drawn ≡ Some it → it.own < next_future (made_by_all steps l).parts)
      (left_new : (it : Counts) → counts' drawn ≡ Some it → sum_by (makes (tells_of tells' drawn)) steps ≤ it.left)
      (there_new : (it : Counts) → counts' drawn ≡ Some it → (m : ℕ) → IsIn m it.members → m < it.own
      → is_pending (made_by_all steps l).parts m ≡ true → IsRegistered tells' drawn m (made_by_all steps l).parts) where
    abbrev after : Parts
    after = (made_by_all steps l).parts

    before_is : (test : Action → Bool) → coming test l.parts ≡ coming test p
    before_is test = ap (coming test) of

    -- handles for an old place are old ones
    old_told : (k : ℕ) → k < drawn → (it : Action) → tells_of tells' k it ≡ true → tells_of tells k it ≡ true
    old_told k h (action.Extra key) is = at (cases_lt (place_of gather_part key) drawn)
      where
        parts : ((key % 4 == 0) ≡ true) × (is_told k (tells' (place_of gather_part key)) ≡ true)
        parts = and_parts (key % 4 == 0) (is_told k (tells' (place_of gather_part key))) is

        new : (o : Option (ℕ × ℕ)) → tells' (place_of gather_part key) ≡ o → drawn ≤ place_of gather_part key → is_told k o ≡ true → ⊥
        new None e past_ told = false≢true told
        new (Some it) e past_ told =
            let a = (tells_new (place_of gather_part key) it.0 it.1 past_ e).0 in
            let b = eqb-true it.0 k told in
            absurd (omega (arith, a, b, h))

        at : (place_of gather_part key < drawn) ⊎ (drawn ≤ place_of gather_part key) → ((key % 4 == 0) && is_told k (tells (place_of gather_part key))) ≡ true
        at (inl low) = ap (λ o. (key % 4 == 0) && is_told k o) (sym (old (place_of gather_part key) low).1) ∙ is
        at (inr high) = absurd (new (tells' (place_of gather_part key)) refl high parts.1)
    old_told k h _ is = absurd (false≢true is)

    -- handles for the new place are new ones
    new_told : (it : Action) → tells_of tells' drawn it ≡ true → is_from drawn it ≡ true
    new_told (action.Extra key) is = at (cases_lt (place_of gather_part key) drawn)
      where
        parts : ((key % 4 == 0) ≡ true) × (is_told drawn (tells' (place_of gather_part key)) ≡ true)
        parts = and_parts (key % 4 == 0) (is_told drawn (tells' (place_of gather_part key))) is

        low : (o : Option (ℕ × ℕ)) → tells' (place_of gather_part key) ≡ o → place_of gather_part key < drawn → is_told drawn o ≡ true → ⊥
        low None e h told = false≢true told
        low (Some it) e h told =
            let a = c.back (place_of gather_part key) it.0 it.1 (sym (old (place_of gather_part key) h).1 ∙ e) in
            let b = eqb-true it.0 drawn told in
            absurd (omega (arith, a, b, h))

        at : (place_of gather_part key < drawn) ⊎ (drawn ≤ place_of gather_part key) → ((key % 4 == 0) && nat_le drawn (place_of gather_part key)) ≡ true
        at (inl h) = absurd (low (tells' (place_of gather_part key)) refl h parts.1)
        at (inr h) = and_from (key % 4 == 0) (nat_le drawn (place_of gather_part key)) parts.0 (le-leb drawn (place_of gather_part key) h)
    new_told _ is = absurd (false≢true is)

    later_from : (it : Action) → is_from (drawn + more) it ≡ true → is_from drawn it ≡ true
    later_from (action.Extra key) is =
        let parts = and_parts (key % 4 == 0) (nat_le (drawn + more) (place_of gather_part key)) is in
        let h = leb-true (drawn + more) (place_of gather_part key) parts.1 in
        and_from (key % 4 == 0) (nat_le drawn (place_of gather_part key)) parts.0 (le-leb drawn (place_of gather_part key) (omega (arith, h)))
    later_from _ is = absurd (false≢true is)

    pub drawn_counted : Counted counts' tells' (drawn + more) after
    drawn_counted = record {
      fresh =
          let a = steps_coming (is_from (drawn + more)) (from_is_of (drawn + more)) steps l in
          let b = coming_fewer (is_from (drawn + more)) (is_from drawn) later_from p in
          let d = before_is (is_from (drawn + more)) in
          let e = c.fresh in
          omega (arith, a, b, d, e, none_past);
      small = past;
      back = λ j k m e. back j k m e (cases_lt j drawn);
      own = λ k it e. own k it e (cases_lt k drawn);
      left = λ k it e. left k it e (cases_lt k drawn);
      there = λ k it e m among before is. there k it e m among before is (cases_lt k drawn);
    }
      where
        back : (j k m : ℕ) → tells' j ≡ Some (k, m) → (j < drawn) ⊎ (drawn ≤ j) → k < j
        back j k m e (inl h) = c.back j k m (sym (old j h).1 ∙ e)
        back j k m e (inr h) = let n = tells_new j k m h e in let a = n.0 in let b = n.1 in omega (arith, a, b)

        own : (k : ℕ) (it : Counts) → counts' k ≡ Some it → (k < drawn) ⊎ (drawn ≤ k) → it.own < next_future after
        own k it e (inl h) =
            let a = c.own k it (sym (old k h).0 ∙ e) in
            let b = (steps_stay steps l).made in
            let d = ap next_future of in
            omega (arith, a, b, d)
        own k it e (inr h) = own_new it (ap counts' (sym (begins k it h e)) ∙ e)

        left : (k : ℕ) (it : Counts) → counts' k ≡ Some it → (k < drawn) ⊎ (drawn ≤ k) → coming (tells_of tells' k) after ≤ it.left
        left k it e (inl h) =
            let a = steps_coming (tells_of tells' k) (tells_is_of tells' k) steps l in
            let b = coming_fewer (tells_of tells' k) (tells_of tells k) (old_told k h) p in
            let d = before_is (tells_of tells' k) in
            let f = none_old k h in
            let g = c.left k it (sym (old k h).0 ∙ e) in
            omega (arith, a, b, d, f, g)
        left k it e (inr h) =
            let here = begins k it h e in
            let f = left_new it (ap counts' (sym here) ∙ e) in
            let a = steps_coming (tells_of tells' drawn) (tells_is_of tells' drawn) steps l in
            let b = coming_fewer (tells_of tells' drawn) (is_from drawn) new_told p in
            let d = before_is (tells_of tells' drawn) in
            let g = c.fresh in
            let z = ap (λ n. coming (tells_of tells' n) after) here in
            omega (arith, f, a, b, d, g, z)

        there : (k : ℕ) (it : Counts) → counts' k ≡ Some it → (m : ℕ) → IsIn m it.members → m < it.own → is_pending after m ≡ true
            → (k < drawn) ⊎ (drawn ≤ k) → IsRegistered tells' k m after
        there k it e m among before is (inl h) =
            let here = sym (old k h).0 ∙ e in
            let o = c.own k it here in
            let d = ap next_future of in
            let was = (steps_stay steps l).pending m (omega (arith, before, o, d)) is in
            let it_was = ap (λ q. is_pending q m) (sym of) ∙ was.0 in
            let there = c.there k it here m among before it_was in
            (there.0, (sym (told_still there.0 k m there.1.0) ∙ there.1.0, at there.0 (was.1 (is_key (the_key there.0))) there.1.1))
          where
            at : (j : ℕ) → count_by (is_key (the_key j)) (callbacks_of l.parts m) ≤ count_by (is_key (the_key j)) (callbacks_of after m)
                → 0 < count_by (is_key (the_key j)) (callbacks_of p m) → 0 < count_by (is_key (the_key j)) (callbacks_of after m)
            at j more_ some =
                let e = ap (λ q. count_by (is_key (the_key j)) (callbacks_of q m)) of in
                omega (arith, more_, some, e)

            told_still : (j k m : ℕ) → tells j ≡ Some (k, m) → tells j ≡ tells' j
            told_still j k m e = low (cases_lt j drawn)
              where
                low : (j < drawn) ⊎ (drawn ≤ j) → tells j ≡ tells' j
                low (inl h) = sym (old j h).1
                low (inr h) = absurd (none-some (k, m) (sym (c.small j h).1 ∙ e))
        there k it e m among before is (inr h) =
            let here = begins k it h e in
            subst (λ n. IsRegistered tells' n m after) (sym here) (there_new it (ap counts' (sym here) ∙ e) m among before is)
