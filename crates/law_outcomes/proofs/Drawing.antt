-- Keys are drawn for a request: its future is a new one, and its handles tell it alone.
use Rattle.std.proofs.Common.{◌≡◌, ◌<◌, ◌≤◌, ◌+◌, ◌-◌, ◌⊎◌, inl, inr, ℕ, suc, true, List, ◌++◌, Option, Some, None}
use Rattle.std.proofs.Common.{length, slice_get, refl, sym, ap, subst, ◌∙◌, arith}
use Rattle.std.specs.List.{AllByRecursion as Each, count_by, sum_by}
use Rattle.std.proofs.lemmas.Bool.{cases_lt, eqb-true, false≢true, le-leb}
use Rattle.std.proofs.lemmas.Option.{none-some, slice_get_past}
use Rattle.model_value.specs.Action.{Action}
use Rattle.model_value.specs.declared.action.Action.TheVariants as action
use Rattle.model_loop.specs.Futures.{is_pending, next_future}
use Rattle.model_loop.specs.Loop.{Loop}
use Rattle.model_loop.specs.Parts.{Parts}
use Rattle.model_loop.specs.Totals.{callbacks_of}
use Rattle.model_machine.specs.Extra.{ExtraStep, made_by_all}
use Rattle.model_gather.specs.Gathered.{Drawn, Gathered, Rings, Shields, drawn_after}
use Rattle.law_waiters.proofs.Drawing.{append_new, append_old}
use Rattle.law_waiters.specs.Timed.{is_key}
use Rattle.law_members.specs.Handles.{coming}
use Rattle.law_members.proofs.Coming.{coming_fewer}
use Rattle.law_members.proofs.Counted.{Counts, IsIn, from_at_key, is_from, the_key}
use Rattle.law_members.proofs.Drawing.{KeepsCounted, MoreFit, counts_in, tells_in}
use Rattle.law_members.proofs.Onward.{makes, steps_coming, steps_stay}
use Rattle.law_outcomes.proofs.Handles.{SettlesAt, key_is_of, steps_before, steps_others}
use Rattle.law_outcomes.proofs.Right.{EntryCame, Right, SameFor, entry_on, own_in, plain_came}

abbrev pub KeepsRight : Gathered → Parts → Type 0
KeepsRight kept p = Right (slice_get kept.drawn) p

-- what is so of the entries for a request that is asked, the steps that make its handles, and what its future has come to then
pub record MoreRight (n : ℕ) (more : List Drawn) (steps : List ExtraStep) (l : Loop) (at : ℕ → Option Drawn) : Type 0 where
  pub single : (j : ℕ) → sum_by (makes (is_key (the_key j))) steps ≤ 1
  pub settles : Each (SettlesAt (next_future l.parts)) steps
  pub own : (i on : ℕ) → own_in (slice_get more i) ≡ Some on
      → (i ≡ 0) × ((on ≡ next_future l.parts) × (on < next_future (made_by_all steps l).parts))
  pub most : (it : Counts) → counts_in (slice_get more 0) ≡ Some it → (m : ℕ) → IsIn m it.members → m ≤ it.own
  pub telling : (i k m : ℕ) → tells_in (slice_get more i) ≡ Some (k, m) → (it : Counts) → counts_in (slice_get more 0) ≡ Some it → IsIn m it.members
  pub told : (i k m : ℕ) → tells_in (slice_get more i) ≡ Some (k, m) → m < next_future (made_by_all steps l).parts
  pub behind : (on i k m : ℕ) → slice_get more 0 ≡ Some (Shields on) → tells_in (slice_get more i) ≡ Some (k, m) → i ≡ 1
  pub registered : (i k m : ℕ) → tells_in (slice_get more i) ≡ Some (k, m) → is_pending (made_by_all steps l).parts m ≡ true
      → 0 < count_by (is_key (the_key (n + i))) (callbacks_of (made_by_all steps l).parts m)
  pub came : EntryCame at (made_by_all steps l).parts n (slice_get more 0)

key_from : (n j : ℕ) → n ≤ j → (it : Action) → is_key (the_key j) it ≡ true → is_from n it ≡ true
key_from n j h (action.Extra key) is =
    ap (λ k. is_from n (action.Extra k)) (eqb-true key (the_key j) is) ∙ from_at_key n j ∙ le-leb n j h
key_from n j h _ is = absurd (false≢true is)

module _ (kept : Gathered) (l : Loop) (r : KeepsRight kept l.parts) (c : KeepsCounted kept l.parts) where
  abbrev n : ℕ
  n = length kept.drawn

  module _ (more : List Drawn) (steps : List ExtraStep) (fit : MoreFit (length kept.drawn) more steps l)
      (it : MoreRight (length kept.drawn) more steps l (slice_get (kept.drawn ++ more))) where
    abbrev after : Parts
    after = (made_by_all steps l).parts

    abbrev at : ℕ → Option Drawn
    at = slice_get (kept.drawn ++ more)

    old : (k : ℕ) → k < n → at k ≡ slice_get kept.drawn k
    old k h = append_old kept.drawn more k h

    new : (k : ℕ) → n ≤ k → at k ≡ slice_get more (k - n)
    new k h = append_new kept.drawn more k h

    first : at n ≡ slice_get more 0
    first = let e : n - n ≡ 0 = omega arith in new n (omega arith) ∙ ap (slice_get more) e

    -- what was drawn
    within : (j : ℕ) → (slice_get kept.drawn j ≡ None → ⊥) → j < n
    within j drawn = at_place (cases_lt j n)
      where
        at_place : (j < n) ⊎ (n ≤ j) → j < n
        at_place (inl h) = h
        at_place (inr h) = absurd (drawn (slice_get_past kept.drawn j h))

    low : (j : ℕ) → j < n → coming (is_key (the_key j)) after ≤ coming (is_key (the_key j)) l.parts
    low j h =
        let a = steps_coming (is_key (the_key j)) (key_is_of j) steps l in
        let b = steps_before j n (n + length more) h steps fit.within in
        omega (arith, a, b)

    single : (j : ℕ) → (j < n) ⊎ (n ≤ j) → coming (is_key (the_key j)) after ≤ 1
    single j (inl h) = let a = low j h in let b = r.single j in omega (arith, a, b)
    single j (inr h) =
        let a = steps_coming (is_key (the_key j)) (key_is_of j) steps l in
        let b = coming_fewer (is_key (the_key j)) (is_from n) (key_from n j h) l.parts in
        let d = c.fresh in
        let e = it.single j in
        omega (arith, a, b, d, e)

    made_more : next_future l.parts ≤ next_future after
    made_more = (steps_stay steps l).made

    new_own : (k on : ℕ) → n ≤ k → own_in (at k) ≡ Some on → (k ≡ n) × ((on ≡ next_future l.parts) × (on < next_future after))
    new_own k on h e =
        let z = it.own (k - n) on (sym (ap own_in (new k h)) ∙ e) in
        (let a = z.0 in omega (arith, a, h), z.1)

    made : (k on : ℕ) → own_in (at k) ≡ Some on → (k < n) ⊎ (n ≤ k) → on < next_future after
    made k on e (inl h) = let a = r.made k on (sym (ap own_in (old k h)) ∙ e) in let b = made_more in omega (arith, a, b)
    made k on e (inr h) = (new_own k on h e).1.1

    rising : (k l_ on other : ℕ) → own_in (at k) ≡ Some on → own_in (at l_) ≡ Some other → k < l_ → (k < n) ⊎ (n ≤ k) → (l_ < n) ⊎ (n ≤ l_) → on < other
    rising k l_ on other e f h (inl a) (inl b) = r.rising k l_ on other (sym (ap own_in (old k a)) ∙ e) (sym (ap own_in (old l_ b)) ∙ f) h
    rising k l_ on other e f h (inl a) (inr b) =
        let x = r.made k on (sym (ap own_in (old k a)) ∙ e) in
        let y = (new_own l_ other b f).1.0 in
        omega (arith, x, y)
    rising k l_ on other e f h (inr a) (inl b) = absurd (omega (arith, h, a, b))
    rising k l_ on other e f h (inr a) (inr b) =
        let x = (new_own k on a e).0 in
        let y = (new_own l_ other b f).0 in
        absurd (omega (arith, h, x, y))

    most : (k : ℕ) (its : Counts) → counts_in (at k) ≡ Some its → (m : ℕ) → IsIn m its.members → (k < n) ⊎ (n ≤ k) → m ≤ its.own
    most k its e m among (inl h) = r.most k its (sym (ap counts_in (old k h)) ∙ e) m among
    most k its e m among (inr h) =
        let f = sym (ap counts_in (new k h)) ∙ e in
        let z = fit.counts (k - n) its f in
        it.most its (ap (λ i. counts_in (slice_get more i)) (sym z) ∙ f) m among

    telling : (j k m : ℕ) → tells_in (at j) ≡ Some (k, m) → (its : Counts) → counts_in (at k) ≡ Some its → (j < n) ⊎ (n ≤ j) → IsIn m its.members
    telling j k m e its f (inl h) =
        let was = sym (ap tells_in (old j h)) ∙ e in
        let b = c.back j k m was in
        r.telling j k m was its (sym (ap counts_in (old k (omega (arith, b, h)))) ∙ f)
    telling j k m e its f (inr h) =
        let is = sym (ap tells_in (new j h)) ∙ e in
        let z = (fit.tells (j - n) k m is).0 in
        it.telling (j - n) k m is its (sym (ap counts_in first) ∙ ap (λ i. counts_in (at i)) (sym z) ∙ f)

    told : (j k m : ℕ) → tells_in (at j) ≡ Some (k, m) → (j < n) ⊎ (n ≤ j) → m < next_future after
    told j k m e (inl h) = let a = r.told j k m (sym (ap tells_in (old j h)) ∙ e) in let b = made_more in omega (arith, a, b)
    told j k m e (inr h) = it.told (j - n) k m (sym (ap tells_in (new j h)) ∙ e)

    behind : (k on j m : ℕ) → at k ≡ Some (Shields on) → tells_in (at j) ≡ Some (k, m) → (k < n) ⊎ (n ≤ k) → (j < n) ⊎ (n ≤ j) → j ≡ suc k
    behind k on j m e f (inl a) (inl b) = r.behind k on j m (sym (old k a) ∙ e) (sym (ap tells_in (old j b)) ∙ f)
    behind k on j m e f (inl a) (inr b) =
        let z = (fit.tells (j - n) k m (sym (ap tells_in (new j b)) ∙ f)).0 in
        absurd (omega (arith, z, a))
    behind k on j m e f (inr a) (inl b) =
        let z = c.back j k m (sym (ap tells_in (old j b)) ∙ f) in
        absurd (omega (arith, z, a, b))
    behind k on j m e f (inr a) (inr b) =
        let g = sym (ap tells_in (new j b)) ∙ f in
        let z = (fit.tells (j - n) k m g).0 in
        let i = it.behind on (j - n) k m (sym first ∙ ap at (sym z) ∙ e) g in
        omega (arith, z, i, b)

    registered : (j k m : ℕ) → tells_in (at j) ≡ Some (k, m) → is_pending after m ≡ true → (j < n) ⊎ (n ≤ j)
        → 0 < count_by (is_key (the_key j)) (callbacks_of after m)
    registered j k m e pending (inl h) =
        let e_was = sym (ap tells_in (old j h)) ∙ e in
        let was = (steps_stay steps l).pending m (r.told j k m e_was) pending in
        let a = r.registered j k m e_was was.0 in
        let b = was.1 (is_key (the_key j)) in
        omega (arith, a, b)
    registered j k m e pending (inr h) =
        let z : n + (j - n) ≡ j = omega (arith, h) in
        subst (λ i. 0 < count_by (is_key (the_key i)) (callbacks_of after m)) z
        (it.registered (j - n) k m (sym (ap tells_in (new j h)) ∙ e) pending)

    -- an old request's handles are old ones
    same : (k : ℕ) → k < n → SameFor (slice_get kept.drawn) (slice_get (kept.drawn ++ more)) k
    same k h = record {
      to = λ j m e. ap tells_in (old j (within j (λ none. none-some (k, m) (sym (ap tells_in none) ∙ e)))) ∙ e;
      from = λ j m e. from j m e (cases_lt j n);
      rings = λ j e. old j (within j (λ none. none-some (Rings k) (sym none ∙ e))) ∙ e;
    }
      where
        from : (j m : ℕ) → tells_in (at j) ≡ Some (k, m) → (j < n) ⊎ (n ≤ j) → tells_in (slice_get kept.drawn j) ≡ Some (k, m)
        from j m e (inl low_) = sym (ap tells_in (old j low_)) ∙ e
        from j m e (inr high) =
            let z = (fit.tells (j - n) k m (sym (ap tells_in (new j high)) ∙ e)).0 in
            absurd (omega (arith, z, h))

    came : (k : ℕ) → (k < n) ⊎ (n ≤ k) → EntryCame at after k (at k)
    came k (inl h) =
        subst (EntryCame at after k) (sym (old k h))
        (entry_on (slice_get kept.drawn) at l.parts after (steps_stay steps l).done (λ j drawn. low j (within j drawn)) k (same k h)
        (slice_get kept.drawn k)
        (λ on e. let a = r.made k on e in inl (steps_others (next_future l.parts) steps l it.settles on (λ s. absurd (omega (arith, s, a))) a))
        (r.came k))
    came k (inr h) = by (cases_lt n k)
      where
        plain : n < k → (o : Option ℕ) → own_in (at k) ≡ o → own_in (at k) ≡ None
        plain past None e = e
        plain past (Some on) e = let z = (new_own k on h e).0 in absurd (omega (arith, z, past))

        by : (n < k) ⊎ (k ≤ n) → EntryCame at after k (at k)
        by (inl past) = plain_came at after k (at k) (plain past (own_in (at k)) refl)
        by (inr low_) =
            let z : n ≡ k = omega (arith, h, low_) in
            subst (λ i. EntryCame at after i (at i)) z (subst (EntryCame at after n) (sym first) it.came)

    pub more_right : KeepsRight (drawn_after more kept) (made_by_all steps l).parts
    more_right = record {
      single = λ j. single j (cases_lt j n);
      made = λ k on e. made k on e (cases_lt k n);
      rising = λ k l_ on other e f h. rising k l_ on other e f h (cases_lt k n) (cases_lt l_ n);
      most = λ k its e m among. most k its e m among (cases_lt k n);
      telling = λ j k m e its f. telling j k m e its f (cases_lt j n);
      told = λ j k m e. told j k m e (cases_lt j n);
      behind = λ k on j m e f. behind k on j m e f (cases_lt k n) (cases_lt j n);
      registered = λ j k m e pending. registered j k m e pending (cases_lt j n);
      came = λ k. came k (cases_lt k n);
    }

-- ---- where the handles of the new request stand
module _ (kept : Gathered) (p : Parts) (c : KeepsCounted kept p) (more : List Drawn) (steps : List ExtraStep) (l : Loop)
    (fit : MoreFit (length kept.drawn) more steps l) where
  pub told_new : (j m : ℕ) → tells_in (slice_get (kept.drawn ++ more) j) ≡ Some (length kept.drawn, m)
      → (i : ℕ) × ((j ≡ length kept.drawn + suc i) × (tells_in (slice_get more (suc i)) ≡ Some (length kept.drawn, m)))
  told_new j m e = at_place (cases_lt j (length kept.drawn))
    where
      at_place : (j < length kept.drawn) ⊎ (length kept.drawn ≤ j)
          → (i : ℕ) × ((j ≡ length kept.drawn + suc i) × (tells_in (slice_get more (suc i)) ≡ Some (length kept.drawn, m)))
      at_place (inl h) =
          let b = c.back j (length kept.drawn) m (sym (ap tells_in (append_old kept.drawn more j h)) ∙ e) in
          absurd (omega (arith, b, h))
      at_place (inr h) =
          let f = sym (ap tells_in (append_new kept.drawn more j h)) ∙ e in
          let z = (fit.tells (j - length kept.drawn) (length kept.drawn) m f).1 in
          let i = j - length kept.drawn - 1 in
          let same : j - length kept.drawn ≡ suc (j - length kept.drawn - 1) = omega (arith, z) in
          (i, (omega (arith, h, z), ap (λ k. tells_in (slice_get more k)) (sym same) ∙ f))

  pub new_told : (i m : ℕ) → tells_in (slice_get more i) ≡ Some (length kept.drawn, m)
      → tells_in (slice_get (kept.drawn ++ more) (length kept.drawn + i)) ≡ Some (length kept.drawn, m)
  new_told i m e =
      let z : length kept.drawn + i - length kept.drawn ≡ i = omega arith in
      ap tells_in (append_new kept.drawn more (length kept.drawn + i) (omega arith)) ∙ ap (λ k. tells_in (slice_get more k)) z ∙ e
