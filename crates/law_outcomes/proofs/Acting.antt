-- What is so of the futures stays so as a handle runs.
use Rattle.std.proofs.Common.{◌≡◌, ◌<◌, ◌≤◌, ◌+◌, ◌-◌, ◌==◌, ◌||◌, ◌&&◌, ◌⊎◌, inl, inr, ℕ, Bool, true, false, not, List, [], ◌∷◌, Option, Some, None}
use Rattle.std.proofs.Common.{if◌then◌else◌, length, slice_get, slice_set, refl, sym, ap, subst, ◌∙◌, arith}
use Rattle.std.specs.List.{AllByRecursion as Each, count_by}
use Rattle.std.specs.Option.{option_map_or}
use Rattle.std.proofs.lemmas.Bool.{cases_eq, cases_lt, eq-eqb, eqb-true, false≢true}
use Rattle.std.proofs.lemmas.Option.{none-some, same_Some}
use Rattle.model_value.specs.declared.action.Action.TheVariants as action
use Rattle.model_value.specs.Value.{Outcome}
use Rattle.model_loop.specs.Futures.{future_outcome, is_pending, next_future}
use Rattle.model_loop.specs.Loop.{Loop}
use Rattle.model_loop.specs.Parts.{Handle, Parts}
use Rattle.model_loop.specs.Tasks.{future_of}
use Rattle.model_loop.specs.Totals.{callbacks_at}
use Rattle.model_machine.specs.Extra.{Cancels, made_by_all}
use Rattle.model_reach.specs.Part.{key_at}
use Rattle.model_gather.specs.Gathered.{AllCompleted, Drawn, Expiring, FirstCompleted, FirstException, Gathered, Gathering, Gathers, Rings}
use Rattle.model_gather.specs.Gathered.{Shields}
use Rattle.model_gather.specs.Gathered.{Tells, WaitMode, Waiting, Waits, WaitsFor, drawn_at, futures_of, gather_part, resolved}
use Rattle.model_gather.specs.Gathered.{settled_as}
use Rattle.model_gather.specs.Gather.{count, was_asked}
use Rattle.model_gather.specs.Serving.{acted, rung, told}
use Rattle.model_gather.specs.Wait.{is_failure, is_over}
use Rattle.law_apart.specs.Apart.{StaysOrIsCancelled}
use Rattle.law_runs.specs.Allowed.{IsAmong}
use Rattle.law_cancel.proofs.Lookups.{get-set_kept, get-set_other, get-set_same}
use Rattle.law_waiters.proofs.Counting.{count_decides}
use Rattle.law_waiters.proofs.Drawing.{ring_in}
use Rattle.law_waiters.specs.Answers as gets
use Rattle.law_waiters.specs.Answers.{GatherGets}
use Rattle.law_waiters.specs.Timed.{is_key}
use Rattle.law_members.specs.Handles.{coming}
use Rattle.law_members.specs.Members.{IsDone}
use Rattle.law_members.proofs.Calling.{told_keeps, settled_onward, still_onward}
use Rattle.law_members.proofs.Coming.{one_of, registered_there, taken_coming}
use Rattle.law_members.proofs.Counted.{Counts, IsIn, none_pending, pending_found, the_key}
use Rattle.law_members.proofs.Drawing.{KeepsCounted, counts_in, tells_in}
use Rattle.law_members.proofs.Onward.{Onward, onward_then, taken_onward}
use Rattle.law_members.proofs.Walking.{outcome_there}
use Rattle.law_outcomes.specs.Came as came
use Rattle.law_outcomes.specs.Came.{GatherCame, HasGoneOn, ShieldCame, WaitCame, WaitIsOver}
use Rattle.law_outcomes.proofs.Asking.{CallRight, none_in, shield_in}
use Rattle.law_outcomes.proofs.Counting.{gather_same, gone_same}
use Rattle.law_outcomes.proofs.Drawing.{KeepsRight}
use Rattle.law_outcomes.proofs.Handles.{key_is_of, settle_gives, settled_settles, steps_others}
use Rattle.law_outcomes.proofs.Lists.{each_in, in_among, in_or_not, set_there, without, without_one, without_others}
use Rattle.law_outcomes.proofs.Right.{AreBefore, EntryCame, Right, Uncounted, each_done, entry_on, gather_on, no_more, same_for, goes_right, own_in}
use Rattle.law_outcomes.proofs.Right.{replaced_right}
use Rattle.law_outcomes.proofs.Waking.{plain_at}

-- a wait of which others are left
wait_fewer : (at at' : ℕ → Option Drawn) (p q : Parts) (k left : ℕ) (it : Waiting) (o : Option Outcome)
    → (WaitIsOver at p k it → WaitIsOver at' q k (record it { left = left }))
    → WaitCame at p k it o → WaitCame at' q k (record it { left = left }) o
wait_fewer at at' p q k left it _ on came.still_waits = came.still_waits
wait_fewer at at' p q k left it _ on (came.goes_on over) = came.goes_on (on over)
wait_fewer at at' p q k left it _ on came.is_cancelled = came.is_cancelled

-- ---- a handle that is first runs
module _ (kept : Gathered) (l : Loop) (r : KeepsRight kept l.parts) (c : KeepsCounted kept l.parts) (handle : Handle) (rest : List Handle) (j : ℕ)
    (first : l.parts.pending ≡ handle ∷ rest) (live : handle.dead ≡ false) (is : handle.action ≡ action.Extra (the_key j)) where
  abbrev now : Loop
  now = record l { parts = record l.parts { pending = rest } }

  abbrev at : ℕ → Option Drawn
  at = slice_get kept.drawn

  whole : coming (is_key (the_key j)) l.parts ≡ 1 + coming (is_key (the_key j)) now.parts
  whole =
      let a = taken_coming (is_key (the_key j)) handle rest l.parts first in
      let b : one_of (not handle.dead && is_key (the_key j) handle.action) ≡ 1 =
      ap (λ d. one_of (not d && is_key (the_key j) handle.action)) live ∙ ap (λ it. one_of (is_key (the_key j) it)) is
      ∙ ap one_of (eq-eqb (the_key j) (the_key j) refl) in
      omega (arith, a, b)

  gone : coming (is_key (the_key j)) now.parts ≡ 0
  gone = let a = whole in let b = r.single j in omega (arith, a, b)

  -- nothing else changes
  taken_right : KeepsRight kept now.parts
  taken_right = goes_right r now.parts (taken_onward handle rest l.parts first) (λ k on e. inl refl)

  -- the future that it tells of is done
  is_done : (k m : ℕ) → tells_in (at j) ≡ Some (k, m) → IsDone l.parts m
  is_done k m e = outcome_there kept l.parts c m (r.told j k m e) (by (is_pending l.parts m) refl)
    where
      by : (b : Bool) → is_pending l.parts m ≡ b → is_pending l.parts m ≡ false
      by false f = f
      by true f =
          let on = r.registered j k m e f in
          let found = pending_found l.parts m (slice_get l.parts.futures m) refl f in
          let a = registered_there (is_key (the_key j)) l.parts.futures m found.0 found.1 in
          let b = ap (λ o. count_by (is_key (the_key j)) (callbacks_at o)) found.1 in
          let d = gone in
          absurd (omega (arith, on, a, b, d))

  -- ---- the future of the request at this place may get an outcome
  module _ (k id : ℕ) (old new : Drawn) (found : at k ≡ Some old) (own_old : own_in (Some old) ≡ Some id) (own_new : own_in (Some new) ≡ Some id)
      (tells_same : tells_in (Some new) ≡ tells_in (Some old)) (no_ring : ring_in (Some old) ≡ None)
      (shield_same : shield_in (Some new) ≡ shield_in (Some old))
      (counts_same : (it : Counts) → counts_in (Some new) ≡ Some it
      → (was : Counts) × ((counts_in (Some old) ≡ Some was) × ((was.own ≡ it.own) × (was.members ≡ it.members)))) where
    abbrev at' : ℕ → Option Drawn
    at' = slice_get (slice_set kept.drawn k new)

    abbrev after : Option Outcome → Parts
    after o = (made_by_all (settled_as o id) now).parts

    is_new : at' k ≡ Some new
    is_new = get-set_same kept.drawn k old new found

    pub onward : (o : Option Outcome) → Onward l.parts (after o)
    onward o = onward_then l.parts now.parts (after o) (taken_onward handle rest l.parts first) (settled_onward o id now)

    -- it was made, and is no other's
    pub made : id < next_future l.parts
    made = r.made k id (ap own_in found ∙ own_old)

    others_stay : (o : Option Outcome) (l_ on : ℕ) → (k ≡ l_ → ⊥) → own_in (at l_) ≡ Some on → StaysOrIsCancelled l.parts (after o) on
    others_stay o l_ on apart e =
        inl (steps_others id (settled_as o id) now (settled_settles id o) on (differs (cases_lt k l_)) (r.made l_ on e))
      where
        differs : (k < l_) ⊎ (l_ ≤ k) → id ≡ on → ⊥
        differs (inl h) same = let a = r.rising k l_ id on (ap own_in found ∙ own_old) e h in absurd (omega (arith, a, same))
        differs (inr h) same = by (cases_eq l_ k)
          where
            by : (l_ ≡ k) ⊎ (l_ ≡ k → ⊥) → ⊥
            by (inl f) = apart (sym f)
            by (inr n) =
                let a = r.rising l_ k on id e (ap own_in found ∙ own_old) (omega (arith, h, n)) in
                absurd (omega (arith, a, same))

    pub settled_right : (o : Option Outcome) → EntryCame at' (after o) k (Some new) → KeepsRight (drawn_at k new kept) (after o)
    settled_right o here =
        replaced_right r at' k (after o) (onward o) (λ l_ apart. get-set_other kept.drawn k l_ new apart)
        (ap own_in is_new ∙ own_new ∙ sym own_old ∙ sym (ap own_in found)) (ap tells_in is_new ∙ tells_same ∙ sym (ap tells_in found))
        (λ l_ e. absurd (none-some l_ (sym no_ring ∙ sym (ap ring_in found) ∙ ap ring_in e)))
        (λ on e. shields on (sym shield_same ∙ sym (ap shield_in is_new) ∙ ap shield_in e))
        (λ it e. counts it (sym (ap counts_in is_new) ∙ e)) (others_stay o) (subst (EntryCame at' (after o) k) (sym is_new) here)
      where
        shields : (on : ℕ) → shield_in (Some old) ≡ Some on → at k ≡ Some (Shields on)
        shields on e = found ∙ by old e
          where
            by : (it : Drawn) → shield_in (Some it) ≡ Some on → ◌≡◌ {A = Option Drawn} (Some it) (Some (Shields on))
            by (Shields other) e = ap (λ (i : ℕ). Some (Shields i)) (same_Some other on e)
            by _ e = absurd (none-some on e)

        counts : (it : Counts) → counts_in (Some new) ≡ Some it
            → (was : Counts) × ((counts_in (at k) ≡ Some was) × ((was.own ≡ it.own) × (was.members ≡ it.members)))
        counts it e = let w = counts_same it e in (w.0, (ap counts_in found ∙ w.1.0, w.1.1))

    -- what tells this place is told anew
    pub tells_is : (i : ℕ) → tells_in (at' i) ≡ tells_in (at i)
    tells_is i = get-set_kept tells_in kept.drawn k i old new found tells_same

    -- its outcome then
    pub outcome_then : (outcome : Outcome) → future_outcome l.parts id ≡ None → future_outcome (after (Some outcome)) id ≡ Some outcome
    outcome_then outcome none = settle_gives id outcome now.parts made none

    pub outcome_still : (o : Option Outcome) (outcome : Outcome) → future_outcome l.parts id ≡ Some outcome → future_outcome (after o) id ≡ Some outcome
    outcome_still o outcome e = (onward o).stays.done id outcome e

  -- ---- a member of a gather is done
  module _ (k m : ℕ) (it : Gathering) (found : at k ≡ Some (Gathers it)) (tells : tells_in (at j) ≡ Some (k, m)) where
    abbrev fewer : Gathering
    fewer = record it { left = it.left - 1 }

    abbrev told_at : ℕ → Option Drawn
    told_at = slice_get (slice_set kept.drawn k (Gathers fewer))

    abbrev told_after : Option Outcome → Parts
    told_after o = (made_by_all (settled_as o it.outer) now).parts

    was : AreBefore it.outer it.awaited → GatherCame l.parts it (future_outcome l.parts it.outer)
        × (future_outcome l.parts it.outer ≡ None → Uncounted at l.parts k it)
    was = subst (EntryCame at l.parts k) found (r.came k)

    counts_fewer : (its : Counts) → counts_in (Some (Gathers fewer)) ≡ Some its
        → (was : Counts) × ((counts_in (Some (Gathers it)) ≡ Some was) × ((was.own ≡ its.own) × (was.members ≡ its.members)))
    counts_fewer its e =
        let same = same_Some (record { own = it.outer; members = it.awaited; left = it.left - 1 }) its e in (
          record { own = it.outer; members = it.awaited; left = it.left },
          (refl, (ap (λ (w : Counts). w.own) same, ap (λ (w : Counts). w.members) same)),
        )

    abbrev told_onward : (o : Option Outcome) → Onward l.parts (told_after o)
    told_onward o =
        onward k it.outer (Gathers it) (Gathers fewer) found refl refl refl refl refl counts_fewer o

    right_as : (o : Option Outcome) → EntryCame told_at (told_after o) k (Some (Gathers fewer)) → KeepsRight (drawn_at k (Gathers fewer) kept) (told_after o)
    right_as o here = settled_right k it.outer (Gathers it) (Gathers fewer) found refl refl refl refl refl counts_fewer o here

    among : IsIn m it.awaited
    among = r.telling j k m tells (record { own = it.outer; members = it.awaited; left = it.left }) (ap counts_in found)

    -- its handle wasn't counted yet
    uncounted_here : (u : Uncounted at l.parts k it) → IsIn j u.places
    uncounted_here u = by (in_or_not j u.places)
      where
        by : IsIn j u.places ⊎ (IsIn j u.places → ⊥) → IsIn j u.places
        by (inl h) = h
        by (inr none) = let a = (u.counted j m tells none).0 in let b = whole in absurd (omega (arith, a, b))

    same_member : (i n : ℕ) → i ≡ j → tells_in (at i) ≡ Some (k, n) → m ≡ n
    same_member i n e f = ap (λ (x : ℕ × ℕ). x.1) (same_Some (k, m) (k, n) (sym tells ∙ ap (λ i. tells_in (at i)) (sym e) ∙ f))

    -- so each other one was, where this is the last
    last_counted : (u : Uncounted at l.parts k it) → it.left - 1 ≡ 0 → HasGoneOn l.parts it m → Each (HasGoneOn l.parts it) it.awaited
    last_counted u none here = each_in (HasGoneOn l.parts it) it.awaited (λ n h. by n (u.all n h))
      where
        empty : length (without j u.places) ≡ 0
        empty = let a = without_one j u.places (uncounted_here u) in let b = u.few in omega (arith, a, b, none)

        other : (i n : ℕ) → tells_in (at i) ≡ Some (k, n) → (i ≡ j) ⊎ (i ≡ j → ⊥) → HasGoneOn l.parts it n
        other i n e (inl same) = subst (HasGoneOn l.parts it) (same_member i n same e) here
        other i n e (inr d) = (u.counted i n e (λ h. none_in i (without j u.places) empty (without_others j i u.places d h))).1

        by : (n : ℕ) → ((i : ℕ) × (tells_in (at i) ≡ Some (k, n))) ⊎ HasGoneOn l.parts it n → HasGoneOn l.parts it n
        by n (inl handle_of) = other handle_of.0 n handle_of.1 (cases_eq handle_of.0 j)
        by n (inr gone_) = gone_

    -- what its future came to where it was pending
    newly : AreBefore it.outer it.awaited → (asked : Bool) (counted : Outcome) → future_outcome l.parts m ≡ Some counted
        → future_outcome l.parts it.outer ≡ None
        → (outcome : Outcome) → GatherGets now.parts asked counted fewer (Some outcome) → GatherCame l.parts it (Some outcome)
    newly before asked counted done none _ (gets.raises raised no_value) = came.raises m counted (in_among m it.awaited among) done raised no_value
    newly before asked counted done none _ (gets.is_cancelled may left was_asked_) = came.is_cancelled
    newly before asked counted done none _ (gets.answers may left not_asked) = came.answers (last_counted ((was before).1 none) left (counted, (done, may)))

    some_as : (asked : Bool) (counted : Outcome) → future_outcome l.parts m ≡ Some counted → (outcome : Outcome)
        → GatherGets now.parts asked counted fewer (Some outcome) → (o : Option Outcome) → future_outcome l.parts it.outer ≡ o
        → EntryCame told_at (told_after (Some outcome)) k (Some (Gathers fewer))
    some_as asked counted done outcome gets_ None e before =
        let q = told_after (Some outcome) in
        let then_ = outcome_then k it.outer (Gathers it) (Gathers fewer) found refl refl refl refl refl counts_fewer outcome e in (
          subst (GatherCame q fewer) (sym then_)
              (gather_same q it fewer refl refl (Some outcome)
              (gather_on l.parts q (told_onward (Some outcome)).stays.done it (Some outcome) (newly before asked counted done e outcome gets_))),
          λ none. absurd (none-some outcome (sym none ∙ then_)),
        )
    some_as asked counted done outcome gets_ (Some earlier) e before =
        let q = told_after (Some outcome) in
        let still = outcome_still k it.outer (Gathers it) (Gathers fewer) found refl refl refl refl refl counts_fewer (Some outcome) earlier e in (
          subst (GatherCame q fewer) (sym still)
              (gather_same q it fewer refl refl (Some earlier)
              (gather_on l.parts q (told_onward (Some outcome)).stays.done it (Some earlier) (subst (GatherCame l.parts it) e (was before).0))),
          λ none. absurd (none-some earlier (sym none ∙ still)),
        )

    none_as : (counted : Outcome) → HasGoneOn l.parts it m → EntryCame told_at (told_after None) k (Some (Gathers fewer))
    none_as counted here before = (
      gather_same now.parts it fewer refl refl (future_outcome now.parts it.outer)
          (gather_on l.parts now.parts (told_onward None).stays.done it (future_outcome l.parts it.outer) (was before).0),
      λ none. uncounted ((was before).1 none),
    )
      where
        is_told : (i : ℕ) → tells_in (told_at i) ≡ tells_in (at i)
        is_told i = tells_is k it.outer (Gathers it) (Gathers fewer) found refl refl refl refl refl counts_fewer i

        uncounted : (u : Uncounted at l.parts k it) → Uncounted told_at now.parts k fewer
        uncounted u = record {
          places = without j u.places;
          few = let a = without_one j u.places (uncounted_here u) in let b = u.few in omega (arith, a, b);
          counted = λ i n e out. by i n (sym (is_told i) ∙ e) out (cases_eq i j);
          all = λ n h. of n (u.all n h);
        }
          where
            by : (i n : ℕ) → tells_in (at i) ≡ Some (k, n) → (IsIn i (without j u.places) → ⊥) → (i ≡ j) ⊎ (i ≡ j → ⊥)
                → (coming (is_key (the_key i)) now.parts ≡ 0) × HasGoneOn now.parts fewer n
            by i n e out (inl same) = (
              ap (λ a. coming (is_key (the_key a)) now.parts) same ∙ gone,
              subst (HasGoneOn now.parts fewer) (same_member i n same e) (gone_same now.parts it fewer refl m here),
            )
            by i n e out (inr d) =
                let w = u.counted i n e (λ h. out (without_others j i u.places d h)) in
                let a = (told_onward None).fewer (is_key (the_key i)) (key_is_of i) in
                let b = w.0 in
                (omega (arith, a, b), gone_same now.parts it fewer refl n w.1)

            of : (n : ℕ) → ((i : ℕ) × (tells_in (at i) ≡ Some (k, n))) ⊎ HasGoneOn l.parts it n
                → ((i : ℕ) × (tells_in (told_at i) ≡ Some (k, n))) ⊎ HasGoneOn now.parts fewer n
            of n (inl handle_of) = inl (handle_of.0, is_told handle_of.0 ∙ handle_of.1)
            of n (inr gone_) = inr (gone_same now.parts it fewer refl n gone_)

    came_as : (asked : Bool) (counted : Outcome) → future_outcome l.parts m ≡ Some counted → (o : Option Outcome)
        → GatherGets now.parts asked counted fewer o → EntryCame told_at (told_after o) k (Some (Gathers fewer))
    came_as asked counted done None (gets.waits may some) = none_as counted (counted, (done, may))
    came_as asked counted done (Some outcome) gets_ = some_as asked counted done outcome gets_ (future_outcome l.parts it.outer) refl

    gather_told_right : CallRight (told (Some (Gathers it)) k m now.parts kept) now
    gather_told_right =
        let asked = was_asked now.parts it.outer in
        let done = is_done k m tells in
        right_as (count now.parts asked m it).outcome
        (came_as asked done.0 done.1 (count now.parts asked m it).outcome (count_decides now.parts asked m it done.0 done.1))

  -- ---- an argument of a wait is done
  module _ (k m : ℕ) (it : Waiting) (found : at k ≡ Some (Waits it)) (tells : tells_in (at j) ≡ Some (k, m)) where
    abbrev less : Waiting
    less = record it { left = it.left - 1 }

    abbrev heard_at : ℕ → Option Drawn
    heard_at = slice_get (slice_set kept.drawn k (Waits less))

    abbrev heard_after : Option Outcome → Parts
    heard_after o = (made_by_all (settled_as o it.on) now).parts

    waited : AreBefore it.on (futures_of it.arguments) → WaitCame at l.parts k it (future_outcome l.parts it.on)
    waited = subst (EntryCame at l.parts k) found (r.came k)

    counts_less : (its : Counts) → counts_in (Some (Waits less)) ≡ Some its
        → (was : Counts) × ((counts_in (Some (Waits it)) ≡ Some was) × ((was.own ≡ its.own) × (was.members ≡ its.members)))
    counts_less its e =
        let same = same_Some (record { own = it.on; members = futures_of it.arguments; left = it.left - 1 }) its e in (
          record { own = it.on; members = futures_of it.arguments; left = it.left },
          (refl, (ap (λ (w : Counts). w.own) same, ap (λ (w : Counts). w.members) same)),
        )

    abbrev heard_onward : (o : Option Outcome) → Onward l.parts (heard_after o)
    heard_onward o = onward k it.on (Waits it) (Waits less) found refl refl refl refl refl counts_less o

    argument : IsAmong (futures_of it.arguments) m
    argument =
        in_among m (futures_of it.arguments)
        (r.telling j k m tells (record { own = it.on; members = futures_of it.arguments; left = it.left }) (ap counts_in found))

    ring_still : (timer : ℕ) → at timer ≡ Some (Rings k) → heard_at timer ≡ Some (Rings k)
    ring_still timer e = by (cases_eq k timer)
      where
        by : (k ≡ timer) ⊎ (k ≡ timer → ⊥) → heard_at timer ≡ Some (Rings k)
        by (inl same) = absurd (none-some k (ap ring_in (sym found ∙ ap at same) ∙ ap ring_in e))
        by (inr d) = get-set_other kept.drawn k timer (Waits less) d ∙ e

    over_still : (o : Option Outcome) → WaitIsOver at l.parts k it → WaitIsOver heard_at (heard_after o) k less
    over_still o (came.all_are_done all) = came.all_are_done (each_done l.parts (heard_after o) (heard_onward o).stays.done (futures_of it.arguments) all)
    over_still o (came.one_is_done n among_ mode done) =
        came.one_is_done n among_ mode (done.0, (heard_onward o).stays.done n done.0 done.1)
    over_still o (came.one_has_failed n outcome among_ mode done failed) =
        came.one_has_failed n outcome among_ mode ((heard_onward o).stays.done n outcome done) failed
    over_still o (came.time_is_over timer e none) =
        came.time_is_over timer (ring_still timer e)
        (let a = (heard_onward o).fewer (is_key (the_key timer)) (key_is_of timer) in omega (arith, a, none))

    came_still : (o : Option Outcome) (x : Option Outcome) → WaitCame at l.parts k it x → WaitCame heard_at (heard_after o) k less x
    came_still o x w = wait_fewer at heard_at l.parts (heard_after o) k (it.left - 1) it x (over_still o) w

    heard_right : (o : Option Outcome) → EntryCame heard_at (heard_after o) k (Some (Waits less)) → KeepsRight (drawn_at k (Waits less) kept) (heard_after o)
    heard_right o here = settled_right k it.on (Waits it) (Waits less) found refl refl refl refl refl counts_less o here

    -- why it is over now
    module _ (c' : KeepsCounted (drawn_at k (Waits less) kept) (heard_after (Some resolved))) where
      all_done : AreBefore it.on (futures_of it.arguments) → less.left ≡ 0 → Each (IsDone (heard_after (Some resolved))) (futures_of it.arguments)
      all_done before none =
          each_in (IsDone (heard_after (Some resolved))) (futures_of it.arguments) (λ n h.
          let its : Counts = record { own = it.on; members = futures_of it.arguments; left = it.left - 1 } in
          let low = before n h in
          let own = made k it.on (Waits it) (Waits less) found refl refl refl refl refl counts_less in
          let more = (heard_onward (Some resolved)).stays.made in
          outcome_there (drawn_at k (Waits less) kept) (heard_after (Some resolved)) c' n (omega (arith, low, own, more))
          (none_pending c' k its (ap counts_in (get-set_same kept.drawn k (Waits it) (Waits less) found)) none n h low))

      why : AreBefore it.on (futures_of it.arguments) → (outcome : Outcome) → future_outcome l.parts m ≡ Some outcome → is_over outcome less ≡ true
          → WaitIsOver heard_at (heard_after (Some resolved)) k less
      why before outcome done over = at_left (less.left == 0) refl over
        where
          stays : future_outcome (heard_after (Some resolved)) m ≡ Some outcome
          stays = (heard_onward (Some resolved)).stays.done m outcome done

          by : (mode : WaitMode) → it.mode ≡ mode
              → elim mode [ AllCompleted ↦ false | FirstCompleted ↦ true | FirstException ↦ is_failure outcome ] ≡ true
              → WaitIsOver heard_at (heard_after (Some resolved)) k less
          by AllCompleted e over = absurd (false≢true over)
          by FirstCompleted e over = came.one_is_done m argument e (outcome, stays)
          by FirstException e over = came.one_has_failed m outcome argument e stays over

          at_left : (b : Bool) → (less.left == 0) ≡ b
              → (b || elim it.mode [ AllCompleted ↦ false | FirstCompleted ↦ true | FirstException ↦ is_failure outcome ]) ≡ true
              → WaitIsOver heard_at (heard_after (Some resolved)) k less
          at_left true e over = came.all_are_done (all_done before (eqb-true less.left 0 e))
          at_left false e over = by it.mode refl over

      resolved_as : (outcome : Outcome) → future_outcome l.parts m ≡ Some outcome → is_over outcome less ≡ true → (o : Option Outcome)
          → future_outcome l.parts it.on ≡ o → EntryCame heard_at (heard_after (Some resolved)) k (Some (Waits less))
      resolved_as outcome done over None e before =
          subst (WaitCame heard_at (heard_after (Some resolved)) k less)
          (sym (outcome_then k it.on (Waits it) (Waits less) found refl refl refl refl refl counts_less resolved e))
          (came.goes_on (why before outcome done over))
      resolved_as outcome done over (Some earlier) e before =
          subst (WaitCame heard_at (heard_after (Some resolved)) k less)
          (sym (outcome_still k it.on (Waits it) (Waits less) found refl refl refl refl refl counts_less (Some resolved) earlier e))
          (came_still (Some resolved) (Some earlier) (subst (WaitCame at l.parts k it) e (waited before)))

    abbrev resolved_if : Bool → Option Outcome
    resolved_if over = if over then Some resolved else None

    abbrev is_over_by : Option Outcome → Bool
    is_over_by o = option_map_or (λ outcome. is_over outcome less) o false

    wait_told_right : ((over : Bool) → is_over_by (future_outcome now.parts m) ≡ over
        → KeepsCounted (drawn_at k (Waits less) kept) (heard_after (resolved_if over))) → CallRight (told (Some (Waits it)) k m now.parts kept) now
    wait_told_right counted = by (is_over_by (future_outcome now.parts m)) refl
      where
        found_over : (o : Option Outcome) → future_outcome l.parts m ≡ o → is_over_by o ≡ true
            → (outcome : Outcome) × ((future_outcome l.parts m ≡ Some outcome) × (is_over outcome less ≡ true))
        found_over None e over = absurd (false≢true over)
        found_over (Some outcome) e over = (outcome, (e, over))

        by : (over : Bool) → is_over_by (future_outcome now.parts m) ≡ over → KeepsRight (drawn_at k (Waits less) kept) (heard_after (resolved_if over))
        by false e = heard_right None (λ before. came_still None (future_outcome l.parts it.on) (waited before))
        by true e =
            let it_is = found_over (future_outcome l.parts m) refl e in
            heard_right (Some resolved) (resolved_as (counted true e) it_is.0 it_is.1.0 it_is.1.1 (future_outcome l.parts it.on) refl)

  -- ---- what a shield shields is done
  module _ (k m on : ℕ) (found : at k ≡ Some (Shields on)) (tells : tells_in (at j) ≡ Some (k, m)) where
    abbrev passed_after : Option Outcome → Parts
    passed_after o = (made_by_all (settled_as o on) now).parts

    counts_nothing : (its : Counts) → counts_in (Some (Shields on)) ≡ Some its
        → (was : Counts) × ((counts_in (Some (Shields on)) ≡ Some was) × ((was.own ≡ its.own) × (was.members ≡ its.members)))
    counts_nothing its e = absurd (none-some its e)

    abbrev passed_onward : (o : Option Outcome) → Onward l.parts (passed_after o)
    passed_onward o = onward k on (Shields on) (Shields on) found refl refl refl refl refl counts_nothing o

    shielded_was : EntryCame at l.parts k (Some (Shields on))
    shielded_was = subst (EntryCame at l.parts k) found (r.came k)

    -- it shields one alone
    one_alone : (i n : ℕ) → tells_in (at i) ≡ Some (k, n) → m ≡ n
    one_alone i n e =
        let a = r.behind k on i n found e in
        let b = r.behind k on j m found tells in
        ap (λ (x : ℕ × ℕ). x.1) (same_Some (k, m) (k, n) (sym tells ∙ ap (λ i. tells_in (at i)) (b ∙ sym a) ∙ e))

    pass_still : (o : Option Outcome) (n : ℕ) (x : Option Outcome) → ShieldCame l.parts n x → ShieldCame (passed_after o) n x
    pass_still o n _ came.still_waits = came.still_waits
    pass_still o n _ (came.passes outcome is_) = came.passes outcome ((passed_onward o).stays.done n outcome is_)
    pass_still o n _ came.is_cancelled = came.is_cancelled

    pass_came : (outcome : Outcome) → future_outcome l.parts m ≡ Some outcome → (o : Option Outcome) → future_outcome l.parts on ≡ o → (n : ℕ)
        → m ≡ n → ShieldCame l.parts n o → ShieldCame (passed_after (Some outcome)) n (future_outcome (passed_after (Some outcome)) on)
    pass_came outcome done None e n same before =
        subst (ShieldCame (passed_after (Some outcome)) n)
        (sym (outcome_then k on (Shields on) (Shields on) found refl refl refl refl refl counts_nothing outcome e))
        (came.passes outcome ((passed_onward (Some outcome)).stays.done n outcome (ap (future_outcome l.parts) (sym same) ∙ done)))
    pass_came outcome done (Some x) e n same before =
        subst (ShieldCame (passed_after (Some outcome)) n)
        (sym (outcome_still k on (Shields on) (Shields on) found refl refl refl refl refl counts_nothing (Some outcome) x e))
        (pass_still (Some outcome) n (Some x) before)

    -- the entry stays as it is
    set_same : slice_set kept.drawn k (Shields on) ≡ kept.drawn
    set_same = set_there kept.drawn k (Shields on) found

    shield_told_right : CallRight (told (Some (Shields on)) k m now.parts kept) now
    shield_told_right =
        let done = is_done k m tells in
        subst (λ drawn. Right (slice_get drawn) (passed_after (future_outcome now.parts m))) set_same
        (settled_right k on (Shields on) (Shields on) found refl refl refl refl refl counts_nothing (future_outcome now.parts m)
        (subst (λ o. EntryCame (slice_get (slice_set kept.drawn k (Shields on))) (passed_after o) k (Some (Shields on))) (sym done.1)
        (λ i n e.
        let f = sym (tells_is k on (Shields on) (Shields on) found refl refl refl refl refl counts_nothing i) ∙ e in
        pass_came done.0 done.1 (future_outcome l.parts on) refl n (one_alone i n f) (shielded_was i n f))))

  -- ---- the time of a wait is over
  module _ (k : ℕ) (it : Waiting) (found : at k ≡ Some (Waits it)) (rings : at j ≡ Some (Rings k)) where
    abbrev rung_after : Parts
    rung_after = (made_by_all (settled_as (Some resolved) it.on) now).parts

    counts_still : (its : Counts) → counts_in (Some (Waits it)) ≡ Some its
        → (was : Counts) × ((counts_in (Some (Waits it)) ≡ Some was) × ((was.own ≡ its.own) × (was.members ≡ its.members)))
    counts_still its e = (its, (e, (refl, refl)))

    rung_onward : Onward l.parts rung_after
    rung_onward = onward k it.on (Waits it) (Waits it) found refl refl refl refl refl counts_still (Some resolved)

    waited_for : EntryCame at l.parts k (Some (Waits it))
    waited_for = subst (EntryCame at l.parts k) found (r.came k)

    rung_came : (o : Option Outcome) → future_outcome l.parts it.on ≡ o → EntryCame at rung_after k (Some (Waits it))
    rung_came None e =
        λ before. subst (WaitCame at rung_after k it)
        (sym (outcome_then k it.on (Waits it) (Waits it) found refl refl refl refl refl counts_still resolved e))
        (came.goes_on (came.time_is_over j rings
        (let a = (settled_onward (Some resolved) it.on now).fewer (is_key (the_key j)) (key_is_of j) in let b = gone in omega (arith, a, b))))
    rung_came (Some earlier) e =
        entry_on at at l.parts rung_after rung_onward.stays.done (no_more at l.parts rung_after rung_onward) k (same_for at k) (Some (Waits it))
        (λ on own. subst (StaysOrIsCancelled l.parts rung_after) (same_Some it.on on own)
        (inl (outcome_still k it.on (Waits it) (Waits it) found refl refl refl refl refl counts_still (Some resolved) earlier e ∙ sym e))) waited_for

    wait_rings_right : KeepsRight kept rung_after
    wait_rings_right =
        subst (λ drawn. Right (slice_get drawn) rung_after) (set_there kept.drawn k (Waits it) found)
        (settled_right k it.on (Waits it) (Waits it) found refl refl refl refl refl counts_still (Some resolved)
        (subst (λ drawn. EntryCame (slice_get drawn) rung_after k (Some (Waits it))) (sym (set_there kept.drawn k (Waits it) found))
        (rung_came (future_outcome l.parts it.on) refl)))

  module _ (cancels : (key future i on : ℕ) → own_in (at i) ≡ Some on
      → StaysOrIsCancelled l.parts (made_by_all (Cancels key future ∷ []) now).parts on) where
    rung_right : (k : ℕ) → at j ≡ Some (Rings k) → (o : Option Drawn) → at k ≡ o → CallRight (rung o k now.parts kept) now
    rung_right k rings (Some (Waits it)) found = wait_rings_right k it found rings
    rung_right k rings (Some (WaitsFor it)) found =
        let steps = Cancels (key_at gather_part k) (future_of now.parts it.task) ∷ [] in
        plain_at kept l.parts r k it (record it { state = Expiring; timer = None }) (made_by_all steps now).parts found
        (onward_then l.parts now.parts (made_by_all steps now).parts (taken_onward handle rest l.parts first) (still_onward steps now (λ test. refl)))
        (λ i on own. cancels (key_at gather_part k) (future_of now.parts it.task) i on own)
    rung_right k rings _ found = taken_right

    told_right : (k m : ℕ) → at j ≡ Some (Tells k m) → (o : Option Drawn) → at k ≡ o → CallRight (told o k m now.parts kept) now
    told_right k m e (Some (Gathers it)) found = gather_told_right k m it found (ap tells_in e)
    told_right k m e (Some (Waits it)) found =
        wait_told_right k m it found (ap tells_in e)
        (λ over over_.
        subst (λ b. KeepsCounted (drawn_at k (Waits (record it { left = it.left - 1 })) kept)
        (made_by_all (settled_as (if b then Some resolved else None) it.on) now).parts) over_
        (told_keeps kept l c handle rest j first live is k m (ap tells_in e) (Some (Waits it)) found))
    told_right k m e (Some (Shields on)) found = shield_told_right k m on found (ap tells_in e)
    told_right k m e _ found = taken_right

    pub acted_right : (o : Option Drawn) → at j ≡ o → CallRight (acted o now.parts kept) now
    acted_right (Some (Tells k m)) e = told_right k m e (at k) refl
    acted_right (Some (Rings k)) e = rung_right k e (at k) refl
    acted_right _ e = taken_right
