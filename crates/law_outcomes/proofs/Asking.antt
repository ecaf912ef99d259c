-- What each request comes to that is asked of futures that were made.
use Rattle.std.proofs.Common.{◌≡◌, ◌≤◌, ◌+◌, ◌⊎◌, inl, inr, ℕ, ℤ, zero, suc, Bool, true, false, List, [], ◌∷◌, ◌++◌, Option, Some, None}
use Rattle.std.proofs.Common.{if◌then◌else◌, length, map, not, slice_get, refl, sym, ap, subst, ◌∙◌, arith}
use Rattle.std.specs.List.{AllByRecursion as Each, sum_by}
use Rattle.std.proofs.lemmas.Bool.{false≢true}
use Rattle.std.proofs.lemmas.List.Filters.{length-filter_both}
use Rattle.std.proofs.lemmas.List.Sums.{sum_by-append}
use Rattle.std.proofs.lemmas.Option.{none-some, same_Some}
use Rattle.model_value.specs.Value.{Items, Outcome, no_values}
use Rattle.model_says.specs.Operations.{out_of_range}
use Rattle.model_loop.specs.Futures.{future_outcome, is_pending, next_future}
use Rattle.model_loop.specs.Loop.{Loop}
use Rattle.model_loop.specs.Parts.{Parts}
use Rattle.model_loop.specs.Tasks.{cancelling}
use Rattle.model_machine.specs.Extra.{Answers, ExtraAnswer, ExtraCall, ExtraSaid, ExtraStep, MakesMany, MakesPlain, Raises, made_by, made_by_all}
use Rattle.model_machine.specs.Outcomes.{input_of}
use Rattle.model_reach.specs.Part.{can_draw, passes, refuses}
use Rattle.model_gather.specs.Gathered.{Answered, Argument, Drawn, Gathered, Gathering, Gathers, Shields, Tells, Timed, TimedWait, WaitMode, Waits, WaitsFor}
use Rattle.model_gather.specs.Gathered.{at_once, distinct, distinct_arguments, draws, drawn_after, futures_of, gather_part, registered_from, settled_as}
use Rattle.model_gather.specs.Gather.{Counted as Counting, gather, gather_all}
use Rattle.model_gather.specs.Serving.{OfGather, OfShield, OfWait, OfWaitFor, Request, serve}
use Rattle.model_gather.specs.Shield.{shield, shield_open}
use Rattle.model_gather.specs.Wait.{bad_mode, empty_set, handle_if_some, one_if_some, rings_after, tag_if_some, wait, wait_all}
use Rattle.model_gather.specs.WaitFor.{bad_timeout, may_time, wait_for, wait_for_all}
use Rattle.law_waiters.proofs.Fitting.{each_append}
use Rattle.law_waiters.specs.Timed.{is_key}
use Rattle.law_members.specs.Members.{IsDone}
use Rattle.law_members.proofs.Asking.{counted_of, gather_fit, gather_steps, open_of, over_of, shield_fit, shield_steps, timed_fit, timed_steps, wait_fit}
use Rattle.law_members.proofs.Asking.{wait_steps}
use Rattle.law_members.proofs.Asking.{waiting_of, whole_of}
use Rattle.law_members.proofs.Calling.{shielded}
use Rattle.law_members.proofs.Counted.{Counts, IsIn, the_key}
use Rattle.law_members.proofs.Drawing.{KeepsCounted, counts_in, place_of_in, settled_makes, tells_in}
use Rattle.law_members.proofs.Entering.{CountsAll, counts_all, in_distinct, in_filter, no_more, plain_fit, tail_alone, tells_with}
use Rattle.law_members.proofs.Onward.{makes, steps_stay}
use Rattle.law_members.proofs.Walking.{outcome_there}
use Rattle.law_outcomes.specs.Came as came
use Rattle.law_outcomes.specs.Came.{GatherCame, HasGoneOn, ShieldCame, WaitCame}
use Rattle.law_outcomes.proofs.Counting.{AllCounted, all_counted, gather_same, all_over, goes_on, gone_same, raises}
use Rattle.law_outcomes.proofs.Drawing.{KeepsRight, MoreRight, more_right, new_told, told_new}
use Rattle.law_outcomes.proofs.Entering.{distinct_in, filter_in, making_right, many_is_new, new_pending, pending_within, plain_is_new, tells_back}
use Rattle.law_outcomes.proofs.Handles.{SettlesAt, made_append, registered_settles, registered_single, rings_settles, rings_single, settle_gives}
use Rattle.law_outcomes.proofs.Handles.{settled_settles}
use Rattle.law_outcomes.proofs.Lists.{each_in, in_among}
use Rattle.law_outcomes.proofs.Right.{AreBefore, EntryCame, Uncounted, gather_on, gone_on, own_in, plain_came}

-- what it names was made, or is the next
abbrev pub AsksMade : (next : ℕ) → Request → Type 0
AsksMade next (OfGather as_items awaited) = (m : ℕ) → IsIn m awaited → m ≤ next
AsksMade next (OfWait over delay arguments) = (m : ℕ) → IsIn m (futures_of (distinct_arguments arguments)) → m ≤ next
AsksMade next (OfShield inner) = inner ≤ next
AsksMade next (OfWaitFor on delay) = Unit {0}

-- after a call
abbrev pub CallRight : ExtraCall Gathered → Loop → Type 0
CallRight call l = KeepsRight call.state (made_by_all call.steps l).parts

each_at : (P : ℕ → Type 0) (ids : List ℕ) (m : ℕ) → IsIn m ids → Each P ids → P m
each_at P [] m h all = absurd h
each_at P (id ∷ ids) m (inl e) all = subst P e all.0
each_at P (id ∷ ids) m (inr h) all = each_at P ids m h all.1

pub none_in : (m : ℕ) (ids : List ℕ) → length ids ≡ 0 → IsIn m ids → ⊥
none_in m [] e h = h
none_in m (id ∷ ids) e h = absurd (omega (arith, e))

abbrev pub shield_in : Option Drawn → Option ℕ
shield_in (Some (Shields on)) = Some on
shield_in _ = None

-- the places of the handles of these, from this one on
abbrev places_from : (place : ℕ) → List ℕ → List ℕ
places_from place [] = []
places_from place (id ∷ ids) = place ∷ places_from (suc place) ids

places_size : (place : ℕ) (ids : List ℕ) → length (places_from place ids) ≡ length ids
places_size place [] = refl
places_size place (id ∷ ids) = ap suc (places_size (suc place) ids)

place_there : (place : ℕ) (ids : List ℕ) (i m : ℕ) → slice_get ids i ≡ Some m → IsIn (place + i) (places_from place ids)
place_there place [] i m e = absurd (none-some m e)
place_there place (id ∷ ids) zero m e = inl (omega arith)
place_there place (id ∷ ids) (suc i) m e =
    let z : suc place + i ≡ place + suc i = omega arith in
    inr (subst (λ k. IsIn k (places_from (suc place) ids)) z (place_there (suc place) ids i m e))

-- ---- a request without a future
plain_right : (n : ℕ) (first : Drawn) (delay : Option ℤ) (steps : List ExtraStep) (l : Loop) (at : ℕ → Option Drawn) → own_in (Some first) ≡ None
    → tells_in (Some first) ≡ None → counts_in (Some first) ≡ None → ((j : ℕ) → sum_by (makes (is_key (the_key j))) steps ≤ 1)
    → Each (SettlesAt (next_future l.parts)) steps → MoreRight n (first ∷ handle_if_some delay n) steps l at
plain_right n first delay steps l at no_own no_tell no_count single settles =
    record {
      single = single;
      settles = settles;
      own = λ i on e. absurd (none-some on (sym (own delay i) ∙ e));
      most = λ it e m among. absurd (none-some it (sym no_count ∙ e));
      telling = λ i k m e it f. absurd (none-some it (sym no_count ∙ f));
      told = λ i k m e. absurd (none-some (k, m) (sym (tells delay i) ∙ e));
      behind = λ on i k m e f. absurd (none-some (k, m) (sym (tells delay i) ∙ f));
      registered = λ i k m e pending. absurd (none-some (k, m) (sym (tells delay i) ∙ e));
      came = plain_came at (made_by_all steps l).parts n (Some first) no_own;
    }
  where
    own : (o : Option ℤ) (i : ℕ) → own_in (slice_get (first ∷ handle_if_some o n) i) ≡ None
    own o zero = no_own
    own None (suc i) = refl
    own (Some delay) (suc zero) = refl
    own (Some delay) (suc (suc i)) = refl

    tells : (o : Option ℤ) (i : ℕ) → tells_in (slice_get (first ∷ handle_if_some o n) i) ≡ None
    tells o zero = no_tell
    tells None (suc i) = refl
    tells (Some delay) (suc zero) = refl
    tells (Some delay) (suc (suc i)) = refl

module _ (kept : Gathered) (l : Loop) (r : KeepsRight kept l.parts) (c : KeepsCounted kept l.parts) where
  abbrev n : ℕ
  n = length kept.drawn

  drawn_right : (more : ℕ) (said : ExtraSaid Gathered) → CallRight said.call l → CallRight (draws more said kept).call l
  drawn_right more said h = at (can_draw gather_part n more)
    where
      at : (b : Bool) → CallRight (if b then said else refuses out_of_range kept).call l
      at true = h
      at false = r

  once_right : (answer : ExtraAnswer) → CallRight (at_once answer kept).call l
  once_right answer =
      drawn_right 1 (record { call = record { state = drawn_after (Answered ∷ []) kept; steps = [] }; answer = answer })
      (more_right kept l r c (Answered ∷ []) [] (plain_fit n Answered [] [] l refl refl (tail_alone n []) tt)
      (plain_right n Answered None [] l (slice_get (kept.drawn ++ Answered ∷ [])) refl refl refl (λ j. omega arith) tt))

  -- ---- a gather
  module _ (as_items : Bool) (awaited : List ℕ) (most : (m : ℕ) → IsIn m awaited → m ≤ next_future l.parts) where
    abbrev p : Parts
    p = l.parts

    abbrev members : List ℕ
    members = distinct awaited

    abbrev open_ : List ℕ
    open_ = open_of p awaited

    abbrev done_ : List ℕ
    done_ = over_of p awaited

    abbrev whole : Gathering
    whole = whole_of p as_items awaited

    abbrev counted : Counting
    counted = counted_of p as_items awaited

    abbrev handles : List ExtraStep
    handles = registered_from gather_part (suc n) open_

    abbrev more : List Drawn
    more = Gathers counted.now ∷ map (Tells n) open_ ++ []

    abbrev at : ℕ → Option Drawn
    at = slice_get (kept.drawn ++ more)

    abbrev steps_as : Option Outcome → List ExtraStep
    steps_as o = MakesMany members ∷ handles ++ settled_as o (next_future p)

    abbrev after_as : Option Outcome → Parts
    after_as o = (made_by_all (steps_as o) l).parts

    all : CountsAll whole counted.now (length done_)
    all = counts_all p false done_ whole

    sizes : length open_ + length done_ ≡ length members
    sizes = length-filter_both (is_pending p) (λ id. not (is_pending p id)) (λ id. refl) members

    done_made : AreBefore (next_future l.parts) awaited → Each (IsDone p) done_
    done_made made =
        each_in (IsDone p) done_ (λ m h.
        let it = filter_in (λ id. not (is_pending p id)) m members h in
        outcome_there kept p c m (made m (distinct_in m awaited it.0)) (untrue (is_pending p m) it.1))
      where
        untrue : (b : Bool) → not b ≡ true → b ≡ false
        untrue true e = absurd (false≢true e)
        untrue false e = refl

    how_counted : AreBefore (next_future l.parts) awaited → AllCounted p whole done_ counted.outcome
    how_counted made = all_counted p whole done_ (done_made made) (omega (arith, sizes))

    in_open : (m : ℕ) → IsIn m awaited → is_pending p m ≡ true → IsIn m open_
    in_open m h is = in_filter (is_pending p) m members (in_distinct m awaited h) is

    in_done : (m : ℕ) → IsIn m awaited → is_pending p m ≡ false → IsIn m done_
    in_done m h is = in_filter (λ id. not (is_pending p id)) m members (in_distinct m awaited h) (ap not is)

    stays_as : (o : Option Outcome) (id : ℕ) (outcome : Outcome) → future_outcome p id ≡ Some outcome → future_outcome (after_as o) id ≡ Some outcome
    stays_as o = (steps_stay (steps_as o) l).done

    -- its future before it is settled
    abbrev unsettled : Parts
    unsettled = (made_by_all (MakesMany members ∷ handles) l).parts

    still_none : future_outcome unsettled (next_future p) ≡ None
    still_none =
        let new = many_is_new members l in
        new_pending (MakesMany members) handles l new.0 new.1 (registered_settles (suc (next_future p)) (suc n) open_)

    none_as : future_outcome (after_as None) (next_future p) ≡ None
    none_as = ap (λ (m : Loop). future_outcome m.parts (next_future p)) (made_append handles [] (made_by (MakesMany members) l)) ∙ still_none

    some_as : (outcome : Outcome) → future_outcome (after_as (Some outcome)) (next_future p) ≡ Some outcome
    some_as outcome =
        let low = (steps_stay handles (made_by (MakesMany members) l)).made in
        let one = (many_is_new members l).0 in
        ap (λ (m : Loop). future_outcome m.parts (next_future p))
        (made_append handles (settled_as (Some outcome) (next_future p)) (made_by (MakesMany members) l))
        ∙ settle_gives (next_future p) outcome unsettled (omega (arith, low, one)) still_none

    outer_is : (q : Parts) → future_outcome q counted.now.outer ≡ future_outcome q (next_future p)
    outer_is q = ap (future_outcome q) all.outer

    -- ---- what its future came to
    of_whole : (outcome : Outcome) → AllCounted p whole done_ (Some outcome) → GatherCame p whole (Some outcome)
    of_whole outcome (raises m _ among is raised no_value) =
        came.raises m outcome
        (in_among m awaited (distinct_in m awaited (filter_in (λ id. not (is_pending p id)) m members among).0)) is raised no_value
    of_whole _ (all_over gone same) =
        came.answers (each_in (HasGoneOn p whole) awaited (λ m h. by m h (is_pending p m) refl))
      where
        by : (m : ℕ) → IsIn m awaited → (b : Bool) → is_pending p m ≡ b → HasGoneOn p whole m
        by m h true is = absurd (none_in m open_ (omega (arith, sizes, same)) (in_open m h is))
        by m h false is = each_at (HasGoneOn p whole) done_ m (in_done m h is) gone

    came_some : (outcome : Outcome) → AllCounted p whole done_ (Some outcome) → EntryCame at (after_as (Some outcome)) n (Some (Gathers counted.now))
    came_some outcome how before =
        let q = after_as (Some outcome) in
        let is = outer_is q ∙ some_as outcome in (
          subst (GatherCame q counted.now) (sym is)
              (gather_same q whole counted.now all.awaited all.as_items (Some outcome)
              (gather_on p q (stays_as (Some outcome)) whole (Some outcome) (of_whole outcome how))),
          λ none. absurd (none-some outcome (sym none ∙ is)),
        )

    came_none : Each (HasGoneOn p whole) done_ → EntryCame at (after_as None) n (Some (Gathers counted.now))
    came_none gone before = (subst (GatherCame q counted.now) (sym is) came.still_waits, λ none. uncounted)
      where
        q : Parts
        q = after_as None

        is : future_outcome (after_as None) counted.now.outer ≡ None
        is = outer_is (after_as None) ∙ none_as

        uncounted : Uncounted at (after_as None) n counted.now
        uncounted = record {
          places = places_from (suc n) open_;
          few = let a = places_size (suc n) open_ in let b = all.left in omega (arith, a, b, sizes);
          counted = λ j m e out.
              let it = told_new kept p c more (gather_steps n p as_items awaited) l (gather_fit n l as_items awaited) j m e in
              let f = tells_back n open_ None it.0 n m it.1.1 in
              let z : suc n + it.0 ≡ j = (let a = it.1.0 in omega (arith, a)) in
              absurd (out (subst (λ k. IsIn k (places_from (suc n) open_)) z (place_there (suc n) open_ it.0 m f)));
          all = λ m h. by m (subst (IsIn m) all.awaited h) (is_pending p m) refl;
        }
          where
            by : (m : ℕ) → IsIn m awaited → (b : Bool) → is_pending p m ≡ b
                → ((j : ℕ) × (tells_in (at j) ≡ Some (n, m))) ⊎ HasGoneOn (after_as None) counted.now m
            by m h true pending =
                let i = place_of_in m open_ (in_open m h pending) in
                inl (
                  n + suc i.0,
                  new_told kept p c more (gather_steps n p as_items awaited) l (gather_fit n l as_items awaited) (suc i.0) m
                      (tells_with n open_ [] i.0 m i.1),
                )
            by m h false pending =
                inr (gone_same (after_as None) whole counted.now all.as_items m
                (gone_on p (after_as None) (stays_as None) whole m (each_at (HasGoneOn p whole) done_ m (in_done m h pending) gone)))

    came_as : (o : Option Outcome) → AllCounted p whole done_ o → EntryCame at (after_as o) n (Some (Gathers counted.now))
    came_as None (goes_on gone) = came_none gone
    came_as (Some outcome) how = came_some outcome how

    -- of members that were made
    made_before : AreBefore counted.now.outer counted.now.awaited → AreBefore (next_future l.parts) awaited
    made_before before m h =
        let a = before m (subst (IsIn m) (sym all.awaited) h) in
        let b = all.outer in
        omega (arith, a, b)

    gather_more : MoreRight n (Gathers counted.now ∷ map (Tells n) open_ ++ []) (gather_steps n p as_items awaited) l at
    gather_more =
        making_right n (Gathers counted.now) open_ None (MakesMany members) (settled_as counted.outcome (next_future p)) l at refl (λ j. refl) tt
        (many_is_new members l).0 single (settled_settles (next_future p) counted.outcome)
        (λ on e. sym (same_Some counted.now.outer on e) ∙ all.outer) at_most telling
        (λ m h. let a = pending_within p m (filter_in (is_pending p) m members h).1 in omega (arith, a))
        (λ on e. absurd (none-some on (ap shield_in e)))
        (λ before. came_as counted.outcome (how_counted (made_before before)) before)
      where
        single : (j : ℕ) → sum_by (makes (is_key (the_key j))) (handles ++ settled_as counted.outcome (next_future p)) ≤ 1
        single j =
            let a = sum_by-append (makes (is_key (the_key j))) handles (settled_as counted.outcome (next_future p)) in
            let b = registered_single j (suc n) open_ in
            let d = settled_makes (is_key (the_key j)) counted.outcome (next_future p) in
            omega (arith, a, b, d)

        its : Counts
        its = record { own = counted.now.outer; members = counted.now.awaited; left = counted.now.left }

        at_most : (it : Counts) → counts_in (Some (Gathers counted.now)) ≡ Some it → (m : ℕ) → IsIn m it.members → m ≤ it.own
        at_most it e m h =
            let same = same_Some its it e in
            let a = most m (subst (IsIn m) (ap (λ (w : Counts). w.members) (sym same) ∙ all.awaited) h) in
            let b = ap (λ (w : Counts). w.own) same in
            let d = all.outer in
            omega (arith, a, b, d)

        telling : (it : Counts) → counts_in (Some (Gathers counted.now)) ≡ Some it → (m : ℕ) → IsIn m open_ → IsIn m it.members
        telling it e m h =
            let same = same_Some its it e in
            subst (IsIn m) (sym all.awaited ∙ ap (λ (w : Counts). w.members) same)
            (distinct_in m awaited (filter_in (is_pending p) m members h).0)

    gather_all_right : CallRight (gather_all as_items awaited (distinct awaited) p kept).call l
    gather_all_right =
        subst (λ (tail : List Drawn). KeepsRight (drawn_after (Gathers counted.now ∷ tail) kept) (made_by_all (gather_steps n p as_items awaited) l).parts)
        (no_more (map (Tells n) open_))
        (more_right kept l r c more (gather_steps n p as_items awaited) (gather_fit n l as_items awaited) gather_more)

  gather_right : (as_items : Bool) (awaited : List ℕ) → ((m : ℕ) → IsIn m awaited → m ≤ next_future l.parts)
      → CallRight (gather as_items awaited l.parts kept).call l
  gather_right as_items [] made = once_right (Answers (Items no_values))
  gather_right as_items (id ∷ ids) made =
      drawn_right (1 + length (open_of l.parts (id ∷ ids))) (gather_all as_items (id ∷ ids) (distinct (id ∷ ids)) l.parts kept)
      (gather_all_right as_items (id ∷ ids) made)

  -- ---- a wait
  wait_all_right : (mode : WaitMode) (delay : Option ℤ) (arguments : List Argument)
      → ((m : ℕ) → IsIn m (futures_of arguments) → m ≤ next_future l.parts) → CallRight (wait_all mode delay arguments l.parts kept).call l
  wait_all_right mode delay arguments made =
      let ids = futures_of arguments in
      let ring = the_key (suc n + length ids) in
      let more = Waits (waiting_of l.parts mode delay arguments) ∷ map (Tells n) ids ++ handle_if_some delay n in
      let steps = wait_steps n l.parts delay arguments in
      let its : Counts = record { own = next_future l.parts; members = ids; left = length ids } in
      let new = plain_is_new l in
      let behind = registered_from gather_part (suc n) ids ++ rings_after delay ring l.parts in
      let none = new_pending MakesPlain behind l new.0 new.1
      (each_append (SettlesAt (suc (next_future l.parts))) (registered_from gather_part (suc n) ids) (rings_after delay ring l.parts)
      (registered_settles (suc (next_future l.parts)) (suc n) ids) (rings_settles (suc (next_future l.parts)) ring delay l.parts)) in
      more_right kept l r c more steps (wait_fit n l mode delay arguments)
      (making_right n (Waits (waiting_of l.parts mode delay arguments)) ids delay MakesPlain (rings_after delay ring l.parts) l
      (slice_get (kept.drawn ++ more)) refl (λ j. refl) tt new.0 (λ j. rings_single j (suc n) ids delay l.parts)
      (rings_settles (next_future l.parts) ring delay l.parts) (λ on e. sym (same_Some (next_future l.parts) on e))
      (λ it e m h.
      let same = same_Some its it e in
      let a = made m (subst (IsIn m) (ap (λ (w : Counts). w.members) (sym same)) h) in
      let b = ap (λ (w : Counts). w.own) same in
      omega (arith, a, b))
      (λ it e m h. subst (IsIn m) (ap (λ (w : Counts). w.members) (same_Some its it e)) h) made
      (λ on e. absurd (none-some on (ap shield_in e)))
      (λ before. subst (WaitCame (slice_get (kept.drawn ++ more)) (made_by_all steps l).parts n (waiting_of l.parts mode delay arguments)) (sym none)
      came.still_waits))

  wait_right : (over : Option WaitMode) (delay : Option ℤ) (arguments : List Argument)
      → ((m : ℕ) → IsIn m (futures_of (distinct_arguments arguments)) → m ≤ next_future l.parts)
      → CallRight (wait over delay arguments l.parts kept).call l
  wait_right over delay [] made = once_right (Raises empty_set)
  wait_right None delay (it ∷ others) made = once_right (Raises bad_mode)
  wait_right (Some mode) delay (it ∷ others) made =
      let arguments = distinct_arguments (it ∷ others) in
      drawn_right (1 + length arguments + one_if_some delay) (wait_all mode delay arguments l.parts kept) (wait_all_right mode delay arguments made)

  -- ---- a shield
  shield_right : (inner : ℕ) → inner ≤ next_future l.parts → CallRight (shield inner l.parts kept).call l
  shield_right inner made = at (future_outcome l.parts inner)
    where
      more : List Drawn
      more = Shields (next_future l.parts) ∷ Tells n inner ∷ []

      none : future_outcome (made_by_all (shield_steps n inner) l).parts (next_future l.parts) ≡ None
      none =
          let new = plain_is_new l in
          new_pending MakesPlain (registered_from gather_part (suc n) (inner ∷ [])) l new.0 new.1
          (registered_settles (suc (next_future l.parts)) (suc n) (inner ∷ []))

      open_right : CallRight (shield_open inner l.parts kept).call l
      open_right =
          more_right kept l r c (Shields (next_future l.parts) ∷ Tells n inner ∷ []) (shield_steps n inner) (shield_fit n inner l)
          (making_right n (Shields (next_future l.parts)) (inner ∷ []) None MakesPlain [] l (slice_get (kept.drawn ++ more)) refl (λ j. refl) tt
          (plain_is_new l).0
          (λ j.
          let a = sum_by-append (makes (is_key (the_key j))) (registered_from gather_part (suc n) (inner ∷ [])) [] in
          let b = registered_single j (suc n) (inner ∷ []) in
          omega (arith, a, b))
          tt (λ on e. sym (same_Some (next_future l.parts) on e)) (λ it e m h. absurd (none-some it e)) (λ it e m h. absurd (none-some it e))
          (λ m h. low m h) (λ on e. omega arith)
          (λ j other e. subst (ShieldCame (made_by_all (shield_steps n inner) l).parts other) (sym none) came.still_waits))
        where
          low : (m : ℕ) → IsIn m (inner ∷ []) → m ≤ next_future l.parts
          low m (inl e) = omega (arith, made, e)
          low m (inr h) = absurd h

      at : (o : Option Outcome) → CallRight (shielded o inner l.parts kept).call l
      at (Some outcome) = once_right (passes (input_of outcome))
      at None = drawn_right 2 (shield_open inner l.parts kept) open_right

  -- ---- a wait_for
  wait_for_all_right : (task id : ℕ) (delay : Option ℤ) → CallRight (wait_for_all task id delay l.parts kept).call l
  wait_for_all_right task id delay =
      let it : TimedWait = record { task = task; stored = cancelling l.parts task; timer = tag_if_some delay l.parts.next_tag; state = Timed } in
      let more = WaitsFor it ∷ handle_if_some delay n in
      more_right kept l r c more (timed_steps n l.parts delay) (timed_fit n it delay l)
      (plain_right n (WaitsFor it) delay (timed_steps n l.parts delay) l (slice_get (kept.drawn ++ more)) refl refl refl
      (λ j. single j) (rings_settles (next_future l.parts) (the_key (suc n)) delay l.parts))
    where
      single : (j : ℕ) → sum_by (makes (is_key (the_key j))) (timed_steps n l.parts delay) ≤ 1
      single j =
          let z : suc n + 0 ≡ suc n = omega arith in
          subst (λ k. sum_by (makes (is_key (the_key j))) (rings_after delay (the_key k) l.parts) ≤ 1) z (rings_single j (suc n) [] delay l.parts)

  wait_for_right : (task id : ℕ) (delay : Option ℤ) → CallRight (wait_for task id delay l.parts kept).call l
  wait_for_right task id delay = at (may_time delay)
    where
      at : (b : Bool) → CallRight (if b
          then draws (1 + one_if_some delay) (wait_for_all task id delay l.parts kept) kept
          else at_once (Raises bad_timeout) kept).call l
      at true = drawn_right (1 + one_if_some delay) (wait_for_all task id delay l.parts kept) (wait_for_all_right task id delay)
      at false = once_right (Raises bad_timeout)

  pub serve_right : (it : Request) (task : ℕ) → AsksMade (next_future l.parts) it → CallRight (serve it task l.parts kept).call l
  serve_right (OfGather as_items awaited) task made = gather_right as_items awaited made
  serve_right (OfWait over delay arguments) task made = wait_right over delay arguments made
  serve_right (OfShield inner) task made = shield_right inner made
  serve_right (OfWaitFor id delay) task made = wait_for_right task id delay
