-- The entries of a request that is asked of futures that were made, and what its future has come to then.
use Rattle.std.proofs.Common.{◌≡◌, ◌<◌, ◌≤◌, ◌+◌, inl, inr, ℕ, ℤ, zero, suc, Bool, true, false, cond, List, [], ◌∷◌, ◌++◌, Option, Some, None}
use Rattle.std.proofs.Common.{filter, length, length-append, map, not, slice_get, refl, sym, ap, subst, ◌∙◌, arith}
use Rattle.std.specs.Prelude.{◌==◌}
use Rattle.std.specs.List.{AllByRecursion as Each, count_by, sum_by}
use Rattle.std.proofs.lemmas.Bool.{false≢true}
use Rattle.std.proofs.lemmas.List.Sums.{sum_by-cons}
use Rattle.std.proofs.lemmas.Option.{none-some, same_Some}
use Rattle.model_loop.specs.Futures.{future_outcome, is_pending, is_pending_at, next_future, outcome_at}
use Rattle.model_loop.specs.Loop.{Loop}
use Rattle.model_loop.specs.Parts.{Future, Many, Parts, Plain}
use Rattle.model_loop.specs.Totals.{callbacks_of}
use Rattle.model_machine.specs.Extra.{ExtraStep, MakesMany, MakesPlain, made_by, made_by_all}
use Rattle.model_gather.specs.Gathered.{Drawn, Shields, Tells, distinct}
use Rattle.model_gather.specs.Gathered.{gather_part, registered_from}
use Rattle.model_gather.specs.Wait.{handle_if_some}
use Rattle.law_cancel.proofs.Lookups.{get-push_last, get_within}
use Rattle.law_waiters.proofs.Fitting.{each_append}
use Rattle.law_waiters.specs.Timed.{is_key}
use Rattle.law_members.proofs.Counted.{Counts, IsIn, the_key}
use Rattle.law_members.proofs.Drawing.{counts_in, registered_at_place, tells_in}
use Rattle.law_members.proofs.Onward.{makes, steps_stay}
use Rattle.law_outcomes.proofs.Drawing.{MoreRight}
use Rattle.law_outcomes.proofs.Handles.{SettlesAt, registered_settles, steps_others}
use Rattle.law_outcomes.proofs.Right.{EntryCame, own_in}

-- ---- lists
pub filter_in : (f : ℕ → Bool) (m : ℕ) (ids : List ℕ) → IsIn m (filter f ids) → IsIn m ids × (f m ≡ true)
filter_in f m [] h = absurd h
filter_in f m (id ∷ ids) h = at (f id) refl h (λ rest. filter_in f m ids rest)
  where
    at : (b : Bool) → f id ≡ b → IsIn m (cond b (id ∷ filter f ids) (filter f ids)) → (IsIn m (filter f ids) → IsIn m ids × (f m ≡ true))
        → IsIn m (id ∷ ids) × (f m ≡ true)
    at true is (inl e) next = (inl e, ap f (sym e) ∙ is)
    at true is (inr rest) next = let it = next rest in (inr it.0, it.1)
    at false is rest next = let it = next rest in (inr it.0, it.1)

pub distinct_in : (m : ℕ) (ids : List ℕ) → IsIn m (distinct ids) → IsIn m ids
distinct_in m [] h = absurd h
distinct_in m (id ∷ ids) (inl e) = inl e
distinct_in m (id ∷ ids) (inr h) = inr (distinct_in m ids (filter_in (λ other. not (other == id)) m (distinct ids) h).0)

pub place_in : (ids : List ℕ) (i m : ℕ) → slice_get ids i ≡ Some m → IsIn m ids
place_in [] i m e = absurd (none-some m e)
place_in (id ∷ ids) zero m e = inl (same_Some id m e)
place_in (id ∷ ids) (suc i) m e = inr (place_in ids i m e)

pair_future : (n f k m : ℕ) → ◌≡◌ {A = Option (ℕ × ℕ)} (Some (n, f)) (Some (k, m)) → f ≡ m
pair_future n f k m e = ap (λ (it : ℕ × ℕ). it.1) (same_Some (n, f) (k, m) e)

-- which future a handle tells of
pub tells_back : (n : ℕ) (ids : List ℕ) (delay : Option ℤ) (i k m : ℕ)
    → tells_in (slice_get (map (Tells n) ids ++ handle_if_some delay n) i) ≡ Some (k, m) → slice_get ids i ≡ Some m
tells_back n [] None i k m e = absurd (none-some (k, m) e)
tells_back n [] (Some delay) zero k m e = absurd (none-some (k, m) e)
tells_back n [] (Some delay) (suc i) k m e = absurd (none-some (k, m) e)
tells_back n (id ∷ ids) delay zero k m e = ap Some (pair_future n id k m e)
tells_back n (id ∷ ids) delay (suc i) k m e = tells_back n ids delay i k m e

own_none : (n : ℕ) (ids : List ℕ) (delay : Option ℤ) (i : ℕ) → own_in (slice_get (map (Tells n) ids ++ handle_if_some delay n) i) ≡ None
own_none n [] None i = refl
own_none n [] (Some delay) zero = refl
own_none n [] (Some delay) (suc i) = refl
own_none n (id ∷ ids) delay zero = refl
own_none n (id ∷ ids) delay (suc i) = own_none n ids delay i

pub pending_within : (p : Parts) (m : ℕ) → is_pending p m ≡ true → m < next_future p
pending_within p m is = at (slice_get p.futures m) refl
  where
    at : (o : Option Future) → slice_get p.futures m ≡ o → m < next_future p
    at None e = absurd (false≢true (sym (ap is_pending_at e) ∙ is))
    at (Some future) e = get_within p.futures m future e

-- ---- a request that makes a future, with handles on these futures
module _ (n : ℕ) (first : Drawn) (ids : List ℕ) (delay : Option ℤ) (make : ExtraStep) (more : List ExtraStep) (l : Loop)
    (at : ℕ → Option Drawn) (tells_first : tells_in (Some first) ≡ None)
    (make_makes : (j : ℕ) → makes (is_key (the_key j)) make ≡ 0) (make_settles : SettlesAt (next_future l.parts) make)
    (makes_one : next_future (made_by make l).parts ≡ suc (next_future l.parts))
    (single : (j : ℕ) → sum_by (makes (is_key (the_key j))) (registered_from gather_part (suc n) ids ++ more) ≤ 1)
    (settles : Each (SettlesAt (next_future l.parts)) more)
    (own_first : (on : ℕ) → own_in (Some first) ≡ Some on → on ≡ next_future l.parts)
    (most : (it : Counts) → counts_in (Some first) ≡ Some it → (m : ℕ) → IsIn m it.members → m ≤ it.own)
    (telling : (it : Counts) → counts_in (Some first) ≡ Some it → (m : ℕ) → IsIn m ids → IsIn m it.members)
    (are_made : (m : ℕ) → IsIn m ids → m ≤ next_future l.parts) (alone : (on : ℕ) → Some first ≡ Some (Shields on) → length ids ≤ 1)
    (here : EntryCame at (made_by_all (make ∷ registered_from gather_part (suc n) ids ++ more) l).parts n (Some first)) where
  abbrev entries_now : List Drawn
  entries_now = first ∷ map (Tells n) ids ++ handle_if_some delay n

  abbrev all_steps : List ExtraStep
  all_steps = make ∷ registered_from gather_part (suc n) ids ++ more

  pub making_right : MoreRight n (first ∷ map (Tells n) ids ++ handle_if_some delay n) (make ∷ registered_from gather_part (suc n) ids ++ more) l at
  making_right = record {
    single = λ j.
        let a = sum_by-cons (makes (is_key (the_key j))) make (registered_from gather_part (suc n) ids ++ more) in
        let b = make_makes j in
        let c = single j in
        omega (arith, a, b, c);
    settles = (
      make_settles,
      each_append (SettlesAt (next_future l.parts)) (registered_from gather_part (suc n) ids) more
          (registered_settles (next_future l.parts) (suc n) ids) settles,
    );
    own = own;
    most = most;
    telling = tells_of;
    told = told;
    behind = behind;
    registered = registered;
    came = here;
  }
    where
      own : (i on : ℕ) → own_in (slice_get (first ∷ map (Tells n) ids ++ handle_if_some delay n) i) ≡ Some on
          → (i ≡ 0) × ((on ≡ next_future l.parts)
          × (on < next_future (made_by_all (make ∷ registered_from gather_part (suc n) ids ++ more) l).parts))
      own zero on e =
          let a = own_first on e in
          let b = (steps_stay (registered_from gather_part (suc n) ids ++ more) (made_by make l)).made in
          (refl, (a, omega (arith, a, b, makes_one)))
      own (suc i) on e = absurd (none-some on (sym (own_none n ids delay i) ∙ e))

      tells_of : (i k m : ℕ) → tells_in (slice_get (first ∷ map (Tells n) ids ++ handle_if_some delay n) i) ≡ Some (k, m)
          → (it : Counts) → counts_in (Some first) ≡ Some it → IsIn m it.members
      tells_of zero k m e it f = absurd (none-some (k, m) (sym tells_first ∙ e))
      tells_of (suc i) k m e it f = telling it f m (place_in ids i m (tells_back n ids delay i k m e))

      told : (i k m : ℕ) → tells_in (slice_get (first ∷ map (Tells n) ids ++ handle_if_some delay n) i) ≡ Some (k, m)
          → m < next_future (made_by_all (make ∷ registered_from gather_part (suc n) ids ++ more) l).parts
      told zero k m e = absurd (none-some (k, m) (sym tells_first ∙ e))
      told (suc i) k m e =
          let a = are_made m (place_in ids i m (tells_back n ids delay i k m e)) in
          let b = (steps_stay (registered_from gather_part (suc n) ids ++ more) (made_by make l)).made in
          omega (arith, a, b, makes_one)

      behind : (on i k m : ℕ) → Some first ≡ Some (Shields on) → tells_in (slice_get (first ∷ map (Tells n) ids ++ handle_if_some delay n) i) ≡ Some (k, m)
          → i ≡ 1
      behind on zero k m e f = absurd (none-some (k, m) (sym tells_first ∙ f))
      behind on (suc i) k m e f =
          let a = get_within ids i m (tells_back n ids delay i k m f) in
          let b = alone on e in
          omega (arith, a, b)

      registered : (i k m : ℕ) → tells_in (slice_get (first ∷ map (Tells n) ids ++ handle_if_some delay n) i) ≡ Some (k, m)
          → is_pending (made_by_all (make ∷ registered_from gather_part (suc n) ids ++ more) l).parts m ≡ true
          → 0 < count_by (is_key (the_key (n + i))) (callbacks_of (made_by_all (make ∷ registered_from gather_part (suc n) ids ++ more) l).parts m)
      registered zero k m e pending = absurd (none-some (k, m) (sym tells_first ∙ e))
      registered (suc i) k m e pending =
          let f = tells_back n ids delay i k m e in
          let a = are_made m (place_in ids i m f) in
          let on = registered_at_place more (suc n) ids (made_by make l) i m f (omega (arith, a, makes_one)) pending in
          let z : suc n + i ≡ n + suc i = omega arith in
          subst (λ j. 0 < count_by (is_key (the_key j)) (callbacks_of (made_by_all all_steps l).parts m)) z on

-- ---- its future is pending, where nothing settles it
pub new_pending : (make : ExtraStep) (more : List ExtraStep) (l : Loop) → next_future (made_by make l).parts ≡ suc (next_future l.parts)
    → future_outcome (made_by make l).parts (next_future l.parts) ≡ None → Each (SettlesAt (suc (next_future l.parts))) more
    → future_outcome (made_by_all (make ∷ more) l).parts (next_future l.parts) ≡ None
new_pending make more l one none settles =
    steps_others (suc (next_future l.parts)) more (made_by make l) settles (next_future l.parts) (λ e. absurd (omega (arith, e)))
    (omega (arith, one)) ∙ none

pub plain_is_new : (l : Loop) → (next_future (made_by MakesPlain l).parts ≡ suc (next_future l.parts))
    × (future_outcome (made_by MakesPlain l).parts (next_future l.parts) ≡ None)
plain_is_new l = (
  let e = length-append l.parts.futures (record { kind = Plain; outcome = None; callbacks = [] } ∷ []) in omega (arith, e),
  ap outcome_at (get-push_last l.parts.futures (record { kind = Plain; outcome = None; callbacks = [] })),
)

pub many_is_new : (members : List ℕ) (l : Loop) → (next_future (made_by (MakesMany members) l).parts ≡ suc (next_future l.parts))
    × (future_outcome (made_by (MakesMany members) l).parts (next_future l.parts) ≡ None)
many_is_new members l = (
  let e = length-append l.parts.futures (record { kind = Many members false; outcome = None; callbacks = [] } ∷ []) in omega (arith, e),
  ap outcome_at (get-push_last l.parts.futures (record { kind = Many members false; outcome = None; callbacks = [] })),
)
