-- What is so of all wait_fors, between calls: their timers' handles, the tasks that stand at them, and what the ledger says.
use Rattle.std.proofs.Common.{◌≡◌, ◌<◌, ◌≤◌, ◌+◌, ◌⊎◌, inl, inr, ℕ, suc, Bool, true, false, List, Option, Some, None, refl, sym, ap, subst, ◌∙◌, arith}
use Rattle.std.specs.List.{AllByRecursion as Each, count_by}
use Rattle.std.proofs.lemmas.Bool.{cases_eq, cases_lt}
use Rattle.std.proofs.lemmas.Option.{none-some, same_Some}
use Rattle.model_loop.specs.Balance.{asks, takes}
use Rattle.model_loop.specs.Loop.{Loop}
use Rattle.model_loop.specs.Ways.{one_if}
use Rattle.model_machine.specs.Extra.{ExtraStep, made_by_all}
use Rattle.model_machine.specs.Sound.{StandsUnder}
use Rattle.model_machine.specs.State.{Generator}
use Rattle.model_reach.specs.Part.{key_at}
use Rattle.model_gather.specs.Gathered.{Expired, Expiring, Finished, Timed, TimedState, TimedWait, gather_part}
use Rattle.law_waiters.specs.Timed.{is_by_key, went_on_after, was_expiring}
use Rattle.law_waiters.proofs.Books.{BooksNot, all_asks_same, all_takes_same}
use Rattle.law_waiters.proofs.Fewer.{Fewer, StepFor, steps_fewer}
use Rattle.law_waiters.proofs.Timers.{TimerFits, timer_on}

abbrev pub the_key : ℕ → ℕ
the_key place = key_at gather_part place

-- its task hasn't gone on
abbrev pub is_waiting : TimedState → Bool
is_waiting Timed = true
is_waiting Expiring = true
is_waiting Expired = false
is_waiting Finished = false

abbrev pub asked_in : Option TimedWait → ℕ
asked_in None = 0
asked_in (Some it) = one_if (was_expiring it.state)

abbrev pub took_in : Option TimedWait → ℕ
took_in None = 0
took_in (Some it) = one_if (went_on_after it.state)

-- how often a cancel was asked for, or taken back, in the name of the request at this place
abbrev pub asks_at : Loop → ℕ → ℕ
asks_at l place = count_by (asks (is_by_key (the_key place))) l.ledger

abbrev pub takes_at : Loop → ℕ → ℕ
takes_at l place = count_by (takes (is_by_key (the_key place))) l.ledger

-- `timed` gives the wait_for at a place, and `ring` the place for which a handle rings; so many keys were drawn.
pub record Right (timed : ℕ → Option TimedWait) (ring : ℕ → Option ℕ) (drawn : ℕ) (l : Loop) (gs : List Generator) : Type 0 where
  pub fresh : (k : ℕ) → drawn ≤ k → TimerFits (the_key k) None l.parts
  pub small : (k : ℕ) → drawn ≤ k → (timed k ≡ None) × (ring k ≡ None)
  -- the handle of a timer stands right behind its request
  pub rings : (k : ℕ) (it : TimedWait) → timed k ≡ Some it → ring (suc k) ≡ Some k → TimerFits (the_key (suc k)) it.timer l.parts
  pub ringed : (other k : ℕ) (it : TimedWait) → ring other ≡ Some k → timed k ≡ Some it → other ≡ suc k
  pub back : (other k : ℕ) → ring other ≡ Some k → k < other
  pub waits : (k : ℕ) (it : TimedWait) (tag : ℕ) → timed k ≡ Some it → it.timer ≡ Some tag → it.state ≡ Timed
  pub stood : (task k : ℕ) → StandsUnder gs task (the_key k)
      → (k < drawn) × ((it : TimedWait) → timed k ≡ Some it → is_waiting it.state ≡ true)
  pub once : (task other k : ℕ) → StandsUnder gs task (the_key k) → StandsUnder gs other (the_key k) → task ≡ other
  pub asked : (k : ℕ) → asks_at l k ≡ asked_in (timed k)
  pub took : (k : ℕ) → takes_at l k ≡ took_in (timed k)

module _ {timed : ℕ → Option TimedWait} {ring : ℕ → Option ℕ} {drawn : ℕ} {l : Loop} {gs : List Generator} (r : Right timed ring drawn l gs) where
  -- ---- the loop goes on
  pub goes_right : (m : Loop) (hs : List Generator) → ((k : ℕ) → Fewer (the_key k) l.parts m.parts) → ((k : ℕ) → asks_at m k ≡ asks_at l k)
      → ((k : ℕ) → takes_at m k ≡ takes_at l k) → ((task k : ℕ) → StandsUnder hs task (the_key k) → StandsUnder gs task (the_key k))
      → Right timed ring drawn m hs
  goes_right m hs fewer asked_same took_same stands = record {
    fresh = λ k h. timer_on (the_key k) None l.parts m.parts (fewer k) (r.fresh k h);
    small = r.small;
    rings = λ k it e f. timer_on (the_key (suc k)) it.timer l.parts m.parts (fewer (suc k)) (r.rings k it e f);
    ringed = r.ringed;
    back = r.back;
    waits = r.waits;
    stood = λ task k h. r.stood task k (stands task k h);
    once = λ task other k h i. r.once task other k (stands task k h) (stands other k i);
    asked = λ k. asked_same k ∙ r.asked k;
    took = λ k. took_same k ∙ r.took k;
  }

  -- steps that make no handle of these keys, and book nothing in their names
  pub still_right : (steps : List ExtraStep) → ((k : ℕ) → Each (StepFor (the_key k)) steps) → ((k : ℕ) → Each (BooksNot (the_key k)) steps)
      → Right timed ring drawn (made_by_all steps l) gs
  still_right steps none books =
      goes_right (made_by_all steps l) gs (λ k. steps_fewer (the_key k) steps l (none k)) (λ k. all_asks_same (the_key k) steps l (books k))
      (λ k. all_takes_same (the_key k) steps l (books k)) (λ task k h. h)

  -- ---- what is kept is told anew
  pub same_right : (timed' : ℕ → Option TimedWait) (ring' : ℕ → Option ℕ) (drawn' : ℕ) → ((k : ℕ) → timed' k ≡ timed k) → ((k : ℕ) → ring' k ≡ ring k)
      → drawn' ≡ drawn → Right timed' ring' drawn' l gs
  same_right timed' ring' drawn' same rings_same size = record {
    fresh = λ k h. r.fresh k (omega (arith, h, size));
    small = λ k h. let s = r.small k (omega (arith, h, size)) in (same k ∙ s.0, rings_same k ∙ s.1);
    rings = λ k it e f. r.rings k it (sym (same k) ∙ e) (sym (rings_same (suc k)) ∙ f);
    ringed = λ other k it e f. r.ringed other k it (sym (rings_same other) ∙ e) (sym (same k) ∙ f);
    back = λ other k e. r.back other k (sym (rings_same other) ∙ e);
    waits = λ k it tag e f. r.waits k it tag (sym (same k) ∙ e) f;
    stood = λ task k h. let s = r.stood task k h in
        (let w = s.0 in omega (arith, w, size), λ it e. s.1 it (sym (same k) ∙ e));
    once = r.once;
    asked = λ k. r.asked k ∙ ap asked_in (sym (same k));
    took = λ k. r.took k ∙ ap took_in (sym (same k));
  }

  -- ---- one wait_for changes
  module _ (timed' : ℕ → Option TimedWait) (ring' : ℕ → Option ℕ) (place : ℕ) (old new : TimedWait) (m : Loop)
      (was : timed place ≡ Some old) (is : timed' place ≡ Some new) (others : (k : ℕ) → (place ≡ k → ⊥) → timed' k ≡ timed k)
      (rings_same : (k : ℕ) → ring' k ≡ ring k) (fewer : (k : ℕ) → Fewer (the_key k) l.parts m.parts)
      (timer : ring (suc place) ≡ Some place → TimerFits (the_key (suc place)) new.timer m.parts)
      (only : (tag : ℕ) → new.timer ≡ Some tag → new.state ≡ Timed)
      (stands : (task : ℕ) → StandsUnder gs task (the_key place) → is_waiting new.state ≡ true)
      (asks_others : (k : ℕ) → (place ≡ k → ⊥) → asks_at m k ≡ asks_at l k) (asks_here : asks_at m place ≡ one_if (was_expiring new.state))
      (takes_others : (k : ℕ) → (place ≡ k → ⊥) → takes_at m k ≡ takes_at l k) (takes_here : takes_at m place ≡ one_if (went_on_after new.state)) where
    -- it is this one
    it_is : (k : ℕ) (it : TimedWait) → place ≡ k → timed' k ≡ Some it → new ≡ it
    it_is k it e f = same_Some new it (sym is ∙ ap timed' e ∙ f)

    within : (k : ℕ) → drawn ≤ k → place ≡ k → ⊥
    within k h e = none-some old (sym (r.small k h).0 ∙ ap timed (sym e) ∙ was)

    pub changed_right : Right timed' ring' drawn m gs
    changed_right = record {
      fresh = λ k h. timer_on (the_key k) None l.parts m.parts (fewer k) (r.fresh k h);
      small = λ k h. let s = r.small k h in (others k (within k h) ∙ s.0, rings_same k ∙ s.1);
      rings = λ k it e f. rings k it e (sym (rings_same (suc k)) ∙ f) (cases_eq place k);
      ringed = λ other k it e f. ringed other k it (sym (rings_same other) ∙ e) f (cases_eq place k);
      back = λ other k e. r.back other k (sym (rings_same other) ∙ e);
      waits = λ k it tag e f. waits k it tag e f (cases_eq place k);
      stood = λ task k h. ((r.stood task k h).0, λ it e. stood task k it h e (cases_eq place k));
      once = r.once;
      asked = λ k. asked k (cases_eq place k);
      took = λ k. took k (cases_eq place k);
    }
      where
        rings : (k : ℕ) (it : TimedWait) → timed' k ≡ Some it → ring (suc k) ≡ Some k → (place ≡ k) ⊎ (place ≡ k → ⊥)
            → TimerFits (the_key (suc k)) it.timer m.parts
        rings k it e f (inl same) =
            subst (λ (w : TimedWait). TimerFits (the_key (suc k)) w.timer m.parts) (it_is k it same e)
            (subst (λ n. TimerFits (the_key (suc n)) new.timer m.parts) same
            (timer (ap (λ n. ring (suc n)) same ∙ f ∙ ap Some (sym same))))
        rings k it e f (inr n) =
            timer_on (the_key (suc k)) it.timer l.parts m.parts (fewer (suc k)) (r.rings k it (sym (others k n) ∙ e) f)

        ringed : (other k : ℕ) (it : TimedWait) → ring other ≡ Some k → timed' k ≡ Some it → (place ≡ k) ⊎ (place ≡ k → ⊥) → other ≡ suc k
        ringed other k it e f (inl same) = r.ringed other k old e (ap timed (sym same) ∙ was)
        ringed other k it e f (inr n) = r.ringed other k it e (sym (others k n) ∙ f)

        waits : (k : ℕ) (it : TimedWait) (tag : ℕ) → timed' k ≡ Some it → it.timer ≡ Some tag → (place ≡ k) ⊎ (place ≡ k → ⊥) → it.state ≡ Timed
        waits k it tag e f (inl same) =
            ap (λ (w : TimedWait). w.state) (sym (it_is k it same e)) ∙ only tag (ap (λ (w : TimedWait). w.timer) (it_is k it same e) ∙ f)
        waits k it tag e f (inr n) = r.waits k it tag (sym (others k n) ∙ e) f

        stood : (task k : ℕ) (it : TimedWait) → StandsUnder gs task (the_key k) → timed' k ≡ Some it → (place ≡ k) ⊎ (place ≡ k → ⊥)
            → is_waiting it.state ≡ true
        stood task k it h e (inl same) =
            ap (λ (w : TimedWait). is_waiting w.state) (sym (it_is k it same e))
            ∙ stands task (subst (λ n. StandsUnder gs task (the_key n)) (sym same) h)
        stood task k it h e (inr n) = (r.stood task k h).1 it (sym (others k n) ∙ e)

        asked : (k : ℕ) → (place ≡ k) ⊎ (place ≡ k → ⊥) → asks_at m k ≡ asked_in (timed' k)
        asked k (inl same) = ap (asks_at m) (sym same) ∙ asks_here ∙ ap asked_in (sym is ∙ ap timed' same)
        asked k (inr n) = asks_others k n ∙ r.asked k ∙ ap asked_in (sym (others k n))

        took : (k : ℕ) → (place ≡ k) ⊎ (place ≡ k → ⊥) → takes_at m k ≡ took_in (timed' k)
        took k (inl same) = ap (takes_at m) (sym same) ∙ takes_here ∙ ap took_in (sym is ∙ ap timed' same)
        took k (inr n) = takes_others k n ∙ r.took k ∙ ap took_in (sym (others k n))

  -- ---- keys are drawn
  module _ (timed' : ℕ → Option TimedWait) (ring' : ℕ → Option ℕ) (more : ℕ) (steps : List ExtraStep)
      (old : (k : ℕ) → k < drawn → (timed' k ≡ timed k) × (ring' k ≡ ring k))
      (past : (k : ℕ) → drawn + more ≤ k → (timed' k ≡ None) × (ring' k ≡ None))
      (begins : (k : ℕ) (it : TimedWait) → drawn ≤ k → timed' k ≡ Some it → (k ≡ drawn) × (it.state ≡ Timed))
      (timer : (it : TimedWait) → timed' drawn ≡ Some it → ring' (suc drawn) ≡ Some drawn
      → TimerFits (the_key (suc drawn)) it.timer (made_by_all steps l).parts)
      (rings_new : (other k : ℕ) → drawn ≤ other → ring' other ≡ Some k → (k ≡ drawn) × (drawn < other))
      (ringed_new : (other : ℕ) (it : TimedWait) → ring' other ≡ Some drawn → timed' drawn ≡ Some it → other ≡ suc drawn)
      (untouched : (k : ℕ) → (k < drawn) ⊎ (drawn + more ≤ k) → Each (StepFor (the_key k)) steps)
      (books : (k : ℕ) → Each (BooksNot (the_key k)) steps) where
    abbrev after : Loop
    after = made_by_all steps l

    fewer : (k : ℕ) → (k < drawn) ⊎ (drawn + more ≤ k) → Fewer (the_key k) l.parts after.parts
    fewer k h = steps_fewer (the_key k) steps l (untouched k h)

    pub grown_right : Right timed' ring' (drawn + more) after gs
    grown_right = record {
      fresh = λ k h. timer_on (the_key k) None l.parts after.parts (fewer k (inr h)) (r.fresh k (omega (arith, h)));
      small = past;
      rings = λ k it e f. rings k it e f (cases_lt k drawn) (cases_lt (suc k) drawn);
      ringed = λ other k it e f. ringed other k it e f (cases_lt other drawn);
      back = λ other k e. back other k e (cases_lt other drawn);
      waits = λ k it tag e f. waits k it tag e f (cases_lt k drawn);
      stood = λ task k h. let s = r.stood task k h in
          (let w = s.0 in omega (arith, w), λ it e. s.1 it (sym (old k s.0).0 ∙ e));
      once = r.once;
      asked = λ k. all_asks_same (the_key k) steps l (books k) ∙ r.asked k ∙ asked k (cases_lt k drawn);
      took = λ k. all_takes_same (the_key k) steps l (books k) ∙ r.took k ∙ took k (cases_lt k drawn);
    }
      where
        rings : (k : ℕ) (it : TimedWait) → timed' k ≡ Some it → ring' (suc k) ≡ Some k → (k < drawn) ⊎ (drawn ≤ k) → (suc k < drawn) ⊎ (drawn ≤ suc k)
            → TimerFits (the_key (suc k)) it.timer after.parts
        rings k it e f (inl h) (inl h') =
            timer_on (the_key (suc k)) it.timer l.parts after.parts (fewer (suc k) (inl h'))
            (r.rings k it (sym (old k h).0 ∙ e) (sym (old (suc k) h').1 ∙ f))
        rings k it e f (inl h) (inr h') = absurd (let w = (rings_new (suc k) k h' f).0 in omega (arith, w, h))
        rings k it e f (inr h) h' =
            let here = (begins k it h e).0 in
            subst (λ n. TimerFits (the_key (suc n)) it.timer after.parts) (sym here)
            (timer it (ap timed' (sym here) ∙ e) (ap (λ n. ring' (suc n)) (sym here) ∙ f ∙ ap Some here))

        ringed : (other k : ℕ) (it : TimedWait) → ring' other ≡ Some k → timed' k ≡ Some it → (other < drawn) ⊎ (drawn ≤ other) → other ≡ suc k
        ringed other k it e f (inl h) =
            let was = sym (old other h).1 ∙ e in
            let b = r.back other k was in
            r.ringed other k it was (sym (old k (omega (arith, b, h))).0 ∙ f)
        ringed other k it e f (inr h) =
            let here = (rings_new other k h e).0 in
            ringed_new other it (e ∙ ap Some here) (ap timed' (sym here) ∙ f) ∙ ap suc (sym here)

        back : (other k : ℕ) → ring' other ≡ Some k → (other < drawn) ⊎ (drawn ≤ other) → k < other
        back other k e (inl h) = r.back other k (sym (old other h).1 ∙ e)
        back other k e (inr h) = let n = rings_new other k h e in let a = n.0 in let b = n.1 in omega (arith, a, b)

        waits : (k : ℕ) (it : TimedWait) (tag : ℕ) → timed' k ≡ Some it → it.timer ≡ Some tag → (k < drawn) ⊎ (drawn ≤ k) → it.state ≡ Timed
        waits k it tag e f (inl h) = r.waits k it tag (sym (old k h).0 ∙ e) f
        waits k it tag e f (inr h) = (begins k it h e).1

        new_none : (k : ℕ) → drawn ≤ k → (o : Option TimedWait) → timed' k ≡ o → (asked_in o ≡ 0) × (took_in o ≡ 0)
        new_none k h None e = (refl, refl)
        new_none k h (Some it) e =
            let s = (begins k it h e).1 in (ap (λ t. one_if (was_expiring t)) s, ap (λ t. one_if (went_on_after t)) s)

        asked : (k : ℕ) → (k < drawn) ⊎ (drawn ≤ k) → asked_in (timed k) ≡ asked_in (timed' k)
        asked k (inl h) = ap asked_in (sym (old k h).0)
        asked k (inr h) = ap asked_in (r.small k h).0 ∙ sym (new_none k h (timed' k) refl).0

        took : (k : ℕ) → (k < drawn) ⊎ (drawn ≤ k) → took_in (timed k) ≡ took_in (timed' k)
        took k (inl h) = ap took_in (sym (old k h).0)
        took k (inr h) = ap took_in (r.small k h).0 ∙ sym (new_none k h (timed' k) refl).1
