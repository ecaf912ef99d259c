-- The ways on, counted over all futures as the theorem states them, follow.
use Rattle.std.proofs.Common.{◌≡◌, ℕ, zero, suc, ◌+◌, Bool, true, false, not, ◌&&◌, List, [], ◌∷◌, Option, Some, None, slice_get, refl, ap, sym, ◌∙◌, arith}
use Rattle.std.proofs.lemmas.Option.{none-some, same_Some}
use Rattle.std.proofs.lemmas.List.Sums.{sum_by-cons}
use Rattle.std.specs.List.{count_by, sum_by}
use Rattle.model_value.specs.Action.{Action}
use Rattle.model_loop.specs.Parts.{Timer, Future, Parts}
use Rattle.model_loop.specs.Tasks.{lives, waiter_of}
use Rattle.model_loop.specs.Ways.{one_if, steps, steps_among, wakeups_on, wakeups, ways_on, is_running, HasOneWayOn, ways}
use Rattle.model_loop.specs.Totals.{callbacks_at, registered_at}
use Rattle.model_loop.specs.Sound.{ArePartsSound}

abbrev count_at : (Action → Bool) → List Future → ℕ → ℕ
count_at test futures on = count_by test (callbacks_at (slice_get futures on))

abbrev sum_of : (Action → Bool) → List Future → ℕ
sum_of test futures = sum_by (λ (future : Future). count_by test future.callbacks) futures

cons : (test : Action → Bool) (f : Future) (fs : List Future) → sum_of test (f ∷ fs) ≡ count_by test f.callbacks + sum_of test fs
cons test f fs = sum_by-cons (λ (future : Future). count_by test future.callbacks) f fs

none_sum : (test : Action → Bool) (futures : List Future) → ((on : ℕ) → count_at test futures on ≡ 0) → sum_of test futures ≡ 0
none_sum test [] none = refl
none_sum test (f ∷ fs) none =
    let a = none 0 in
    let b = none_sum test fs (λ on. none (suc on)) in
    let c = cons test f fs in
    omega (arith, a, b, c)

-- callbacks that stand at one place alone are those at that place
one_sum : (test : Action → Bool) (futures : List Future) (home : ℕ) → ((on : ℕ) → (home ≡ on → ⊥) → count_at test futures on ≡ 0)
    → sum_of test futures ≡ count_at test futures home
one_sum test [] home none = refl
one_sum test (f ∷ fs) zero none =
    let b = none_sum test fs (λ on. none (suc on) (λ e. absurd (omega (arith, e)))) in
    let c = cons test f fs in
    omega (arith, b, c)
one_sum test (f ∷ fs) (suc home) none =
    let a = none 0 (λ e. absurd (omega (arith, e))) in
    let b = one_sum test fs home (λ on n. none (suc on) (λ e. n (omega (arith, e)))) in
    let c = cons test f fs in
    omega (arith, a, b, c)

module _ (running : Option ℕ) (p : Parts) (is : ArePartsSound running running p) where
  away : (task on : ℕ) → (waiter_of p task ≡ Some on → ⊥) → wakeups_on p task on ≡ 0
  away task on n = go (wakeups_on p task on) refl
    where
      go : (k : ℕ) → wakeups_on p task on ≡ k → wakeups_on p task on ≡ 0
      go zero e = e
      go (suc k) e = absurd (n (is.one_way.on_waiter task on (omega (arith, e))))

  same : (task : ℕ) → ways_on p task ≡ ways p task
  same task = go (waiter_of p task) refl ∙ refl
    where
      go : (o : Option ℕ) → waiter_of p task ≡ o → ways_on p task ≡ ways p task
      go None e =
          let s : wakeups p task ≡ 0 = none_sum (steps task) p.futures (λ on. away task on (λ x. none-some on (sym e ∙ x))) in
          let w : ways p task ≡ steps_among task p.pending + 0 = ap (λ o. steps_among task p.pending + registered_at p (steps task) o) e in
          omega (arith, s, w)
      go (Some home) e =
          let s : wakeups p task ≡ wakeups_on p task home =
          one_sum (steps task) p.futures home (λ on n. away task on (λ x. n (same_Some home on (sym e ∙ x)))) in
          let w : ways p task ≡ steps_among task p.pending + wakeups_on p task home =
          ap (λ o. steps_among task p.pending + registered_at p (steps task) o) e in
          omega (arith, s, w)

  counted : (task : ℕ) → ways_on p task ≡ one_if (lives p task && not (is_running running task))
  counted task = same task ∙ is.one_way.one task

  off : (b : Bool) → one_if (b && false) ≡ 0
  off true = refl
  off false = refl

  pub one_way_on : ((task : ℕ) → count_by (λ (timer : Timer). steps task timer.action) p.timers ≡ 0) → HasOneWayOn running p
  one_way_on timers = record {
    living = λ task l r. counted task ∙ rw (l, r) refl;
    in_step = λ task r. counted task ∙ rw r (off (lives p task));
    done = λ task d. counted task ∙ rw d refl;
    on_waiter = is.one_way.on_waiter;
    stays = is.one_way.stays;
    timers = timers;
  }
