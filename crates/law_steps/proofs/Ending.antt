-- The ends of a step keep the parts sound: a return, an exception, a bare yield.
use Rattle.std.proofs.Common.{◌≡◌, ℕ, ◌+◌, ◌⊎◌, true, false, cond, not, ◌&&◌, Option, Some, None, is_none, slice_get, refl, subst, ◌∙◌, inl, inr, arith, Err}
use Rattle.std.proofs.Common.{Ok, Result, ◌<◌}
use Rattle.std.proofs.lemmas.Bool.{cases_eq, cases_Bool, false≢true, eq-eqb, ne_eqb}
use Rattle.model_value.specs.declared.outcome.Outcome.TheVariants.{Value as Returned, Cancelled}
use Rattle.model_value.specs.Action.{Action}
use Rattle.model_value.specs.declared.action.Action.TheVariants.{Step, Wakeup}
use Rattle.model_value.specs.Value.{Value, Exc, Outcome}
use Rattle.model_loop.specs.Parts.{Future, Parts}
use Rattle.model_loop.specs.Handles.{soon}
use Rattle.model_loop.specs.Futures.{is_pending, is_pending_at, settle}
use Rattle.model_loop.specs.Tasks.{lives, future_of, must_cancel_of, clear_must_cancel, pause, finish, waiter_of}
use Rattle.model_loop.specs.Ways.{one_if, steps, steps_among, is_running, ways, wanted, resumes, wakes}
use Rattle.model_loop.specs.MustCancel.{MayKeepMustCancel}
use Rattle.model_loop.specs.Sound.{ArePartsSound}
use Rattle.law_steps.proofs.Settling.{soon-where, settle_effect}
use Rattle.law_steps.proofs.Looks.{future_of-same, spent-futures, change_looks_same}
use Rattle.law_steps.proofs.Stepping.{steps_one, running_is, clear_must_cancel_sound, finished_sound, resumes_steps}
use Rattle.model_loop.specs.Totals.{pending_where}

-- a pending future, out of the test
pub record IsThere (p : Parts) (id : ℕ) : Type 0 where
  pub future : Future
  pub there : slice_get p.futures id ≡ Some future
  pub pending : future.outcome ≡ None

pub pending_there : (p : Parts) (id : ℕ) → is_pending p id ≡ true → IsThere p id
pending_there p id h = at (slice_get p.futures id) refl h
  where
    none : (o : Option Outcome) → is_none o ≡ true → o ≡ None
    none None h = refl
    none (Some outcome) h = absurd (false≢true h)

    at : (o : Option Future) → slice_get p.futures id ≡ o → is_pending_at o ≡ true → IsThere p id
    at None e h = absurd (false≢true h)
    at (Some future) e h = record { future = future; there = e; pending = none future.outcome h }

settle_own_sound : (task : ℕ) (outcome : Outcome) (p : Parts) → ArePartsSound (Some task) (Some task) p
    → ArePartsSound None None (settle (future_of p task) outcome p)
settle_own_sound task outcome p is =
    let t = pending_there p (future_of p task) (is.runs task (eq-eqb task task refl)) in
    finished_sound task p _ (settle_effect (future_of p task) outcome p t.future t.there t.pending) is

-- a return or an exception ends the task
pub finish_sound : (task : ℕ) (end : Result Value Exc) (p : Parts) → ArePartsSound (Some task) (Some task) p
    → ArePartsSound None None (finish task end p)
finish_sound task (Err fault) p is = settle_own_sound task _ p is
finish_sound task (Ok value) p is =
    let s = change_looks_same task _ p (λ t. refl) (λ t. refl) in
    subst (λ id. ArePartsSound None None (settle id (cond (must_cancel_of p task) Cancelled (Returned value)) (clear_must_cancel task p)))
    (future_of-same p (clear_must_cancel task p) s.made task (s.owned task))
    (settle_own_sound task (cond (must_cancel_of p task) Cancelled (Returned value)) (clear_must_cancel task p)
    (clear_must_cancel_sound (Some task) (Some task) task p is))

-- the running task will be stepped
pub soon_step_sound : (task : ℕ) (action : Action) (p : Parts) → resumes task action ≡ true
    → ArePartsSound (Some task) (Some task) p → ArePartsSound None None (soon action p)
soon_step_sound task action p resumed is = record {
  owns = is.owns;
  settled = is.settled;
  callbacks = is.callbacks;
  free = λ other r. absurd (false≢true r);
  ready = record {
    free = λ other h. free other h (cases_eq task other);
    woken = λ other h.
        let a : pending_where (wakes other) (soon action p).pending ≡ pending_where (wakes other) p.pending + 0 =
        soon-where (wakes other) action p ∙ rw (wakes_none action resumed other) refl in
        is.ready.woken other (omega (arith, a, h));
  };
  runs = λ other r. absurd (false≢true r);
  waits_made = is.waits_made;
  one_way = record {
    one = λ other. one other (cases_eq task other);
    on_waiter = is.one_way.on_waiter;
    stays = is.one_way.stays;
  };
  must_cancel = λ other l m. may other (cases_eq task other) (is.must_cancel other l m);
}
  where
    mine : steps task action ≡ true
    mine = resumes_steps task action resumed

    wakes_none : (a : Action) → resumes task a ≡ true → (other : ℕ) → wakes other a ≡ false
    wakes_none (Wakeup t) r other = absurd (false≢true r)
    wakes_none _ r other = refl

    resumes_none : (other : ℕ) → (task ≡ other → ⊥) → resumes other action ≡ false
    resumes_none other n = go (cases_Bool (resumes other action))
      where
        go : (resumes other action ≡ true) ⊎ (resumes other action ≡ false) → resumes other action ≡ false
        go (inl x) = absurd (n (steps_one action task other mine (resumes_steps other action x)))
        go (inr x) = x

    free : (other : ℕ) → 0 < pending_where (resumes other) (soon action p).pending → (task ≡ other) ⊎ (task ≡ other → ⊥)
        → waiter_of p other ≡ None
    free other h (inl same) = is.free other (eq-eqb task other same)
    free other h (inr n) =
        let a : pending_where (resumes other) (soon action p).pending ≡ pending_where (resumes other) p.pending + 0 =
        soon-where (resumes other) action p ∙ rw (resumes_none other n) refl in
        is.ready.free other (omega (arith, a, h))

    one : (other : ℕ) → (task ≡ other) ⊎ (task ≡ other → ⊥) → ways (soon action p) other ≡ wanted None (soon action p) other
    one other (inl same) =
        let s : steps other action ≡ true = subst (λ t. steps t action ≡ true) same mine in
        let r : is_running (Some task) other ≡ true = eq-eqb task other same in
        let l : lives p other ≡ true = is.runs other r in
        let a : steps_among other (soon action p).pending ≡ steps_among other p.pending + 1 = soon-where (steps other) action p ∙ rw s refl in
        let o : ways p other ≡ 0 = is.one_way.one other ∙ rw (l, r) refl in
        let w : wanted None (soon action p) other ≡ 1 = rw l refl in
        omega (arith, a, o, w)
    one other (inr n) = go (cases_Bool (steps other action))
      where
        go : (steps other action ≡ true) ⊎ (steps other action ≡ false) → ways (soon action p) other ≡ wanted None (soon action p) other
        go (inl s) = absurd (n (steps_one action task other mine s))
        go (inr s) =
            let a : steps_among other (soon action p).pending ≡ steps_among other p.pending + 0 = soon-where (steps other) action p ∙ rw s refl in
            let o : ways p other ≡ one_if (lives p other && not (is_running (Some task) other)) = is.one_way.one other in
            let w : one_if (lives p other && not (is_running (Some task) other)) ≡ wanted None (soon action p) other = rw (ne_eqb task other n) refl in
            omega (arith, a, o, w)

    may : (other : ℕ) → (task ≡ other) ⊎ (task ≡ other → ⊥) → MayKeepMustCancel (Some task) p other → MayKeepMustCancel None (soon action p) other
    may other (inl same) h =
        let a : steps_among other (soon action p).pending ≡ steps_among other p.pending + 1 = soon-where (steps other) action p
        ∙ rw (subst (λ t. steps t action ≡ true) same mine) refl in
        inr (inl (omega (arith, a)))
    may other (inr n) (inl r) = absurd (n (running_is task other r))
    may other (inr n) (inr (inl h)) = let a = soon-where (steps other) action p in inr (inl (omega (arith, a, h)))
    may other (inr n) (inr (inr w)) = inr (inr (w.0, w.1, w.2, spent-futures p (soon action p) refl w.0 w.3))

pub pause_sound : (task : ℕ) (p : Parts) → ArePartsSound (Some task) (Some task) p → ArePartsSound None None (pause task p)
pause_sound task p is = soon_step_sound task (Step task) p (eq-eqb task task refl) is
