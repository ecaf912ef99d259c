-- Forgetting released futures commutes with the steps of tasks.
use Rattle.std.proofs.Common.{◌≡◌, ℕ, zero, suc, ◌+◌, Bool, true, false, ◌||◌, cond, List, [], ◌∷◌, ◌++◌, Option, Some, None, length, slice_get, refl, ap, sym}
use Rattle.std.proofs.Common.{◌∙◌, arith, if◌then◌else◌, Result, Ok, Err}
use Rattle.std.specs.Prelude.{◌==◌}
use Rattle.std.specs.List.{list_any}
use Rattle.std.specs.Option.{option_map, option_map_or}
use Rattle.model_value.specs.Action.{Action, CycleKind}
use Rattle.model_value.specs.declared.action.Action.TheVariants.{Wakeup}
use Rattle.model_value.specs.declared.outcome.Outcome.TheVariants.{Cancelled, Value as Returned, Failed}
use Rattle.model_value.specs.Value.{Outcome, Value, Exc}
use Rattle.model_loop.specs.Parts.{FutureKind, Plain, OfTask, Many, Future, Task, Parts}
use Rattle.model_loop.specs.Handles.{soon}
use Rattle.model_loop.specs.Futures.{settle, register, make_future, next_future}
use Rattle.model_loop.specs.Tasks.{change_task, spawn, next_task, future_of, set_waiter, clear_must_cancel, must_cancel_of, is_cancelled, finish}
use Rattle.model_loop.specs.Cancel.{cancel}
use Rattle.model_loop.specs.Cycles.{passes, leads_within, leads, cycle}
use Rattle.model_loop.specs.Suspend.{wait_on, cancel_wait, suspend}
use Rattle.model_loop.proofs.FutureCases.{registered, registered_on}
use Rattle.law_cancel.proofs.SuspendCases.{suspend_unless}
use Rattle.law_cancel.proofs.PassCases.{passes_at, passes_until}
use Rattle.law_cancel.proofs.Lookups.{get-set_kept}
use Rattle.law_cancel.proofs.Effects.{change_task-futures}
use Rattle.algorithm_parts.specs.Quiet.{stage_of, stage}
use Rattle.algorithm_parts.specs.Released.{released, release_from, with_released, AreDone}
use Rattle.algorithm_parts.proofs.ReleasedLemmas.{with_released_at, with-kept, change-release, settle-release, cancel-release}

module _ (gone : ℕ → Bool) where
  -- ---- callbacks
  pub register-release : (id : ℕ) (action : Action) (p : Parts) → AreDone gone p
      → register id action (with_released gone p) ≡ with_released gone (register id action p)
  register-release id action p done =
      ap (λ o. registered o id action (with_released gone p)) (with_released_at gone p id) ∙ go (slice_get p.futures id) (gone id) refl (done id)
    where
      until : (future : Future) (o : Option Outcome) → gone id ≡ false
          → registered_on o id future action (with_released gone p) ≡ with_released gone (registered_on o id future action p)
      until future (Some x) g = refl
      until future None g = with-kept gone id (record future { callbacks = future.callbacks ++ action ∷ [] }) p g

      over : (future : Future) (o : Option Outcome) (k : FutureKind) → stage_of o k ≡ None
          → soon action (with_released gone p) ≡ with_released gone (registered_on o id future action p)
      over future (Some x) k e = refl
      over future None k e = absurd (cc)

      go : (o : Option Future) (b : Bool) → gone id ≡ b → (b ≡ true → stage o ≡ None)
          → registered (option_map (λ (f : Future). cond b released f) o) id action (with_released gone p)
          ≡ with_released gone (registered o id action p)
      go None b g d = refl
      go (Some future) true g d = over future future.outcome future.kind (d refl)
      go (Some future) false g d = until future future.outcome g

  -- ---- new futures
  length-release : (n : ℕ) (fs : List Future) → length (release_from gone n fs) ≡ length fs
  length-release n [] = refl
  length-release n (f ∷ fs) = ap suc (length-release (suc n) fs)

  push-release : (n : ℕ) (fs : List Future) (f : Future) → gone (n + length fs) ≡ false
      → release_from gone n (fs ++ f ∷ []) ≡ release_from gone n fs ++ f ∷ []
  push-release n [] f g = let e : n + 0 ≡ n = omega arith in let h : gone n ≡ false = ap gone (sym e) ∙ g in rw h refl
  push-release n (x ∷ fs) f g =
      let e : n + suc (length fs) ≡ suc n + length fs = omega arith in
      ap (λ ys. cond (gone n) released x ∷ ys) (push-release (suc n) fs f (ap gone (sym e) ∙ g))

  next_kept : (p : Parts) → gone (next_future p) ≡ false → gone (0 + length p.futures) ≡ false
  next_kept p g = let e : 0 + length p.futures ≡ length p.futures = omega arith in ap gone e ∙ g

  pub make-release : (kind : FutureKind) (p : Parts) → gone (next_future p) ≡ false
      → make_future kind (with_released gone p) ≡ with_released gone (make_future kind p)
  make-release kind p g =
      ap (λ fs. record p { futures = fs })
      (sym (push-release 0 p.futures (record { kind = kind; outcome = None; callbacks = [] }) (next_kept p g)))

  pub spawn-release : (p : Parts) → gone (next_future p) ≡ false → spawn (with_released gone p) ≡ with_released gone (spawn p)
  spawn-release p g =
      rw (
        push-release 0 p.futures (record { kind = OfTask (next_task p); outcome = None; callbacks = [] }) (next_kept p g),
        length-release 0 p.futures,
      ) refl

  future_of-release : (p : Parts) (task : ℕ) → future_of (with_released gone p) task ≡ future_of p task
  future_of-release p task =
      ap (λ n. option_map_or (λ (it : Task). it.future) (slice_get p.tasks task) n) (length-release 0 p.futures)

  -- ---- the search for a cycle
  passes-release : (p : Parts) → AreDone gone p → (id : ℕ) → passes (with_released gone p) id ≡ passes p id
  passes-release p done id =
      ap (λ o. passes_at o id (with_released gone p)) (with_released_at gone p id) ∙ go (slice_get p.futures id) (gone id) (done id)
    where
      until : (o : Option Outcome) (k : FutureKind) → passes_until o k id (with_released gone p) ≡ passes_until o k id p
      until (Some outcome) k = refl
      until None Plain = refl
      until None (OfTask task) = refl
      until None (Many members asked) = refl

      over : (o : Option Outcome) (k : FutureKind) → stage_of o k ≡ None → [] ≡ passes_until o k id p
      over (Some outcome) k e = refl
      over None k e = absurd (cc)

      go : (o : Option Future) (b : Bool) → (b ≡ true → stage o ≡ None)
          → passes_at (option_map (λ (f : Future). cond b released f) o) id (with_released gone p) ≡ passes_at o id p
      go None b d = refl
      go (Some future) true d = over future.outcome future.kind (d refl)
      go (Some future) false d = until future.outcome future.kind

  any_same : (f g : ℕ → Bool) → ((x : ℕ) → f x ≡ g x) → (xs : List ℕ) → list_any f xs ≡ list_any g xs
  any_same f g same [] = refl
  any_same f g same (x ∷ xs) = rw (same x, any_same f g same xs) refl

  leads_within-release : (p : Parts) → AreDone gone p → (count from to : ℕ)
      → leads_within count (with_released gone p) from to ≡ leads_within count p from to
  leads_within-release p done zero from to = refl
  leads_within-release p done (suc count) from to =
      ap (list_any (λ next. (next == to) || leads_within count (with_released gone p) next to)) (passes-release p done from)
      ∙ any_same (λ next. (next == to) || leads_within count (with_released gone p) next to)
      (λ next. (next == to) || leads_within count p next to)
      (λ next. ap (λ b. (next == to) || b) (leads_within-release p done count next to)) (passes p from)

  leads-release : (p : Parts) → AreDone gone p → (from to : ℕ) → leads (with_released gone p) from to ≡ leads p from to
  leads-release p done from to =
      ap (λ n. leads_within n (with_released gone p) from to) (length-release 0 p.futures)
      ∙ leads_within-release p done (length p.futures) from to

  pub cycle-release : (p : Parts) → AreDone gone p → (task on : ℕ) → cycle (with_released gone p) task on ≡ cycle p task on
  cycle-release p done task on =
      let e = future_of-release p task in
      let l : leads (with_released gone p) on (future_of (with_released gone p) task) ≡ leads p on (future_of p task) =
      ap (leads (with_released gone p) on) e ∙ leads-release p done on (future_of p task) in
      rw (l, e) refl

  -- ---- the released stay done
  done_change : (id : ℕ) (change : Task → Task) (p : Parts) → AreDone gone p → AreDone gone (change_task id change p)
  done_change id change p done = λ j g.
      ap (λ (fs : List Future). stage (slice_get fs j)) (change_task-futures id change p) ∙ done j g

  done_register : (id : ℕ) (action : Action) (p : Parts) → AreDone gone p → AreDone gone (register id action p)
  done_register id action p done = λ j g. at (slice_get p.futures id) refl j ∙ done j g
    where
      until : (future : Future) → slice_get p.futures id ≡ Some future → (o : Option Outcome) (j : ℕ)
          → stage (slice_get (registered_on o id future action p).futures j) ≡ stage (slice_get p.futures j)
      until future e (Some x) j = refl
      until future e None j =
          get-set_kept stage p.futures id j future (record future { callbacks = future.callbacks ++ action ∷ [] }) e refl

      at : (o : Option Future) → slice_get p.futures id ≡ o → (j : ℕ)
          → stage (slice_get (registered o id action p).futures j) ≡ stage (slice_get p.futures j)
      at None e j = refl
      at (Some future) e j = until future e future.outcome j

  -- ---- the ends of a step
  wait-release : (task on : ℕ) (p : Parts) → AreDone gone p → wait_on task on (with_released gone p) ≡ with_released gone (wait_on task on p)
  wait-release task on p done =
      ap (set_waiter task (Some on)) (register-release on (Wakeup task) p done) ∙ change-release gone task _ (register on (Wakeup task) p)

  pub suspend-release : (task on : ℕ) (p : Parts) → AreDone gone p
      → suspend task on (with_released gone p)
      ≡ record { parts = with_released gone (suspend task on p).parts; entries = (suspend task on p).entries }
  suspend-release task on p done =
      ap (λ c. suspend_unless c task on (with_released gone p)) (cycle-release p done task on) ∙ go (cycle p task on)
    where
      done_q : AreDone gone (wait_on task on p)
      done_q = done_change task _ (register on (Wakeup task) p) (done_register on (Wakeup task) p done)

      answered : (b : Bool) (r : Parts)
          → (if b then clear_must_cancel task (with_released gone r) else with_released gone r) ≡ with_released gone (if b then clear_must_cancel task r else r)
      answered true r = change-release gone task _ r
      answered false r = refl

      waited : (b : Bool)
          → cancel_wait b task on (with_released gone (wait_on task on p))
          ≡ record {
            parts = with_released gone (cancel_wait b task on (wait_on task on p)).parts;
            entries = (cancel_wait b task on (wait_on task on p)).entries;
          }
      waited false = refl
      waited true =
          let r = cancel on (wait_on task on p) in
          rw (cancel-release gone on (wait_on task on p) done_q, answered r.answer r.parts) refl

      go : (c : Option CycleKind)
          → suspend_unless c task on (with_released gone p)
          ≡ record {
            parts = with_released gone (suspend_unless c task on p).parts;
            entries = (suspend_unless c task on p).entries;
          }
      go (Some c) = refl
      go None = ap (cancel_wait (must_cancel_of p task) task on) (wait-release task on p done) ∙ waited (must_cancel_of p task)

  pub finish-release : (task : ℕ) (end : Result Value Exc) (p : Parts) → AreDone gone p
      → finish task end (with_released gone p) ≡ with_released gone (finish task end p)
  finish-release task (Ok value) p done =
      let outcome : Outcome = if must_cancel_of p task then Cancelled else Returned value in
      ap (λ id. settle id outcome (clear_must_cancel task (with_released gone p))) (future_of-release p task)
      ∙ ap (settle (future_of p task) outcome) (change-release gone task _ p)
      ∙ settle-release gone (future_of p task) outcome (clear_must_cancel task p) (done_change task _ p done)
  finish-release task (Err fault) p done =
      let outcome : Outcome = if is_cancelled fault then Cancelled else Failed fault in
      ap (λ id. settle id outcome (with_released gone p)) (future_of-release p task)
      ∙ settle-release gone (future_of p task) outcome p done
