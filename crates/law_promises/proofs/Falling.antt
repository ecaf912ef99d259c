-- Where must_cancel falls: at the beginning of its task's step, at the task's return, and at a wait for what was cancelled.
use Rattle.std.proofs.Common.{◌≡◌, ℕ, Bool, Err, List, None, Ok, Option, Result, Some, ap, arith, cond, false, inl, inr, refl, slice_get, subst, sym, true}
use Rattle.std.proofs.Common.{nat_lt, ◌+◌, ◌==◌, ◌∙◌, ◌⊎◌, [], ◌∷◌}
use Rattle.model_loop.specs.Suspend.{cancel_wait, suspend, wait_on}
use Rattle.model_loop.specs.Tasks.{begin_step, cancelled_error, cancelling_input, change_task, finish, future_of, is_cancelled, must_cancel_of, lives}
use Rattle.model_loop.specs.Tasks.{set_waiter}
use Rattle.model_loop.specs.Tasks.{cancelling, uncancel, clear_must_cancel}
use Rattle.std.specs.List.{count_by}
use Rattle.std.proofs.lemmas.Bool.{cases_eq, eq-eqb, false≢true}
use Rattle.law_cancel.proofs.SuspendCases.{suspend_unless}
use Rattle.law_cancel.proofs.Effects.{change_task-futures, done_as, register-tasks, settle-futures, settle-tasks}
use Rattle.model_value.specs.declared.outcome.Outcome.TheVariants.{Value as Returned, Failed, Cancelled}
use Rattle.model_value.specs.Action.{Action, CycleKind}
use Rattle.model_value.specs.declared.input.Input.TheVariants.{Send, Throw}
use Rattle.model_value.specs.Value.{Exc, Outcome, Value}
use Rattle.law_cancel.proofs.Lookups.{get-set_same}
use Rattle.model_value.specs.declared.action.Action.TheVariants.{Wakeup}
use Rattle.std.specs.Option.{option_map_or}
use Rattle.model_loop.specs.Cycles.{cycle}
use Rattle.law_steps.proofs.Ending.{pending_there}
use Rattle.model_loop.specs.Balance.{lowers}
use Rattle.model_loop.specs.Ledger.{ByScript, Took}
use Rattle.model_loop.specs.Parts.{Future, Parts, Profile, One, Two, Task}
use Rattle.model_loop.specs.Futures.{future_outcome, is_pending, outcome_at, register, settle}
use Rattle.law_promises.proofs.TakingBack.{IsLast, uncancel_keeps}
use Rattle.law_promises.proofs.Reaching.{cancel_keeps_must_cancel}
use Rattle.model_loop.specs.Cancel.{cancel}
use Rattle.model_loop.specs.Owning.{OwnsFutures}
use Rattle.law_cancel.proofs.Counting.{change_task-kept}
use Rattle.law_changes.proofs.Balancing.{uncancel_balances}
use Rattle.law_changes.proofs.Counting.{count-cons as count_cons}
use Rattle.law_steps.proofs.Waiting.{IsWaiting, task_there, wait_effect}
use Rattle.law_steps.proofs.Stepping.{at_task}
use Rattle.model_value.specs.Input.{Input}

abbrev must_cancel_at : Option Task → Bool
must_cancel_at o = option_map_or (λ (t : Task). t.must_cancel) o false

-- must_cancel of another task stays
other_must_cancel : (id : ℕ) (change : Task → Task) (p : Parts) (task : ℕ) → (id ≡ task → ⊥)
    → must_cancel_of (change_task id change p) task ≡ must_cancel_of p task
other_must_cancel id change p task n = at_task must_cancel_at id change p task n

waiting_must_cancel : (id : ℕ) (waiter : Option ℕ) (p : Parts) (task : ℕ) → must_cancel_of (set_waiter id waiter p) task ≡ must_cancel_of p task
waiting_must_cancel id waiter p task = change_task-kept must_cancel_at id _ p (λ t. refl) task

same_must_cancel_at : (p q : Parts) → q.tasks ≡ p.tasks → (task : ℕ) → must_cancel_of q task ≡ must_cancel_of p task
same_must_cancel_at p q ts task = ap (λ (l : List Task). must_cancel_at (slice_get l task)) ts

-- ---- the beginning of a step
pub cancels_input : (input : Input) → (fault : Exc) × (cancelling_input input ≡ Throw fault) × (is_cancelled fault ≡ true)
cancels_input (Send value) = (cancelled_error, refl, refl)
cancels_input (Throw fault) = at (is_cancelled fault) refl
  where
    at : (b : Bool) → is_cancelled fault ≡ b
        → (it : Exc) × (◌≡◌ {A = Input} (cond b (Throw fault) (Throw cancelled_error)) (Throw it)) × (is_cancelled it ≡ true)
    at true e = (fault, refl, e)
    at false e = (cancelled_error, refl, refl)

pub begin_falls : (id : ℕ) (input : Input) (p : Parts) (task : ℕ) → must_cancel_of p task ≡ true
    → must_cancel_of (begin_step id input p).parts task ≡ false
    → (id ≡ task) × (fault : Exc) × ((begin_step id input p).input ≡ Throw fault) × (is_cancelled fault ≡ true)
begin_falls id input p task m f = go (cases_eq id task)
  where
    go : (id ≡ task) ⊎ (id ≡ task → ⊥)
        → (id ≡ task) × (fault : Exc) × ((begin_step id input p).input ≡ Throw fault) × (is_cancelled fault ≡ true)
    go (inl same) =
        let mine : must_cancel_of p id ≡ true = subst (λ t. must_cancel_of p t ≡ true) (sym same) m in
        let c = cancels_input input in
        (same, c.0, ap (λ b. cond b (cancelling_input input) input) mine ∙ c.1, c.2)
    go (inr n) =
        absurd (false≢true (sym f ∙ other_must_cancel id _ (set_waiter id None p) task n ∙ waiting_must_cancel id None p task ∙ m))

-- ---- an outcome and a callback leave must_cancel
settle_must_cancel : (id : ℕ) (outcome : Outcome) (p : Parts) (task : ℕ) → must_cancel_of (settle id outcome p) task ≡ must_cancel_of p task
settle_must_cancel id outcome p = same_must_cancel_at p (settle id outcome p) (settle-tasks id outcome p)

-- ---- the end of a task
pub finish_falls : (id : ℕ) (end : Result Value Exc) (p : Parts) (task : ℕ) → lives p id ≡ true → must_cancel_of p task ≡ true
    → must_cancel_of (finish id end p) task ≡ false
    → (id ≡ task) × (future_outcome (finish id end p) (future_of p id) ≡ Some Cancelled)
finish_falls id (Err fault) p task l m f =
    absurd (false≢true (sym f ∙ settle_must_cancel (future_of p id) _ p task ∙ m))
finish_falls id (Ok value) p task l m f = go (cases_eq id task)
  where
    go : (id ≡ task) ⊎ (id ≡ task → ⊥) → (id ≡ task) × (future_outcome (finish id (Ok value) p) (future_of p id) ≡ Some Cancelled)
    go (inl same) =
        let mine : must_cancel_of p id ≡ true = subst (λ t. must_cancel_of p t ≡ true) (sym same) m in
        let fs : (clear_must_cancel id p).futures ≡ p.futures = change_task-futures id _ p in
        let t = pending_there p (future_of p id) l in (
          same,
          ap (λ b. future_outcome (settle (future_of p id) (cond b Cancelled (Returned value)) (clear_must_cancel id p)) (future_of p id)) mine
              ∙ ap (λ (l : List Future). outcome_at (slice_get l (future_of p id)))
              (settle-futures (future_of p id) Cancelled (clear_must_cancel id p) t.future (ap (λ (l : List Future). slice_get l (future_of p id)) fs ∙ t.there)
              t.pending)
              ∙ ap outcome_at (get-set_same (clear_must_cancel id p).futures (future_of p id) t.future (done_as Cancelled t.future)
              (ap (λ (l : List Future). slice_get l (future_of p id)) fs ∙ t.there)),
        )
    go (inr n) =
        absurd (false≢true (sym f ∙ settle_must_cancel (future_of p id) _ (clear_must_cancel id p) task ∙ other_must_cancel id _ p task n ∙ m))

-- a task that raises another exception first ends failed
pub failure_first : (id : ℕ) (fault : Exc) (p : Parts) → lives p id ≡ true → is_cancelled fault ≡ false
    → future_outcome (finish id (Err fault) p) (future_of p id) ≡ Some (Failed fault)
failure_first id fault p l c =
    let t = pending_there p (future_of p id) l in
    ap (λ b. future_outcome (settle (future_of p id) (cond b Cancelled (Failed fault)) p) (future_of p id)) c
    ∙ ap (λ (l : List Future). outcome_at (slice_get l (future_of p id))) (settle-futures (future_of p id) (Failed fault) p t.future t.there t.pending)
    ∙ ap outcome_at (get-set_same p.futures (future_of p id) t.future (done_as (Failed fault) t.future) t.there)

-- ---- a wait
pub wait_must_cancel : (id on : ℕ) (p : Parts) (task : ℕ) → must_cancel_of (wait_on id on p) task ≡ must_cancel_of p task
wait_must_cancel id on p task =
    waiting_must_cancel id (Some on) (register on (Wakeup id) p) task ∙ same_must_cancel_at p (register on (Wakeup id) p) (register-tasks on (Wakeup id) p) task

pub suspend_falls : (id on : ℕ) (p : Parts) → OwnsFutures p → is_pending p on ≡ true → lives p id ≡ true → (task : ℕ) → must_cancel_of p task ≡ true
    → must_cancel_of (suspend id on p).parts task ≡ false → (id ≡ task) × ((cancel on (wait_on id on p)).answer ≡ true)
suspend_falls id on p owns here living task m f = at (cycle p id on) f
  where
    w : IsWaiting id on p (wait_on id on p)
    w = let u = task_there p id living in let g = pending_there p on here in wait_effect id on p u.0 g.future u.1 g.there g.pending

    owns_still : OwnsFutures (wait_on id on p)
    owns_still j t =
        (λ h. w.owned t ∙ (owns j t).0 (sym (w.owners j) ∙ h), λ h. w.owners j ∙ (owns j t).1 (sym (w.owned t) ∙ h))

    asked : must_cancel_of (cancel on (wait_on id on p)).parts task ≡ true
    asked = cancel_keeps_must_cancel on (wait_on id on p) owns_still task (wait_must_cancel id on p task ∙ m)

    answered : (b : Bool) → (cancel on (wait_on id on p)).answer ≡ b
        → must_cancel_of (cond b (clear_must_cancel id (cancel on (wait_on id on p)).parts) (cancel on (wait_on id on p)).parts) task ≡ false
        → (id ≡ task) × ((cancel on (wait_on id on p)).answer ≡ true)
    answered false e x = absurd (false≢true (sym x ∙ asked))
    answered true e x = go (cases_eq id task)
      where
        go : (id ≡ task) ⊎ (id ≡ task → ⊥) → (id ≡ task) × ((cancel on (wait_on id on p)).answer ≡ true)
        go (inl same) = (same, e)
        go (inr n) = absurd (false≢true (sym x ∙ other_must_cancel id _ (cancel on (wait_on id on p)).parts task n ∙ asked))

    must_cancel : (b : Bool) → must_cancel_of (cancel_wait b id on (wait_on id on p)).parts task ≡ false
        → (id ≡ task) × ((cancel on (wait_on id on p)).answer ≡ true)
    must_cancel false x = absurd (false≢true (sym x ∙ wait_must_cancel id on p task ∙ m))
    must_cancel true x = answered (cancel on (wait_on id on p)).answer refl x

    at : (o : Option CycleKind) → must_cancel_of (suspend_unless o id on p).parts task ≡ false
        → (id ≡ task) × ((cancel on (wait_on id on p)).answer ≡ true)
    at (Some why) x = absurd (false≢true (sym x ∙ m))
    at None x = must_cancel (must_cancel_of p id) x

-- ---- an `uncancel` that takes all back
pub uncancel_falls : (profile : Profile) (id : ℕ) (p : Parts) (task : ℕ) → must_cancel_of p task ≡ true
    → must_cancel_of (uncancel profile id p) task ≡ false → (profile ≡ Two) × (id ≡ task) × (cancelling p task ≡ 1)
    × (cancelling (uncancel profile id p) task ≡ 0)
uncancel_falls profile id p task m f = at (uncancel_keeps profile id p task m)
  where
    own : count_by (lowers task) (Took task (ByScript 0) true ∷ []) ≡ 1
    own =
        let c = count_cons (lowers task) (Took task (ByScript 0) true) [] in
        let e : ◌≡◌ {A = ℕ} (cond (task == task) 1 0) 1 = ap (λ b. cond b 1 0) (eq-eqb task task refl) in
        omega (arith, c, e)

    at : (must_cancel_of (uncancel profile id p) task ≡ true) ⊎ IsLast profile id task p
        → (profile ≡ Two) × (id ≡ task) × (cancelling p task ≡ 1) × (cancelling (uncancel profile id p) task ≡ 0)
    at (inl kept) = absurd (false≢true (sym f ∙ kept))
    at (inr it) =
        let one = it.1.1 in
        let balance : cancelling (uncancel profile id p) task + count_by (lowers task) (Took id (ByScript 0) (nat_lt 0 (cancelling p id)) ∷ [])
        ≡ cancelling p task + 0 =
        uncancel_balances profile (ByScript 0) id p task in
        let lowered : count_by (lowers task) (Took id (ByScript 0) (nat_lt 0 (cancelling p id)) ∷ []) ≡ 1 =
        ap (λ (k : ℕ). count_by (lowers task) (Took k (ByScript 0) (nat_lt 0 (cancelling p k)) ∷ [])) it.1.0
        ∙ ap (λ (n : ℕ). count_by (lowers task) (Took task (ByScript 0) (nat_lt 0 n) ∷ [])) one
        ∙ own in
        (it.0, it.1.0, one, omega (arith, one, balance, lowered))

-- ---- nothing else makes one fall
pub others_keep : (task : ℕ) → (p : Parts) → must_cancel_of p task ≡ true
    → ((id : ℕ) (outcome : Outcome) → must_cancel_of (settle id outcome p) task ≡ true)
    × ((id : ℕ) (action : Action) → must_cancel_of (register id action p) task ≡ true)
    × ((id : ℕ) → must_cancel_of (uncancel One id p) task ≡ true)
others_keep task p m = (
  λ id outcome. settle_must_cancel id outcome p task ∙ m,
  λ id action. same_must_cancel_at p (register id action p) (register-tasks id action p) task ∙ m,
  λ id. change_task-kept must_cancel_at id _ p (λ t. refl) task ∙ m,
)
