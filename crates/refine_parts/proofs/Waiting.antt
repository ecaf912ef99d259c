-- Only the task that suspends waits for anything new.
use Rattle.std.proofs.Common.{◌≡◌, ℕ, ◌⊎◌, Bool, true, false, List, [], ◌∷◌, ◌++◌, Option, Some, None, Result, Ok, Err, length, slice_get, slice_set, refl, ap}
use Rattle.std.proofs.Common.{sym, ◌∙◌, inl, inr, if◌then◌else◌}
use Rattle.std.specs.Option.{option_map_or}
use Rattle.std.proofs.lemmas.Bool.{cases_eq}
use Rattle.std.proofs.lemmas.Option.{none-some, same_Some}
use Rattle.model_value.specs.Action.{Action, CycleKind}
use Rattle.model_value.specs.declared.action.Action.TheVariants.{Wakeup}
use Rattle.model_value.specs.declared.outcome.Outcome.TheVariants.{Cancelled}
use Rattle.model_value.specs.Input.{Input}
use Rattle.model_value.specs.Value.{Outcome, Value, Exc}
use Rattle.model_loop.specs.Parts.{Task, Parts, Profile}
use Rattle.model_loop.specs.Futures.{settle, register, next_future}
use Rattle.model_loop.specs.Tasks.{waiter_of, change_task, spawn, set_waiter, clear_must_cancel, must_cancel_of, begin_step, finish, uncancel, future_of, lives}
use Rattle.model_loop.specs.Cancel.{cancel}
use Rattle.model_loop.specs.Cycles.{cycle}
use Rattle.model_loop.specs.Ledger.{Origin, request_where, request_each}
use Rattle.model_loop.specs.Suspend.{wait_on, cancel_wait, suspend}
use Rattle.law_cancel.proofs.SuspendCases.{suspend_unless}
use Rattle.law_cancel.proofs.Counting.{change_task-kept}
use Rattle.law_cancel.proofs.Effects.{settle-tasks, mark_asked-tasks, register-tasks}
use Rattle.law_cancel.proofs.Lookups.{get-set_same, get-set_other, get-push_last, get-push_other}
use Rattle.law_cancel.proofs.Trace.{Goes, begins, settles, asks, raises, sets_must_cancel, with_row}
use Rattle.refine_parts.specs.Waits.{WaitedBefore}

abbrev waits_at : Option Task → Option ℕ
waits_at o = option_map_or (λ (it : Task). it.waiter) o None

before_on : (p q r : Parts) → WaitedBefore p q → WaitedBefore q r → WaitedBefore p r
before_on p q r a b = record { before = λ task on e. a.before task on (b.before task on e) }

before_same : (p q : Parts) → q.tasks ≡ p.tasks → WaitedBefore p q
before_same p q e = record {
  before = λ task on w. sym (ap (λ (ts : List Task). waits_at (slice_get ts task)) e) ∙ w;
}

before_change : (id : ℕ) (change : Task → Task) (p : Parts) → ((it : Task) → (change it).waiter ≡ it.waiter)
    → WaitedBefore p (change_task id change p)
before_change id change p same = record { before = λ task on w. sym (change_task-kept waits_at id change p same task) ∙ w }

before_itself : (p : Parts) → WaitedBefore p p
before_itself p = record { before = λ task on w. w }

pub before_settle : (id : ℕ) (outcome : Outcome) (p : Parts) → WaitedBefore p (settle id outcome p)
before_settle id outcome p = before_same p (settle id outcome p) (settle-tasks id outcome p)

pub before_register : (id : ℕ) (action : Action) (p : Parts) → WaitedBefore p (register id action p)
before_register id action p = before_same p (register id action p) (register-tasks id action p)

pub before_uncancel : (profile : Profile) (task : ℕ) (p : Parts) → WaitedBefore p (uncancel profile task p)
before_uncancel profile task p = before_change task _ p (λ it. refl)

pub before_spawn : (p : Parts) → WaitedBefore p (spawn p)
before_spawn p = record {
  before = λ task on w.
      go (record { future = next_future p; waiter = None; cancels = 0; must_cancel = false }) refl task on (cases_eq task (length p.tasks)) w;
}
  where
    go : (new : Task) → new.waiter ≡ None → (task on : ℕ) → (task ≡ length p.tasks) ⊎ (task ≡ length p.tasks → ⊥)
        → waits_at (slice_get (p.tasks ++ new ∷ []) task) ≡ Some on → waits_at (slice_get p.tasks task) ≡ Some on
    go new none task on (inl e) w =
        let last : waits_at (slice_get (p.tasks ++ new ∷ []) task) ≡ None =
        ap (λ n. waits_at (slice_get (p.tasks ++ new ∷ []) n)) e ∙ ap waits_at (get-push_last p.tasks new) ∙ none in
        absurd (none-some on (sym last ∙ w))
    go new none task on (inr n) w = sym (ap waits_at (get-push_other p.tasks new task n)) ∙ w

before_goes : {s : List ℕ} {p : Parts} {t : List ℕ} {q : Parts} → Goes s p t q → WaitedBefore p q
before_goes {p = p} begins = before_itself p
before_goes {p = p} (settles {q = q} g id future e o k) = before_on p q _ (before_goes g) (before_settle id Cancelled q)
before_goes {p = p} (asks {q = q} g id future members asked e o k) =
    before_on p q _ (before_goes g) (before_same q _ (mark_asked-tasks id q))
before_goes {p = p} (raises {q = q} g id task n e) = before_on p q _ (before_goes g) (before_change id _ q (λ it. refl))
before_goes {p = p} (sets_must_cancel {q = q} g id) = before_on p q _ (before_goes g) (before_change id _ q (λ it. refl))

pub before_cancel : (id : ℕ) (p : Parts) → WaitedBefore p (cancel id p).parts
before_cancel id p = before_goes (with_row id [] p)

pub before_each : (by : Origin) (tasks : List ℕ) (p : Parts) → WaitedBefore p (request_each by tasks p).parts
before_each by [] p = before_itself p
before_each by (first ∷ tasks) p =
    let one = (request_where (lives p first) by (future_of p first) p).parts in
    before_on p one _ (where_of (lives p first)) (before_each by tasks one)
  where
    where_of : (b : Bool) → WaitedBefore p (request_where b by (future_of p first) p).parts
    where_of true = before_cancel (future_of p first) p
    where_of false = before_itself p

-- ---- steps
-- the task waits for this, and each other one for what it did
set_at : (id : ℕ) (waiter : Option ℕ) (p : Parts) (task on : ℕ) → waiter_of (set_waiter id waiter p) task ≡ Some on
    → (waiter_of p task ≡ Some on) ⊎ ((task ≡ id) × (waiter ≡ Some on))
set_at id waiter p task on = at (slice_get p.tasks id) refl
  where
    at : (o : Option Task) → slice_get p.tasks id ≡ o
        → waits_at (slice_get (option_map_or (λ (it : Task). record p { tasks = slice_set p.tasks id (record it { waiter = waiter }) }) o p).tasks task)
        ≡ Some on
        → (waiter_of p task ≡ Some on) ⊎ ((task ≡ id) × (waiter ≡ Some on))
    at None e w = inl w
    at (Some it) e w = there (record it { waiter = waiter }) refl it e w (cases_eq id task)
      where
        there : (now : Task) → now.waiter ≡ waiter → (it : Task) → slice_get p.tasks id ≡ Some it
            → waits_at (slice_get (slice_set p.tasks id now) task) ≡ Some on → (id ≡ task) ⊎ (id ≡ task → ⊥)
            → (waiter_of p task ≡ Some on) ⊎ ((task ≡ id) × (waiter ≡ Some on))
        there now is it e w (inl s) =
            let got : waits_at (slice_get (slice_set p.tasks id now) task) ≡ waiter =
            ap (λ n. waits_at (slice_get (slice_set p.tasks id now) n)) (sym s) ∙ ap waits_at (get-set_same p.tasks id it now e) ∙ is in
            inr (sym s, sym got ∙ w)
        there now is it e w (inr n) = inl (sym (ap waits_at (get-set_other p.tasks id task now n)) ∙ w)

pub before_begin : (task : ℕ) (input : Input) (p : Parts) → WaitedBefore p (begin_step task input p).parts
before_begin task input p =
    let last = before_change task (λ (it : Task). record it { must_cancel = false }) (set_waiter task None p) (λ it. refl) in
    record { before = λ other on w. go other on (set_at task None p other on (last.before other on w)) }
  where
    go : (other on : ℕ) → (waiter_of p other ≡ Some on) ⊎ ((other ≡ task) × (None ≡ Some on)) → waiter_of p other ≡ Some on
    go other on (inl w) = w
    go other on (inr x) = absurd (none-some on x.1)

pub before_finish : (task : ℕ) (end : Result Value Exc) (p : Parts) → WaitedBefore p (finish task end p)
before_finish task (Ok value) p = before_on p (clear_must_cancel task p) _ (before_change task _ p (λ it. refl)) (before_settle _ _ (clear_must_cancel task p))
before_finish task (Err fault) p = before_settle _ _ p

-- a wait of a task for a future
abbrev WaitsOn : ℕ → ℕ → Parts → Parts → Type 0
WaitsOn task on p q =
    (other it : ℕ) → waiter_of q other ≡ Some it → (waiter_of p other ≡ Some it) ⊎ ((other ≡ task) × (it ≡ on))

waits_wait : (task on : ℕ) (p : Parts) → WaitsOn task on p (wait_on task on p)
waits_wait task on p = λ other it w. go other it (set_at task (Some on) (register on (Wakeup task) p) other it w)
  where
    go : (other it : ℕ) → (waiter_of (register on (Wakeup task) p) other ≡ Some it) ⊎ ((other ≡ task) × (Some on ≡ Some it))
        → (waiter_of p other ≡ Some it) ⊎ ((other ≡ task) × (it ≡ on))
    go other it (inl w) = inl ((before_register on (Wakeup task) p).before other it w)
    go other it (inr x) = inr (x.0, sym (same_Some on it x.1))

before_cancel_wait : (must_cancel : Bool) (task on : ℕ) (p : Parts) → WaitedBefore p (cancel_wait must_cancel task on p).parts
before_cancel_wait false task on p = before_itself p
before_cancel_wait true task on p = at (cancel on p).answer
  where
    at : (b : Bool) → WaitedBefore p (if b then clear_must_cancel task (cancel on p).parts else (cancel on p).parts)
    at true = before_on p (cancel on p).parts _ (before_cancel on p) (before_change task _ (cancel on p).parts (λ it. refl))
    at false = before_cancel on p

pub waits_suspend : (task on : ℕ) (p : Parts) → WaitsOn task on p (suspend task on p).parts
waits_suspend task on p = at (cycle p task on)
  where
    at : (o : Option CycleKind) → WaitsOn task on p (suspend_unless o task on p).parts
    at (Some why) = λ other it w. inl w
    at None = λ other it w.
        waits_wait task on p other it ((before_cancel_wait (must_cancel_of p task) task on (wait_on task on p)).before other it w)
