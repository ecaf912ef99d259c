-- The steps of tasks commute with seeing the parts bare.
use Rattle.std.proofs.Common.{◌≡◌, ℕ, zero, suc, Bool, true, false, ◌||◌, List, [], ◌∷◌, Option, Some, None, length, slice_get, refl, ap}
use Rattle.std.proofs.Common.{◌∙◌, if◌then◌else◌, Result, Ok, Err}
use Rattle.std.proofs.lemmas.List.{length-map}
use Rattle.std.specs.Prelude.{◌==◌}
use Rattle.std.specs.List.{list_any}
use Rattle.std.specs.Option.{option_map, option_map_or}
use Rattle.model_value.specs.Action.{CycleKind}
use Rattle.model_value.specs.Input.{Input}
use Rattle.model_value.specs.declared.action.Action.TheVariants.{Step, StepInCycle, Wakeup}
use Rattle.model_value.specs.declared.outcome.Outcome.TheVariants.{Cancelled, Value as Returned, Failed}
use Rattle.model_value.specs.Value.{Outcome, Value, Exc}
use Rattle.model_loop.specs.Parts.{FutureKind, Plain, OfTask, Many, Future, Task, Parts}
use Rattle.model_loop.specs.Futures.{settle, register}
use Rattle.model_loop.specs.Tasks.{future_of, set_waiter, clear_must_cancel, must_cancel_of, is_cancelled, finish, begin_step, pause}
use Rattle.model_loop.specs.Cancel.{cancel}
use Rattle.model_loop.specs.Cycles.{passes, leads_within, leads, cycle}
use Rattle.model_loop.specs.Suspend.{wait_on, cancel_wait, suspend}
use Rattle.law_cancel.proofs.SuspendCases.{suspend_unless}
use Rattle.law_cancel.proofs.PassCases.{passes_at, passes_until}
use Rattle.aio_task.specs.Bare.{bare_future, bare}
use Rattle.aio_task.proofs.BareLemmas.{bare_at, soon-bare, register-bare, change-bare, settle-bare, cancel-bare}

pub future_of-bare : (p : Parts) (task : ℕ) → future_of (bare p) task ≡ future_of p task
future_of-bare p task =
    ap (λ n. option_map_or (λ (it : Task). it.future) (slice_get p.tasks task) n) (length-map p.futures bare_future)

-- ---- the search for a cycle
pub passes-bare : (p : Parts) (id : ℕ) → passes (bare p) id ≡ passes p id
passes-bare p id = ap (λ o. passes_at o id (bare p)) (bare_at p id) ∙ at (slice_get p.futures id)
  where
    until : (o : Option Outcome) (k : FutureKind) → passes_until o k id (bare p) ≡ passes_until o k id p
    until (Some outcome) k = refl
    until None Plain = refl
    until None (OfTask task) = refl
    until None (Many members asked) = refl

    at : (o : Option Future) → passes_at (option_map bare_future o) id (bare p) ≡ passes_at o id p
    at None = refl
    at (Some future) = until future.outcome future.kind

any_same : (f g : ℕ → Bool) → ((x : ℕ) → f x ≡ g x) → (xs : List ℕ) → list_any f xs ≡ list_any g xs
any_same f g same [] = refl
any_same f g same (x ∷ xs) = rw (same x, any_same f g same xs) refl

leads_within-bare : (p : Parts) (count from to : ℕ) → leads_within count (bare p) from to ≡ leads_within count p from to
leads_within-bare p zero from to = refl
leads_within-bare p (suc count) from to =
    ap (list_any (λ next. (next == to) || leads_within count (bare p) next to)) (passes-bare p from)
    ∙ any_same (λ next. (next == to) || leads_within count (bare p) next to)
    (λ next. (next == to) || leads_within count p next to)
    (λ next. ap (λ b. (next == to) || b) (leads_within-bare p count next to)) (passes p from)

leads-bare : (p : Parts) (from to : ℕ) → leads (bare p) from to ≡ leads p from to
leads-bare p from to =
    ap (λ n. leads_within n (bare p) from to) (length-map p.futures bare_future)
    ∙ leads_within-bare p (length p.futures) from to

pub cycle-bare : (p : Parts) (task on : ℕ) → cycle (bare p) task on ≡ cycle p task on
cycle-bare p task on =
    let e = future_of-bare p task in
    let l : leads (bare p) on (future_of (bare p) task) ≡ leads p on (future_of p task) =
    ap (leads (bare p) on) e ∙ leads-bare p on (future_of p task) in
    rw (l, e) refl

-- ---- steps
pub begin-bare : (task : ℕ) (input : Input) (p : Parts)
    → (begin_step task input (bare p)).parts ≡ bare (begin_step task input p).parts
begin-bare task input p =
    ap (clear_must_cancel task) (change-bare task _ p) ∙ change-bare task _ (set_waiter task None p)

pub pause-bare : (task : ℕ) (p : Parts) → pause task (bare p) ≡ bare (pause task p)
pause-bare task p = soon-bare (Step task) p

pub wait-bare : (task on : ℕ) (p : Parts) → wait_on task on (bare p) ≡ bare (wait_on task on p)
wait-bare task on p =
    ap (set_waiter task (Some on)) (register-bare on (Wakeup task) p) ∙ change-bare task _ (register on (Wakeup task) p)

pub suspend-bare : (task on : ℕ) (p : Parts) → (suspend task on (bare p)).parts ≡ bare (suspend task on p).parts
suspend-bare task on p =
    ap (λ c. (suspend_unless c task on (bare p)).parts) (cycle-bare p task on) ∙ go (cycle p task on)
  where
    answered : (b : Bool) (r : Parts) → (if b then clear_must_cancel task (bare r) else bare r) ≡ bare (if b then clear_must_cancel task r else r)
    answered true r = change-bare task _ r
    answered false r = refl

    waited : (b : Bool) → (cancel_wait b task on (bare (wait_on task on p))).parts ≡ bare (cancel_wait b task on (wait_on task on p)).parts
    waited false = refl
    waited true = let r = cancel on (wait_on task on p) in rw (cancel-bare on (wait_on task on p), answered r.answer r.parts) refl

    go : (c : Option CycleKind) → (suspend_unless c task on (bare p)).parts ≡ bare (suspend_unless c task on p).parts
    go (Some c) = soon-bare (StepInCycle task c) p
    go None = ap (λ q. (cancel_wait (must_cancel_of p task) task on q).parts) (wait-bare task on p) ∙ waited (must_cancel_of p task)

pub finish-bare : (task : ℕ) (end : Result Value Exc) (p : Parts) → finish task end (bare p) ≡ bare (finish task end p)
finish-bare task (Ok value) p =
    let outcome : Outcome = if must_cancel_of p task then Cancelled else Returned value in
    ap (λ id. settle id outcome (clear_must_cancel task (bare p))) (future_of-bare p task)
    ∙ ap (settle (future_of p task) outcome) (change-bare task _ p) ∙ settle-bare (future_of p task) outcome (clear_must_cancel task p)
finish-bare task (Err fault) p =
    let outcome : Outcome = if is_cancelled fault then Cancelled else Failed fault in
    ap (λ id. settle id outcome (bare p)) (future_of-bare p task) ∙ settle-bare (future_of p task) outcome p
