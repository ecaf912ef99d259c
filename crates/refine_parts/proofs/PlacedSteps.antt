-- The ends of a step, and what begins one, do not depend on the numbers of handles.
use Rattle.std.proofs.Common.{◌≡◌, ℕ, zero, suc, Bool, true, false, ◌||◌, List, [], ◌∷◌, Option, Some, None, Result, Ok, Err, length, slice_get, refl, ap, ◌∙◌}
use Rattle.std.proofs.Common.{if◌then◌else◌}
use Rattle.std.specs.Prelude.{◌==◌}
use Rattle.std.specs.List.{list_any}
use Rattle.model_value.specs.Action.{CycleKind}
use Rattle.model_value.specs.declared.action.Action.TheVariants.{Wakeup, StepInCycle}
use Rattle.model_value.specs.declared.outcome.Outcome.TheVariants.{Cancelled, Value as Returned, Failed}
use Rattle.model_value.specs.Input.{Input}
use Rattle.model_value.specs.Value.{Outcome, Value, Exc}
use Rattle.model_loop.specs.Parts.{FutureKind, Plain, OfTask, Many, Future, Parts}
use Rattle.model_loop.specs.Futures.{settle, register}
use Rattle.model_loop.specs.Tasks.{future_of, set_waiter, clear_must_cancel, must_cancel_of, is_cancelled, begin_step, finish}
use Rattle.model_loop.specs.Cancel.{cancel}
use Rattle.model_loop.specs.Cycles.{passes, leads_within, leads, cycle}
use Rattle.model_loop.specs.Suspend.{wait_on, cancel_wait, suspend}
use Rattle.law_cancel.proofs.SuspendCases.{suspend_unless}
use Rattle.law_cancel.proofs.PassCases.{passes_at, passes_until}
use Rattle.algorithm_parts.specs.Placed.{placed}
use Rattle.algorithm_parts.proofs.PlacedLemmas.{soon-placed, settle-placed, register-placed, change-placed, cancel-placed}

pub begin-placed : (task : ℕ) (input : Input) (p : Parts) → (begin_step task input (placed p)).parts ≡ placed (begin_step task input p).parts
begin-placed task input p = ap (clear_must_cancel task) (change-placed task _ p) ∙ change-placed task _ (set_waiter task None p)

pub finish-placed : (task : ℕ) (end : Result Value Exc) (p : Parts) → finish task end (placed p) ≡ placed (finish task end p)
finish-placed task (Ok value) p =
    let outcome : Outcome = if must_cancel_of p task then Cancelled else Returned value in
    ap (settle (future_of p task) outcome) (change-placed task _ p) ∙ settle-placed (future_of p task) outcome (clear_must_cancel task p)
finish-placed task (Err fault) p = settle-placed (future_of p task) (if is_cancelled fault then Cancelled else Failed fault) p

-- ---- the search for a cycle
any_same : (f g : ℕ → Bool) → ((x : ℕ) → f x ≡ g x) → (xs : List ℕ) → list_any f xs ≡ list_any g xs
any_same f g same [] = refl
any_same f g same (x ∷ xs) = rw (same x, any_same f g same xs) refl

passes-placed : (p : Parts) (id : ℕ) → passes (placed p) id ≡ passes p id
passes-placed p id = at (slice_get p.futures id)
  where
    until : (o : Option Outcome) (kind : FutureKind) → passes_until o kind id (placed p) ≡ passes_until o kind id p
    until (Some outcome) kind = refl
    until None Plain = refl
    until None (OfTask task) = refl
    until None (Many members asked) = refl

    at : (o : Option Future) → passes_at o id (placed p) ≡ passes_at o id p
    at None = refl
    at (Some future) = until future.outcome future.kind

leads_within-placed : (p : Parts) (count from to : ℕ) → leads_within count (placed p) from to ≡ leads_within count p from to
leads_within-placed p zero from to = refl
leads_within-placed p (suc count) from to =
    ap (list_any (λ next. (next == to) || leads_within count (placed p) next to)) (passes-placed p from)
    ∙ any_same (λ next. (next == to) || leads_within count (placed p) next to) (λ next. (next == to) || leads_within count p next to)
    (λ next. ap (λ b. (next == to) || b) (leads_within-placed p count next to)) (passes p from)

pub cycle-placed : (p : Parts) (task on : ℕ) → cycle (placed p) task on ≡ cycle p task on
cycle-placed p task on =
    let l : leads (placed p) on (future_of p task) ≡ leads p on (future_of p task) =
    leads_within-placed p (length p.futures) on (future_of p task) in
    rw l refl

-- ---- a wait
wait-placed : (task on : ℕ) (p : Parts) → wait_on task on (placed p) ≡ placed (wait_on task on p)
wait-placed task on p =
    ap (set_waiter task (Some on)) (register-placed on (Wakeup task) p) ∙ change-placed task _ (register on (Wakeup task) p)

pub suspend-placed : (task on : ℕ) (p : Parts) → (suspend task on (placed p)).parts ≡ placed (suspend task on p).parts
suspend-placed task on p =
    ap (λ c. (suspend_unless c task on (placed p)).parts) (cycle-placed p task on) ∙ go (cycle p task on)
  where
    answered : (b : Bool) (r : Parts) → (if b then clear_must_cancel task (placed r) else placed r) ≡ placed (if b then clear_must_cancel task r else r)
    answered true r = change-placed task _ r
    answered false r = refl

    waited : (b : Bool) → (cancel_wait b task on (placed (wait_on task on p))).parts ≡ placed (cancel_wait b task on (wait_on task on p)).parts
    waited false = refl
    waited true =
        let r = cancel on (wait_on task on p) in
        rw (cancel-placed on (wait_on task on p), answered r.answer r.parts) refl

    go : (c : Option CycleKind) → (suspend_unless c task on (placed p)).parts ≡ placed (suspend_unless c task on p).parts
    go (Some c) = soon-placed (StepInCycle task c) p
    go None = ap (λ q. (cancel_wait (must_cancel_of p task) task on q).parts) (wait-placed task on p) ∙ waited (must_cancel_of p task)
