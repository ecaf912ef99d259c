-- What happens to the parts does not depend on the numbers of handles.
use Rattle.std.proofs.Common.{◌≡◌, ℕ, suc, ◌+◌, false, List, [], ◌∷◌, ◌++◌, Option, Some, None, length, slice_get, refl, ap, ◌∙◌}
use Rattle.std.proofs.Common.{arith, length-append}
use Rattle.std.specs.Option.{option_map_or}
use Rattle.model_value.specs.Action.{Action}
use Rattle.model_value.specs.declared.action.Action.TheVariants.{Step}
use Rattle.model_value.specs.declared.outcome.Outcome.TheVariants.{Cancelled}
use Rattle.model_value.specs.Value.{Outcome}
use Rattle.model_loop.specs.Parts.{OfTask, Future, Task, Handle, Parts}
use Rattle.model_loop.specs.Handles.{soon, soon_all}
use Rattle.model_loop.specs.Futures.{with_future, settle, register, mark_asked, make_future}
use Rattle.model_loop.specs.Tasks.{change_task, spawn, next_task}
use Rattle.model_loop.specs.Cancel.{cancel}
use Rattle.model_loop.proofs.FutureCases.{registered, registered_on, settled, settled_as}
use Rattle.law_cancel.proofs.Effects.{done_as, asked_as}
use Rattle.algorithm_parts.specs.Placed.{placed_from, placed, placed_of}
use Rattle.algorithm_parts.proofs.Commuting.{SeesRequests, changes, cancels}

-- ---- the queue
placed-push : (place : ℕ) (handles : List Handle) (handle : Handle)
    → placed_from place (handles ++ handle ∷ [])
    ≡ placed_from place handles ++ record handle { stamp = place + length handles; tag = place + length handles } ∷ []
placed-push place [] handle = let e : place + 0 ≡ place = omega arith in rw e refl
placed-push place (h ∷ handles) handle =
    let e : suc place + length handles ≡ place + suc (length handles) = omega arith in
    ap (λ hs. record h { stamp = place; tag = place } ∷ hs) (placed-push (suc place) handles handle ∙ rw e refl)

pub soon-placed : (action : Action) (p : Parts) → soon action (placed p) ≡ placed (soon action p)
soon-placed action p =
    let handle : Handle = record { stamp = p.next_stamp; tag = p.next_tag; action = action; dead = false } in
    let e : length (p.pending ++ handle ∷ []) ≡ length p.pending + 1 = length-append p.pending (handle ∷ []) in
    let z : 0 + length p.pending ≡ length p.pending = omega arith in
    rw (placed-push 0 p.pending handle, e, z) refl

pub soon_all-placed : (actions : List Action) (p : Parts) → soon_all actions (placed p) ≡ placed (soon_all actions p)
soon_all-placed [] p = refl
soon_all-placed (action ∷ actions) p = ap (soon_all actions) (soon-placed action p) ∙ soon_all-placed actions (soon action p)

-- ---- futures and tasks
pub settle-placed : (id : ℕ) (outcome : Outcome) (p : Parts) → settle id outcome (placed p) ≡ placed (settle id outcome p)
settle-placed id outcome p = at (slice_get p.futures id)
  where
    until : (future : Future) (o : Option Outcome)
        → settled_as o id future outcome (placed p) ≡ placed (settled_as o id future outcome p)
    until future (Some done) = refl
    until future None = soon_all-placed future.callbacks (with_future id (done_as outcome future) p)

    at : (o : Option Future) → settled o id outcome (placed p) ≡ placed (settled o id outcome p)
    at None = refl
    at (Some future) = until future future.outcome

pub register-placed : (id : ℕ) (action : Action) (p : Parts) → register id action (placed p) ≡ placed (register id action p)
register-placed id action p = at (slice_get p.futures id)
  where
    until : (future : Future) (o : Option Outcome)
        → registered_on o id future action (placed p) ≡ placed (registered_on o id future action p)
    until future (Some done) = soon-placed action p
    until future None = refl

    at : (o : Option Future) → registered o id action (placed p) ≡ placed (registered o id action p)
    at None = refl
    at (Some future) = until future future.outcome

pub ask-placed : (id : ℕ) (p : Parts) → mark_asked id (placed p) ≡ placed (mark_asked id p)
ask-placed id p = at (slice_get p.futures id)
  where
    at : (o : Option Future) → option_map_or (λ (f : Future). with_future id (asked_as f) (placed p)) o (placed p)
        ≡ placed (option_map_or (λ (f : Future). with_future id (asked_as f) p) o p)
    at None = refl
    at (Some future) = refl

-- ---- a request
sees : SeesRequests placed (λ (p : Parts). Unit {0})
sees = record {
  goes = λ s p t q g good. good;
  raised = λ task p good. good;
  tasks = λ p. refl;
  put = λ tasks p. refl;
  future = λ member waiter id s p q good. refl;
  settles = λ id p good. settle-placed id Cancelled p;
  asks = ask-placed;
}

pub change-placed : (id : ℕ) (change : Task → Task) (p : Parts) → change_task id change (placed p) ≡ placed (change_task id change p)
change-placed = changes placed (λ (p : Parts). Unit {0}) sees

pub cancel-placed : (id : ℕ) (p : Parts) → cancel id (placed p) ≡ placed_of (cancel id p)
cancel-placed id p = cancels placed (λ (p : Parts). Unit {0}) sees id p tt

pub spawn-placed : (p : Parts) → spawn (placed p) ≡ placed (spawn p)
spawn-placed p =
    soon-placed (Step (next_task p))
    (record (make_future (OfTask (next_task p)) p) {
      tasks = p.tasks ++ record { future = length p.futures; waiter = None; cancels = 0; must_cancel = false } ∷ [];
    })
