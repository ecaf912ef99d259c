-- What happens to the parts does not depend on what steps no task: it commutes with seeing them bare.
use Rattle.std.proofs.Common.{◌≡◌, ℕ, zero, suc, ◌+◌, false, List, [], ◌∷◌, ◌++◌, Option, Some, None, length, map, slice_get, slice_set, refl, ap}
use Rattle.std.proofs.Common.{sym, ◌∙◌}
use Rattle.std.proofs.lemmas.Option.{slice_get-map}
use Rattle.std.proofs.lemmas.List.{map-append, length-map}
use Rattle.std.specs.Option.{option_map, option_map_or}
use Rattle.model_value.specs.Action.{Action}
use Rattle.model_value.specs.declared.action.Action.TheVariants.{Step}
use Rattle.model_value.specs.declared.outcome.Outcome.TheVariants.{Cancelled}
use Rattle.model_value.specs.Value.{Outcome}
use Rattle.model_loop.specs.Parts.{FutureKind, OfTask, Future, Task, Handle, Parts}
use Rattle.model_loop.specs.Handles.{soon, soon_all}
use Rattle.model_loop.specs.Futures.{with_future, settle, register, mark_asked, make_future}
use Rattle.model_loop.specs.Tasks.{change_task, spawn, next_task}
use Rattle.model_loop.specs.Cancel.{Canceller, cancel}
use Rattle.model_loop.proofs.FutureCases.{registered, registered_on, settled, settled_as}
use Rattle.law_cancel.proofs.CancelCases.{cancel_at}
use Rattle.law_cancel.proofs.Effects.{done_as, asked_as}
use Rattle.algorithm_parts.proofs.Commuting.{SeesRequests, changes, cancels}
use Rattle.aio_task.specs.Bare.{bare_action, bare_handle, bare_future, bare, bare_of}

-- ---- lists
set-map : {X Y : Type 0} (f : X → Y) (xs : List X) (i : ℕ) (x : X) → slice_set (map f xs) i (f x) ≡ map f (slice_set xs i x)
set-map f [] i x = refl
set-map f (y ∷ xs) zero x = refl
set-map f (y ∷ xs) (suc i) x = ap (λ ys. f y ∷ ys) (set-map f xs i x)

pub bare_at : (p : Parts) (id : ℕ) → slice_get (bare p).futures id ≡ option_map bare_future (slice_get p.futures id)
bare_at p id = slice_get-map bare_future p.futures id

pub with-bare : (id : ℕ) (f : Future) (p : Parts) → with_future id (bare_future f) (bare p) ≡ bare (with_future id f p)
with-bare id f p = ap (λ fs. record (bare p) { futures = fs }) (set-map bare_future p.futures id f)

-- ---- the queue
pub soon-bare : (action : Action) (p : Parts) → soon (bare_action action) (bare p) ≡ bare (soon action p)
soon-bare action p =
    let handle : Handle = record { stamp = p.next_stamp; tag = p.next_tag; action = action; dead = false } in
    ap (λ hs. record (bare p) { pending = hs; next_stamp = p.next_stamp + 1; next_tag = p.next_tag + 1 })
    (sym (map-append bare_handle p.pending (handle ∷ [])))

pub soon_all-bare : (actions : List Action) (p : Parts) → soon_all (map bare_action actions) (bare p) ≡ bare (soon_all actions p)
soon_all-bare [] p = refl
soon_all-bare (action ∷ actions) p =
    ap (soon_all (map bare_action actions)) (soon-bare action p) ∙ soon_all-bare actions (soon action p)

-- ---- futures and tasks
pub settle-bare : (id : ℕ) (outcome : Outcome) (p : Parts) → settle id outcome (bare p) ≡ bare (settle id outcome p)
settle-bare id outcome p = ap (λ o. settled o id outcome (bare p)) (bare_at p id) ∙ at (slice_get p.futures id)
  where
    until : (future : Future) (o : Option Outcome)
        → settled_as o id (bare_future future) outcome (bare p) ≡ bare (settled_as o id future outcome p)
    until future (Some done) = refl
    until future None =
        ap (soon_all (map bare_action future.callbacks)) (with-bare id (done_as outcome future) p)
        ∙ soon_all-bare future.callbacks (with_future id (done_as outcome future) p)

    at : (o : Option Future) → settled (option_map bare_future o) id outcome (bare p) ≡ bare (settled o id outcome p)
    at None = refl
    at (Some future) = until future future.outcome

pub register-bare : (id : ℕ) (action : Action) (p : Parts)
    → register id (bare_action action) (bare p) ≡ bare (register id action p)
register-bare id action p =
    ap (λ o. registered o id (bare_action action) (bare p)) (bare_at p id) ∙ at (slice_get p.futures id)
  where
    until : (future : Future) (o : Option Outcome)
        → registered_on o id (bare_future future) (bare_action action) (bare p) ≡ bare (registered_on o id future action p)
    until future (Some done) = soon-bare action p
    until future None =
        ap (λ cs. with_future id (record future { callbacks = cs }) (bare p))
        (sym (map-append bare_action future.callbacks (action ∷ [])))
        ∙ with-bare id (record future { callbacks = future.callbacks ++ action ∷ [] }) p

    at : (o : Option Future)
        → registered (option_map bare_future o) id (bare_action action) (bare p) ≡ bare (registered o id action p)
    at None = refl
    at (Some future) = until future future.outcome

pub ask-bare : (id : ℕ) (p : Parts) → mark_asked id (bare p) ≡ bare (mark_asked id p)
ask-bare id p =
    ap (λ o. option_map_or (λ (f : Future). with_future id (asked_as f) (bare p)) o (bare p)) (bare_at p id)
    ∙ at (slice_get p.futures id)
  where
    at : (o : Option Future)
        → option_map_or (λ (f : Future). with_future id (asked_as f) (bare p)) (option_map bare_future o) (bare p)
        ≡ bare (option_map_or (λ (f : Future). with_future id (asked_as f) p) o p)
    at None = refl
    at (Some future) = with-bare id (asked_as future) p

-- ---- what is made
pub make-bare : (kind : FutureKind) (p : Parts) → make_future kind (bare p) ≡ bare (make_future kind p)
make-bare kind p =
    let future : Future = record { kind = kind; outcome = None; callbacks = [] } in
    ap (λ fs. record (bare p) { futures = fs }) (sym (map-append bare_future p.futures (future ∷ [])))

pub spawn-bare : (p : Parts) → spawn (bare p) ≡ bare (spawn p)
spawn-bare p =
    let task : Task = record { future = length p.futures; waiter = None; cancels = 0; must_cancel = false } in
    ap (λ n. soon (Step (next_task p)) (record (make_future (OfTask (next_task p)) (bare p)) {
      tasks = p.tasks ++ record { future = n; waiter = None; cancels = 0; must_cancel = false } ∷ [];
    })) (length-map p.futures bare_future)
    ∙ ap (λ q. soon (Step (next_task p)) (record q { tasks = p.tasks ++ task ∷ [] })) (make-bare (OfTask (next_task p)) p)
    ∙ soon-bare (Step (next_task p)) (record (make_future (OfTask (next_task p)) p) { tasks = p.tasks ++ task ∷ [] })

-- ---- a request
future-bare : (F V : Canceller) (id : ℕ) (s : List ℕ) (p q : Parts) → Unit {0}
    → cancel_at F V (slice_get (bare p).futures id) id s q ≡ cancel_at F V (slice_get p.futures id) id s q
future-bare F V id s p q good = ap (λ o. cancel_at F V o id s q) (bare_at p id) ∙ at (slice_get p.futures id)
  where
    at : (o : Option Future) → cancel_at F V (option_map bare_future o) id s q ≡ cancel_at F V o id s q
    at None = refl
    at (Some future) = refl

sees : SeesRequests bare (λ (p : Parts). Unit {0})
sees = record {
  goes = λ s p t q g good. good;
  raised = λ task p good. good;
  tasks = λ p. refl;
  put = λ tasks p. refl;
  future = future-bare;
  settles = λ id p good. settle-bare id Cancelled p;
  asks = ask-bare;
}

pub change-bare : (id : ℕ) (change : Task → Task) (p : Parts) → change_task id change (bare p) ≡ bare (change_task id change p)
change-bare = changes bare (λ (p : Parts). Unit {0}) sees

pub cancel-bare : (id : ℕ) (p : Parts) → cancel id (bare p) ≡ bare_of (cancel id p)
cancel-bare id p = cancels bare (λ (p : Parts). Unit {0}) sees id p tt
