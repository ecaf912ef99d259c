-- What the loop's parts in code stand for, call by call, in the form that steps of groups want.
use Rattle.std.proofs.Common.{◌≡◌, ◌-◌, ℕ, false, [], ◌∷◌, ◌++◌, Option, Some, None, length, slice_get, slice_set, refl, ap}
use Rattle.std.specs.Option.{option_map_or}
use Rattle.model_value.specs.Action.{Action}
use Rattle.model_value.specs.Value.{Outcome}
use Rattle.model_loop.specs.Cancel.{cancel}
use Rattle.model_loop.specs.Futures.{settle, register, new_plain, next_future, outcome_at, future_outcome}
use Rattle.model_loop.specs.Ledger.{Origin, request}
use Rattle.model_loop.specs.Parts.{Plain, Task, Parts, Profile}
use Rattle.model_loop.specs.Tasks.{spawn, must_still_cancel, uncancel, future_of, next_task}
use Rattle.aio_ready.specs.Queue.{soon_all}
use Rattle.aio_future.specs.Settled as settled
use Rattle.aio_future.specs.Settled.{called, registered, soon_if_done}
use Rattle.aio_task.specs.View.{View, parts}
use Rattle.aio_task.specs.Keeps.{NameMap, Keeps, Kept, Becomes}
use Rattle.refine_parts.proofs.Appending.{extends_still}
use Rattle.refine_parts.proofs.Calls as calls
use Rattle.refine_parts.proofs.Telling.{next_kept, outcome_kept, future_of_kept}

pub kept_request : (t : NameMap) (v w : View) (p : Parts) (by : Origin) (id : ℕ) → Keeps t v p
    → Becomes v w (cancel id (parts v)).parts → Kept t p w (request by id p).booked.parts
kept_request t v w p by id k becomes = calls.kept_request t v w p k by id becomes

uncancel-tag : (profile : Profile) (task : ℕ) (p : Parts) → (uncancel profile task p).next_tag ≡ p.next_tag
uncancel-tag profile task p = at (slice_get p.tasks task)
  where
    at : (o : Option Task)
        → (option_map_or (λ (t : Task). record p {
          tasks = slice_set p.tasks task (record t { cancels = t.cancels - 1; must_cancel = must_still_cancel profile t });
        }) o p).next_tag
        ≡ p.next_tag
    at None = refl
    at (Some t) = refl

pub kept_uncancel : (t : NameMap) (v w : View) (p : Parts) (profile : Profile) (task : ℕ) → Keeps t v p
    → Becomes v w (uncancel profile task (parts v)) → Kept t p w (uncancel profile task p)
kept_uncancel t v w p profile task k becomes = record {
  name_map = t;
  keeps = calls.keeps_uncancel t v w p k profile task becomes;
  extends = extends_still t p (uncancel profile task p) (uncancel-tag profile task p);
}

pub kept_settle : (t : NameMap) (v : View) (p : Parts) (id : ℕ) (outcome : Outcome) → Keeps t v p
    → Kept t p
    (record v {
      futures = settled.settled id outcome v.futures;
      queue = soon_all (called id v.futures) v.queue;
    })
    (settle id outcome p)
kept_settle t v p id outcome k = calls.kept_settle t v p k id outcome

pub kept_register : (t : NameMap) (v : View) (p : Parts) (id : ℕ) (action : Action) → Keeps t v p
    → Kept t p
    (record v {
      futures = registered id action v.futures;
      queue = soon_if_done id action v.futures v.queue;
    })
    (register id action p)
kept_register t v p id action k = calls.kept_register t v p k id action

pub kept_spawn : (t : NameMap) (v w : View) (p : Parts) → Keeps t v p → Becomes v w (spawn (parts v)) → Kept t p w (spawn p)
kept_spawn t v w p k becomes = calls.kept_spawn t v w p k becomes

pub kept_new_plain : (t : NameMap) (v : View) (p : Parts) → Keeps t v p
    → Keeps t (record v { futures = v.futures ++ record { kind = Plain; outcome = None; callbacks = [] } ∷ [] }) (new_plain p)
kept_new_plain t v p k = calls.keeps_plain t v p k

pub futures_made : (t : NameMap) (v : View) (p : Parts) → Keeps t v p → length v.futures ≡ next_future p
futures_made t v p k = next_kept t v p k

pub tasks_made : (t : NameMap) (v : View) (p : Parts) → Keeps t v p → length v.tasks ≡ next_task p
tasks_made t v p k = ap length k.tasks

pub kept_outcome : (t : NameMap) (v : View) (p : Parts) (id : ℕ) → Keeps t v p → t.gone id ≡ false
    → outcome_at (slice_get v.futures id) ≡ future_outcome p id
kept_outcome t v p id k there = outcome_kept t v p k id there

pub kept_future_of : (t : NameMap) (v : View) (p : Parts) (task : ℕ) → Keeps t v p → future_of (parts v) task ≡ future_of p task
kept_future_of t v p task k = future_of_kept t v p k task
