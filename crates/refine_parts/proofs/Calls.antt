-- Each call on queue, futures and tasks is the machine's operation.
use Rattle.std.proofs.Common.{◌≡◌, ℕ, ◌<◌, false, List, [], ◌∷◌, ◌++◌, Option, Some, None, Result, slice_get, refl, ap, sym, ◌∙◌, arith}
use Rattle.std.specs.List.{All}
use Rattle.std.specs.Option.{option_map_or}
use Rattle.std.proofs.lemmas.Bool.{false_from_ne_true}
use Rattle.model_value.specs.Action.{Action}
use Rattle.model_value.specs.Input.{Input}
use Rattle.model_value.specs.Value.{Outcome, Value, Exc}
use Rattle.model_loop.specs.Parts.{FutureKind, Plain, Many, Future, Task, Parts, Profile}
use Rattle.model_loop.specs.Futures as plain
use Rattle.model_loop.specs.Futures.{settle, register, mark_asked, make_future, new_plain, new_many, next_future}
use Rattle.model_loop.specs.Tasks.{change_task, spawn, set_waiter, begin_step, pause, finish, uncancel}
use Rattle.model_loop.specs.Cancel.{cancel}
use Rattle.model_loop.specs.Ledger.{Origin, request}
use Rattle.model_loop.specs.Suspend.{suspend}
use Rattle.model_loop.specs.Numbered.{IsNumbered}
use Rattle.model_loop.proofs.FutureCases as cases
use Rattle.law_changes.proofs.CancelNumbers.{cancel_numbers}
use Rattle.law_changes.proofs.Falling.{new_plain_numbers, new_many_numbers, spawn_numbers}
use Rattle.law_changes.proofs.Numbering.{settle_numbers, register_numbers, mark_asked_numbers, change_task_numbers}
use Rattle.law_changes.proofs.StepNumbers.{begin_step_numbers, pause_numbers, suspend_numbers, finish_numbers}
use Rattle.algorithm_parts.specs.Released.{with_released}
use Rattle.algorithm_parts.specs.Placed.{placed}
use Rattle.algorithm_parts.proofs.PlacedLemmas.{soon-placed, settle-placed, register-placed, ask-placed, spawn-placed, change-placed, cancel-placed}
use Rattle.algorithm_parts.proofs.ReleasedLemmas.{cancel-release, settle-release, ask-release, change-release}
use Rattle.algorithm_parts.proofs.ReleasedSteps.{register-release, make-release, spawn-release, suspend-release, finish-release}
use Rattle.aio_ready.specs.Queue as queue
use Rattle.aio_future.specs.Settled.{settled, called, registered, registered_at, registered_until, soon_if_done, soon_at, soon_until, asked, asked_at}
use Rattle.aio_cancel.specs.Awaitables.{Appended}
use Rattle.aio_cancel.proofs.PartsLemmas.{soon-parts, settle-parts}
use Rattle.aio_task.specs.View.{View, body, parts}
use Rattle.aio_task.specs.Keeps.{NameMap, Keeps, Kept, Becomes}
use Rattle.refine_parts.proofs.Only.{OnlyAppends, OnlyChanges, only_soon, only_settle, only_register, changes_ask, changes_make, changes_task, only_spawn}
use Rattle.refine_parts.proofs.Only.{only_cancel, changes_begin, only_finish, only_suspend}
use Rattle.refine_parts.proofs.PlacedSteps.{begin-placed, finish-placed, suspend-placed}
use Rattle.refine_parts.proofs.Becoming.{parts_kept, kept_becomes, keeps_becomes}

pub new_stays : (t : NameMap) (v : View) (p : Parts) → Keeps t v p → t.gone (next_future p) ≡ false
new_stays t v p k = false_from_ne_true (t.gone (next_future p)) (λ g. let h = k.made (next_future p) g in omega arith)

-- an operation that commutes with placing and with forgetting
becomes_by : (t : NameMap) (v w : View) (p : Parts) → Keeps t v p → (call : Parts → Parts) → ((x : Parts) → call (placed x) ≡ placed (call x))
    → call (with_released t.gone p) ≡ with_released t.gone (call p) → Becomes v w (call (parts v)) → Becomes v w (placed (with_released t.gone (call p)))
becomes_by t v w p k call place release became = record {
  parts = became.parts ∙ ap call (parts_kept t v p k) ∙ place (with_released t.gone p) ∙ ap placed release;
  queue = became.queue;
  time = became.time;
  schedule = became.schedule;
}

-- such a one that appends alone
kept_by : (t : NameMap) (v w : View) (p : Parts) → Keeps t v p → (call : Parts → Parts) → OnlyAppends p (call p) → IsNumbered (call p)
    → ((x : Parts) → call (placed x) ≡ placed (call x)) → call (with_released t.gone p) ≡ with_released t.gone (call p)
    → Becomes v w (call (parts v)) → Kept t p w (call p)
kept_by t v w p k call only numbered place release became =
    kept_becomes t v w p (call p) k only (becomes_by t v w p k call place release became) numbered

-- and one that appends nothing
keeps_by : (t : NameMap) (v w : View) (p : Parts) → Keeps t v p → (call : Parts → Parts) → OnlyChanges p (call p) → IsNumbered (call p)
    → ((x : Parts) → call (placed x) ≡ placed (call x)) → call (with_released t.gone p) ≡ with_released t.gone (call p)
    → Becomes v w (call (parts v)) → Keeps t w (call p)
keeps_by t v w p k call only numbered place release became =
    keeps_becomes t v w p (call p) k only (becomes_by t v w p k call place release became) numbered

module _ (t : NameMap) (v w : View) (p : Parts) (k : Keeps t v p) where
  pub keeps_uncancel : (profile : Profile) (task : ℕ) → Becomes v w (uncancel profile task (parts v)) → Keeps t w (uncancel profile task p)
  keeps_uncancel profile task =
      keeps_by t v w p k (uncancel profile task) (changes_task task _ p) (change_task_numbers task _ p k.numbered)
      (change-placed task _) (change-release t.gone task _ p)

  pub kept_spawn : Becomes v w (spawn (parts v)) → Kept t p w (spawn p)
  kept_spawn =
      kept_by t v w p k spawn (only_spawn p) (spawn_numbers p k.numbered) spawn-placed (spawn-release t.gone p (new_stays t v p k))

  pub keeps_begin : (task : ℕ) (input : Input) → Becomes v w (begin_step task input (parts v)).parts
      → Keeps t w (begin_step task input p).parts
  keeps_begin task input =
      keeps_by t v w p k (λ x. (begin_step task input x).parts) (changes_begin task input p) (begin_step_numbers task input p k.numbered)
      (begin-placed task input)
      (ap (change_task task (λ (it : Task). record it { must_cancel = false })) (change-release t.gone task _ p)
      ∙ change-release t.gone task _ (set_waiter task None p))

  pub kept_pause : (task : ℕ) → Becomes v w (pause task (parts v)) → Kept t p w (pause task p)
  kept_pause task =
      kept_by t v w p k (pause task) (only_soon _ p) (pause_numbers task p k.numbered) (soon-placed _) refl

  pub kept_suspend : (task on : ℕ) → Becomes v w (suspend task on (parts v)).parts → Kept t p w (suspend task on p).parts
  kept_suspend task on =
      kept_by t v w p k (λ x. (suspend task on x).parts) (only_suspend task on p) (suspend_numbers task on p k.numbered)
      (suspend-placed task on) (ap (λ b. b.parts) (suspend-release t.gone task on p k.done))

  pub kept_finish : (task : ℕ) (end : Result Value Exc) → Becomes v w (finish task end (parts v)) → Kept t p w (finish task end p)
  kept_finish task end =
      kept_by t v w p k (finish task end) (only_finish task end p) (finish_numbers task end p k.numbered)
      (finish-placed task end) (finish-release t.gone task end p k.done)

  pub kept_request : (by : Origin) (id : ℕ) → Becomes v w (cancel id (parts v)).parts → Kept t p w (request by id p).booked.parts
  kept_request by id =
      kept_by t v w p k (λ x. (cancel id x).parts) (only_cancel id p) (cancel_numbers id p k.numbered)
      (λ x. ap (λ r. r.parts) (cancel-placed id x)) (ap (λ r. r.parts) (cancel-release t.gone id p k.done))

-- ---- calls whose view is told
register-parts : (id : ℕ) (action : Action) (v : View)
    → register id action (parts v)
    ≡ parts (record v { futures = registered id action v.futures; queue = soon_if_done id action v.futures v.queue })
register-parts id action v = at (slice_get v.futures id)
  where
    until : (future : Future) (o : Option Outcome)
        → cases.registered_on o id future action (parts v)
        ≡ parts (record v { futures = registered_until o future id action v.futures; queue = soon_until o action v.queue })
    until future (Some done) = soon-parts action (body v)
    until future None = refl

    at : (o : Option Future)
        → cases.registered o id action (parts v)
        ≡ parts (record v { futures = registered_at o id action v.futures; queue = soon_at o action v.queue })
    at None = refl
    at (Some future) = until future future.outcome

register-appended : (id : ℕ) (action : Action) (v : View) → Appended v.queue (soon_if_done id action v.futures v.queue)
register-appended id action v = at (slice_get v.futures id)
  where
    until : (o : Option Outcome) → Appended v.queue (soon_until o action v.queue)
    until (Some done) = (action ∷ [], refl)
    until None = ([], refl)

    at : (o : Option Future) → Appended v.queue (soon_at o action v.queue)
    at None = ([], refl)
    at (Some future) = until future.outcome

ask-parts : (id : ℕ) (v : View) → mark_asked id (parts v) ≡ parts (record v { futures = asked id v.futures })
ask-parts id v = at (slice_get v.futures id)
  where
    at : (o : Option Future)
        → option_map_or (λ (f : Future). plain.with_future id (record f { kind = plain.asked_kind f.kind }) (parts v)) o (parts v)
        ≡ parts (record v { futures = asked_at o id v.futures })
    at None = refl
    at (Some future) = refl

module _ (t : NameMap) (v : View) (p : Parts) (k : Keeps t v p) where
  pub kept_settle : (id : ℕ) (outcome : Outcome)
      → Kept t p (record v { futures = settled id outcome v.futures; queue = queue.soon_all (called id v.futures) v.queue }) (settle id outcome p)
  kept_settle id outcome =
      kept_by t v _ p k (settle id outcome) (only_settle id outcome p) (settle_numbers id outcome p k.numbered)
      (settle-placed id outcome) (settle-release t.gone id outcome p k.done)
      (record { parts = sym (settle-parts id outcome (body v)); queue = (called id v.futures, refl); time = refl; schedule = refl })

  pub kept_register : (id : ℕ) (action : Action)
      → Kept t p (record v { futures = registered id action v.futures; queue = soon_if_done id action v.futures v.queue }) (register id action p)
  kept_register id action =
      kept_by t v _ p k (register id action) (only_register id action p) (register_numbers id action p k.numbered)
      (register-placed id action) (register-release t.gone id action p k.done)
      (record { parts = sym (register-parts id action v); queue = register-appended id action v; time = refl; schedule = refl })

  pub keeps_ask : (id : ℕ) → Keeps t (record v { futures = asked id v.futures }) (mark_asked id p)
  keeps_ask id =
      keeps_by t v _ p k (mark_asked id) (changes_ask id p) (mark_asked_numbers id p k.numbered) (ask-placed id) (ask-release t.gone id p)
      (record { parts = sym (ask-parts id v); queue = ([], refl); time = refl; schedule = refl })

  keeps_make : (kind : FutureKind) → IsNumbered (make_future kind p)
      → Keeps t (record v { futures = v.futures ++ record { kind = kind; outcome = None; callbacks = [] } ∷ [] }) (make_future kind p)
  keeps_make kind numbered =
      keeps_by t v _ p k (make_future kind) (changes_make kind p) numbered (λ x. refl) (make-release t.gone kind p (new_stays t v p k))
      (record { parts = refl; queue = ([], refl); time = refl; schedule = refl })

  pub keeps_plain : Keeps t (record v { futures = v.futures ++ record { kind = Plain; outcome = None; callbacks = [] } ∷ [] }) (new_plain p)
  keeps_plain = keeps_make Plain (new_plain_numbers p k.numbered)

  pub keeps_many : (members : List ℕ) → All (λ member. member < next_future p) members
      → Keeps t (record v { futures = v.futures ++ record { kind = Many members false; outcome = None; callbacks = [] } ∷ [] }) (new_many members p)
  keeps_many members made = keeps_make (Many members false) (new_many_numbers members p made k.numbered)
