-- What the parts in code stand for goes on by each call: laws of the parts in the words of a step.
use Rattle.std.proofs.Common.{◌≡◌, ℕ, ◌+◌, ◌<◌, ◌++◌, false, List, [], ◌∷◌, None, slice_get, refl, ap, if◌then◌else◌}
use Rattle.std.specs.Option.{option_map_or}
use Rattle.model_value.specs.Action.{Action}
use Rattle.model_value.specs.Input.{Input}
use Rattle.model_loop.specs.Cancel.{cancel}
use Rattle.model_loop.specs.Futures.{is_pending, new_plain, next_future}
use Rattle.model_loop.specs.Handles.{later, revoke}
use Rattle.model_loop.specs.Ledger.{Origin, request}
use Rattle.model_loop.specs.Parts.{Parts, Plain, Profile, Task}
use Rattle.model_loop.specs.Tasks.{begin_step, cancelling, cancelling_input, uncancel}
use Rattle.refine_parts.proofs.Appending.{extends_still}
use Rattle.refine_parts.proofs.Scheduling as scheduling
use Rattle.refine_parts.proofs.Calls.{keeps_begin, keeps_plain, keeps_uncancel}
use Rattle.refine_parts.proofs.Only.{begin_name_map, make_name_map, uncancel_name_map}
use Rattle.refine_parts.proofs.Telling as telling
use Rattle.aio_timer.specs.Schedule.{placed_after, timer}
use Rattle.aio_timer.specs.declared.live.TimerId.{TimerId}
use Rattle.aio_task.specs.Keeps.{Becomes, ByTimer, Keeps, Kept, Knows, NameMap, release}
use Rattle.aio_task.specs.View.{View, parts}
use Rattle.aio_body.specs.GivingUp.{release_of, timer_cancelled}

-- ---- what is read
module _ (t : NameMap) (v : View) (p : Parts) (k : Keeps t v p) where
  pub count_kept : (task : ℕ) → cancelling (parts v) task ≡ cancelling p task
  count_kept task = ap (λ (ts : List Task). option_map_or (λ (it : Task). it.cancels) (slice_get ts task) 0) k.tasks

  pub answer_kept : (by : Origin) (id : ℕ) → (cancel id (parts v)).answer ≡ (request by id p).answer
  answer_kept by id = telling.answer_kept t v p k id

pub input_kept : (t : NameMap) (v : View) (p : Parts) → Keeps t v p → (task : ℕ) (input : Input)
    → (begin_step task input (parts v)).input ≡ (begin_step task input p).input
input_kept t v p k task input =
    ap (λ (ts : List Task). if option_map_or (λ (it : Task). it.must_cancel) (slice_get ts task) false then cancelling_input input else input) k.tasks

-- ---- what is called
pub kept_plain : (t : NameMap) (v : View) (p : Parts) → Keeps t v p
    → Kept t p (record v { futures = v.futures ++ record { kind = Plain; outcome = None; callbacks = [] } ∷ [] }) (new_plain p)
kept_plain t v p k = record { name_map = t; keeps = keeps_plain t v p k; extends = make_name_map t Plain p }

pub kept_uncancel : (t : NameMap) (v w : View) (p : Parts) → Keeps t v p → (profile : Profile) (task : ℕ) → Becomes v w (uncancel profile task (parts v))
    → Kept t p w (uncancel profile task p)
kept_uncancel t v w p k profile task b = record {
  name_map = t;
  keeps = keeps_uncancel t v w p k profile task b;
  extends = uncancel_name_map t p profile task;
}

pub kept_begin : (t : NameMap) (v w : View) (p : Parts) → Keeps t v p → (task : ℕ) (input : Input) → Becomes v w (begin_step task input (parts v)).parts
    → Kept t p w (begin_step task input p).parts
kept_begin t v w p k task input b = record { name_map = t; keeps = keeps_begin t v w p k task input b; extends = begin_name_map t p task input }

pub kept_revoked : (t : NameMap) (v : View) (p : Parts) → Keeps t v p → (tag : ℕ) (id : TimerId) → Knows t p tag (ByTimer id)
    → Kept t p (timer_cancelled id v) (revoke tag p)
kept_revoked t v p k tag id knows = record {
  name_map = t;
  keeps = scheduling.keeps_revoked t v p k tag id knows;
  extends = extends_still t p (revoke tag p) refl;
}

pub keeps_release : (t : NameMap) (v : View) (p : Parts) → Keeps t v p → (id : ℕ) → id < next_future p → is_pending p id ≡ false
    → Keeps (release id t) (release_of id v) p
keeps_release t v p k id within done = telling.keeps_release t v p k id within done

pub kept_later : (t : NameMap) (v : View) (p : Parts) → Keeps t v p → (when : ℕ) (action : Action)
    → Kept t p
    (record v {
      schedule = record {
        live = placed_after (timer (record { number = v.schedule.next; when = when }) action) v.schedule.live;
        next = v.schedule.next + 1;
      };
    })
    (later when action p)
kept_later t v p k when action = (scheduling.kept_later t v p k when action).0
