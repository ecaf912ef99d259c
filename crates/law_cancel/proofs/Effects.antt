-- What the small steps change of futures and tasks.
use Rattle.std.proofs.Common.{◌≡◌, ℕ, List, [], ◌∷◌, Option, Some, None, length, slice_get, slice_set, refl, ap, ◌∙◌}
use Rattle.std.proofs.Math.ListN.{length-set}
use Rattle.std.specs.Option.{option_map_or}
use Rattle.model_value.specs.Action.{Action}
use Rattle.model_value.specs.Value.{Outcome}
use Rattle.model_loop.specs.Parts.{Future, Task, Parts}
use Rattle.model_loop.specs.Handles.{soon, soon_all}
use Rattle.model_loop.specs.Futures.{with_future, settle, register, mark_asked, asked_kind}
use Rattle.model_loop.specs.Tasks.{change_task}
use Rattle.model_loop.proofs.FutureCases.{registered, registered_on, settled, settled_as}

pub soon_all-futures : (actions : List Action) (p : Parts) → (soon_all actions p).futures ≡ p.futures
soon_all-futures [] p = refl
soon_all-futures (a ∷ more) p = soon_all-futures more (soon a p)

pub soon_all-tasks : (actions : List Action) (p : Parts) → (soon_all actions p).tasks ≡ p.tasks
soon_all-tasks [] p = refl
soon_all-tasks (a ∷ more) p = soon_all-tasks more (soon a p)

abbrev pub done_as : Outcome → Future → Future
done_as outcome future = record future { outcome = Some outcome; callbacks = [] }

-- a pending future is settled
pub settle-pending : (id : ℕ) (outcome : Outcome) (p : Parts) (future : Future) → slice_get p.futures id ≡ Some future → future.outcome ≡ None
    → settle id outcome p ≡ soon_all future.callbacks (with_future id (done_as outcome future) p)
settle-pending id outcome p future e o = ap (λ f. settled f id outcome p) e ∙ ap (λ x. settled_as x id future outcome p) o

pub settle-futures : (id : ℕ) (outcome : Outcome) (p : Parts) (future : Future) → slice_get p.futures id ≡ Some future → future.outcome ≡ None
    → (settle id outcome p).futures ≡ slice_set p.futures id (done_as outcome future)
settle-futures id outcome p future e o = ap (λ (q : Parts). q.futures) (settle-pending id outcome p future e o) ∙ soon_all-futures future.callbacks _

pub settle-tasks : (id : ℕ) (outcome : Outcome) (p : Parts) → (settle id outcome p).tasks ≡ p.tasks
settle-tasks id outcome p = at (slice_get p.futures id)
  where
    until : (future : Future) (o : Option Outcome) → (settled_as o id future outcome p).tasks ≡ p.tasks
    until future (Some done) = refl
    until future None = soon_all-tasks future.callbacks _

    at : (f : Option Future) → (settled f id outcome p).tasks ≡ p.tasks
    at None = refl
    at (Some future) = until future future.outcome

abbrev pub asked_as : Future → Future
asked_as future = record future { kind = asked_kind future.kind }

pub mark_asked-futures : (id : ℕ) (p : Parts) (future : Future) → slice_get p.futures id ≡ Some future → (mark_asked id p).futures
    ≡ slice_set p.futures id (asked_as future)
mark_asked-futures id p future e =
    ap (λ (o : Option Future). (option_map_or (λ (f : Future). with_future id (asked_as f) p) o p).futures) e

pub mark_asked-tasks : (id : ℕ) (p : Parts) → (mark_asked id p).tasks ≡ p.tasks
mark_asked-tasks id p = at (slice_get p.futures id)
  where
    at : (o : Option Future) → (option_map_or (λ (f : Future). with_future id (asked_as f) p) o p).tasks ≡ p.tasks
    at None = refl
    at (Some future) = refl

-- a change of a task that is there
pub change_task-there : (id : ℕ) (change : Task → Task) (p : Parts) (task : Task) → slice_get p.tasks id ≡ Some task → change_task id change p
    ≡ record p { tasks = slice_set p.tasks id (change task) }
change_task-there id change p task e =
    ap (λ (o : Option Task). option_map_or (λ (t : Task). record p { tasks = slice_set p.tasks id (change t) }) o p) e

pub length-change_task : (id : ℕ) (change : Task → Task) (p : Parts) → length (change_task id change p).tasks ≡ length p.tasks
length-change_task id change p = at (slice_get p.tasks id)
  where
    at : (o : Option Task) → length (option_map_or (λ (t : Task). record p { tasks = slice_set p.tasks id (change t) }) o p).tasks ≡ length p.tasks
    at None = refl
    at (Some task) = length-set p.tasks id (change task)

pub change_task-futures : (id : ℕ) (change : Task → Task) (p : Parts) → (change_task id change p).futures ≡ p.futures
change_task-futures id change p = at (slice_get p.tasks id)
  where
    at : (o : Option Task) → (option_map_or (λ (t : Task). record p { tasks = slice_set p.tasks id (change t) }) o p).futures ≡ p.futures
    at None = refl
    at (Some task) = refl

pub register-tasks : (id : ℕ) (action : Action) (p : Parts) → (register id action p).tasks ≡ p.tasks
register-tasks id action p = at (slice_get p.futures id)
  where
    until : (future : Future) (o : Option Outcome) → (registered_on o id future action p).tasks ≡ p.tasks
    until future (Some done) = refl
    until future None = refl

    at : (f : Option Future) → (registered f id action p).tasks ≡ p.tasks
    at None = refl
    at (Some future) = until future future.outcome
