-- A new task of a group, and what is told of it.
use Rattle.std.proofs.Common.{◌≡◌, ℕ, ◌+◌, ◌<◌, false, [], ◌∷◌, ◌++◌, None, length, ap, sym, subst, ◌∙◌, arith, length-append}
use Rattle.std.specs.Option.{option_map_or}
use Rattle.model_value.specs.declared.action.Action.TheVariants.{Step, GroupDone}
use Rattle.model_value.specs.Value.{Outcome}
use Rattle.model_loop.specs.Futures.{new_plain, next_future, register, settle}
use Rattle.model_loop.specs.Groups.{with_child}
use Rattle.model_loop.specs.Parts.{Plain, Task, Parts}
use Rattle.model_loop.specs.Tasks.{future_of, next_task, spawn}
use Rattle.law_cancel.proofs.Lookups.{get-push_last}
use Rattle.aio_ready.specs.Queue as queue
use Rattle.aio_future.specs.Settled as settled
use Rattle.aio_future.specs.Settled.{called, registered, soon_if_done}
use Rattle.aio_cancel.proofs.PartsLemmas.{settle-parts}
use Rattle.aio_task.proofs.PartsLemmas.{register-parts}
use Rattle.aio_task.specs.View.{View, body, parts}
use Rattle.aio_task.specs.Keeps.{NameMap, Keeps, Kept}
use Rattle.aio_group.specs.GoesOn.{Moves}
use Rattle.aio_group.specs.Held.{Held}
use Rattle.aio_group.specs.Stands.{Belongs}
use Rattle.aio_group.proofs.Asking.{becomes, moves_by}
use Rattle.aio_group.proofs.Belonging.{belongs_on}
use Rattle.aio_group.proofs.Going.{new_plain_on, register_on, settle_on, spawn_on, then_moves}
use Rattle.aio_group.proofs.Laws.{kept_spawn, kept_register, kept_future_of, tasks_made}
use Rattle.aio_group.proofs.Listing.{all_push}
use Rattle.aio_group.proofs.Standing.{then_extends}

-- a new task's own future is the next one
pub own_future_of : (p : Parts) (task : ℕ) → task ≡ next_task p → future_of (spawn p) task ≡ next_future p
own_future_of p task e =
    let new : Task = record { future = next_future p; waiter = None; cancels = 0; must_cancel = false } in
    ap (future_of (spawn p)) e
    ∙ ap (λ o. option_map_or (λ (t : Task). t.future) o (next_future (spawn p))) (get-push_last p.tasks new)

module _ (v w x : View) (id task future : ℕ) (number : task ≡ length v.tasks) (after : parts w ≡ spawn (parts v))
    (q : w.queue ≡ queue.soon (Step (length v.tasks)) v.queue)
    (frame : w ≡ record v { queue = w.queue; futures = w.futures; tasks = w.tasks })
    (own : future ≡ future_of (parts w) task)
    (told : x ≡ record w {
      futures = registered future (GroupDone id task) w.futures;
      queue = soon_if_done future (GroupDone id task) w.futures w.queue;
    }) where
  pub child_kept : (t : NameMap) (p : Parts) → Keeps t v p → Kept t p x (with_child id p)
  child_kept t p k =
      let first = kept_spawn t v w p k (becomes v w (spawn (parts v)) after (Step (length v.tasks) ∷ [], q) frame) in
      let second = kept_register first.name_map w (spawn p) future (GroupDone id task) first.keeps in
      let task_is : task ≡ next_task p = number ∙ tasks_made t v p k in
      let future_is : future ≡ next_future p =
      own ∙ kept_future_of first.name_map w (spawn p) task first.keeps ∙ own_future_of p task task_is in
      let whole : register future (GroupDone id task) (spawn p) ≡ with_child id p =
      ap (λ f. register f (GroupDone id task) (spawn p)) future_is
      ∙ ap (λ n. register (next_future p) (GroupDone id n) (spawn p)) task_is in
      subst (λ r. Kept t p x r) whole (record {
        name_map = second.name_map;
        keeps = subst (λ y. Keeps second.name_map y (register future (GroupDone id task) (spawn p))) (sym told) second.keeps;
        extends = then_extends t first.name_map second.name_map p (spawn p) (register future (GroupDone id task) (spawn p)) first.extends second.extends;
      })

  registered_is : parts x ≡ register future (GroupDone id task) (parts w)
  registered_is = ap parts told ∙ sym (register-parts future (GroupDone id task) (body w))

  pub child_moves : Moves v x
  child_moves =
      then_moves v w x (moves_by v w (spawn (parts v)) after (spawn_on (parts v)) frame)
      (moves_by w x (register future (GroupDone id task) (parts w)) registered_is (register_on future (GroupDone id task) (parts w))
      (told ∙ ap (λ (y : View). record w { queue = y.queue; futures = y.futures; tasks = y.tasks }) (sym told)))

-- one more task is there
pub one_more_task : (v w : View) → parts w ≡ spawn (parts v) → length v.tasks < length w.tasks
one_more_task v w e =
    let n : length w.tasks ≡ length v.tasks + 1 =
    ap (λ (p : Parts). length p.tasks) e ∙ length-append v.tasks (record { future = length v.futures; waiter = None; cancels = 0; must_cancel = false } ∷ []) in
    omega (arith, n)

pub child_belongs : (v w : View) (a b : Held) (task : ℕ) → Moves v w → task < length w.tasks → Belongs v a
    → b ≡ record a { children = a.children ++ task ∷ [] } → Belongs w b
child_belongs v w a b task moves made is e =
    let now = belongs_on v w moves a is in
    subst (λ h. Belongs w h) (sym e) (record {
      children = all_push (λ t. t < length w.tasks) a.children task now.children made;
      exit = now.exit;
    })

-- ---- other changes of the parts
pub resolve_moves : (v w : View) (id : ℕ) (outcome : Outcome)
    → w ≡ record v { futures = settled.settled id outcome v.futures; queue = queue.soon_all (called id v.futures) v.queue } → Moves v w
resolve_moves v w id outcome e =
    moves_by v w (settle id outcome (parts v)) (ap parts e ∙ sym (settle-parts id outcome (body v))) (settle_on id outcome (parts v))
    (e ∙ ap (λ (y : View). record v { queue = y.queue; futures = y.futures; tasks = y.tasks }) (sym e))

pub new_plain_moves : (v w : View) → w ≡ record v { futures = v.futures ++ record { kind = Plain; outcome = None; callbacks = [] } ∷ [] }
    → Moves v w
new_plain_moves v w e =
    moves_by v w (new_plain (parts v)) (ap parts e) (new_plain_on (parts v))
    (e ∙ ap (λ (y : View). record v { queue = y.queue; futures = y.futures; tasks = y.tasks }) (sym e))
