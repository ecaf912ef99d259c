-- How much room a request needs, and how many tasks there are, after what happens to the parts.
use Rattle.std.proofs.Common.{◌≡◌, ℕ, ◌+◌, ◌-◌, ◌<◌, ◌≤◌, Bool, true, false, List, [], Option, Some, None, length, slice_get, refl}
use Rattle.std.proofs.Common.{ap, sym, subst, ◌∙◌, arith, Result, Ok, Err, if◌then◌else◌}
use Rattle.std.specs.Prelude.{is_none}
use Rattle.std.specs.Option.{option_map, option_map_or}
use Rattle.std.proofs.lemmas.Bool.{false≢true}
use Rattle.model_value.specs.Action.{Action, CycleKind}
use Rattle.model_value.specs.Input.{Input}
use Rattle.model_value.specs.declared.action.Action.TheVariants.{Wakeup}
use Rattle.model_value.specs.declared.outcome.Outcome.TheVariants.{Cancelled, Value as Returned, Failed}
use Rattle.model_value.specs.Value.{Value, Exc, Outcome}
use Rattle.model_loop.specs.Parts.{FutureKind, Plain, OfTask, Many, Future, Task, Parts}
use Rattle.model_loop.specs.Futures.{next_future, is_pending, is_pending_at, settle, register}
use Rattle.model_loop.specs.Owning.{owner_in, owner_at, OwnsFutures}
use Rattle.model_loop.specs.Tasks.{change_task, set_waiter, clear_must_cancel, must_cancel_of, is_cancelled, future_of, lives, begin_step, finish}
use Rattle.model_loop.specs.Cycles.{cycle}
use Rattle.model_loop.specs.Suspend.{wait_on, cancel_wait, suspend}
use Rattle.model_loop.specs.Cancel.{cancel}
use Rattle.law_cancel.proofs.SuspendCases.{suspend_unless}
use Rattle.law_cancel.proofs.Counting.{change_task-kept}
use Rattle.law_cancel.proofs.Effects.{settle-tasks, register-tasks, length-change_task, change_task-futures}
use Rattle.law_cancel.proofs.Lookups.{get_within}
use Rattle.law_cancel.proofs.Trace.{goes-tasks}
use Rattle.algorithm_parts.specs.Open.{is_inner_until, is_inner_at, is_inner, room_of}
use Rattle.algorithm_parts.proofs.RoomsKept.{settle-room, end-room, register-room, change-room, cancel-room}
use Rattle.law_steps.proofs.Spreading.{as_row, with_spread}
use Rattle.aio_cancel.specs.Awaitables as cancel
use Rattle.aio_cancel.specs.Awaitables.{Awaitables}
use Rattle.aio_cancel.specs.Noted.{Noted, noted, HasNoNotes}
use Rattle.aio_cancel.specs.Room as walk
use Rattle.aio_cancel.specs.Seen.{Marked, Stacked}
use Rattle.aio_task.specs.View.{View, parts}
use Rattle.aio_task.specs.Kept.{HasRoom}

-- no more room is needed, and there are as many tasks
pub record NeedsNoMore (p q : Parts) : Type 0 where
  pub room : room_of q ≤ room_of p
  pub tasks : length q.tasks ≡ length p.tasks

pub size_on : (p q r : Parts) → NeedsNoMore p q → NeedsNoMore q r → NeedsNoMore p r
size_on p q r a b = let first = a.room in let second = b.room in record { room = omega (arith, first, second); tasks = b.tasks ∙ a.tasks }

no_more : (p q : Parts) → room_of q ≡ room_of p → room_of q ≤ room_of p
no_more p q same = omega (arith, same)

pub size_change : (id : ℕ) (change : Task → Task) (p : Parts) → NeedsNoMore p (change_task id change p)
size_change id change p = record {
  room = no_more p (change_task id change p) (change-room id change p);
  tasks = length-change_task id change p;
}

pub size_settle : (id : ℕ) (outcome : Outcome) (p : Parts) → NeedsNoMore p (settle id outcome p)
size_settle id outcome p = record { room = settle-room id outcome p; tasks = ap length (settle-tasks id outcome p) }

pub size_register : (id : ℕ) (action : Action) (p : Parts) → NeedsNoMore p (register id action p)
size_register id action p = record {
  room = no_more p (register id action p) (register-room id action p);
  tasks = ap length (register-tasks id action p);
}

pub size_cancel : (id : ℕ) (p : Parts) → NeedsNoMore p (cancel id p).parts
size_cancel id p = record {
  room = no_more p (cancel id p).parts (cancel-room id p);
  tasks = goes-tasks (as_row (with_spread id [] p));
}

pub size_begin : (task : ℕ) (input : Input) (p : Parts) → NeedsNoMore p (begin_step task input p).parts
size_begin task input p =
    size_on p (set_waiter task None p) (clear_must_cancel task (set_waiter task None p)) (size_change task _ p) (size_change task _ (set_waiter task None p))

pub size_finish : (task : ℕ) (end : Result Value Exc) (p : Parts) → NeedsNoMore p (finish task end p)
size_finish task (Ok value) p =
    let outcome : Outcome = if must_cancel_of p task then Cancelled else Returned value in
    size_on p (clear_must_cancel task p) (settle (future_of p task) outcome (clear_must_cancel task p)) (size_change task _ p)
    (size_settle (future_of p task) outcome (clear_must_cancel task p))
size_finish task (Err fault) p = size_settle (future_of p task) (if is_cancelled fault then Cancelled else Failed fault) p

pub size_wait : (task on : ℕ) (p : Parts) → NeedsNoMore p (wait_on task on p)
size_wait task on p =
    size_on p (register on (Wakeup task) p) (wait_on task on p) (size_register on (Wakeup task) p) (size_change task _ (register on (Wakeup task) p))

pub size_suspend : (task on : ℕ) (p : Parts) → NeedsNoMore p (suspend task on p).parts
size_suspend task on p = go (cycle p task on)
  where
    answered : (b : Bool) (r : Parts) → NeedsNoMore r (if b then clear_must_cancel task r else r)
    answered true r = size_change task _ r
    answered false r = record { room = omega arith; tasks = refl }

    waited : (b : Bool) (q : Parts) → NeedsNoMore q (cancel_wait b task on q).parts
    waited false q = record { room = omega arith; tasks = refl }
    waited true q =
        let r = cancel on q in
        size_on q r.parts (if r.answer then clear_must_cancel task r.parts else r.parts) (size_cancel on q) (answered r.answer r.parts)

    go : (c : Option CycleKind) → NeedsNoMore p (suspend_unless c task on p).parts
    go (Some c) = record { room = omega arith; tasks = refl }
    go None =
        size_on p (wait_on task on p) (cancel_wait (must_cancel_of p task) task on (wait_on task on p)).parts (size_wait task on p)
        (waited (must_cancel_of p task) (wait_on task on p))

-- a wait sets no must_cancel
pub wait-must_cancel : (task on : ℕ) (p : Parts) (other : ℕ) → must_cancel_of (wait_on task on p) other ≡ must_cancel_of p other
wait-must_cancel task on p other =
    change_task-kept (λ (o : Option Task). option_map_or (λ (t : Task). t.must_cancel) o false) task _ (register on (Wakeup task) p) (λ t. refl) other
    ∙ ap (λ (ts : List Task). option_map_or (λ (t : Task). t.must_cancel) (slice_get ts other) false) (register-tasks on (Wakeup task) p)

-- ---- the room that a request needs
pub sized : (v w : Awaitables) (q : Parts) (stack : Stacked) (seen : Marked) (notes after : Noted) → NeedsNoMore (cancel.parts v) q
    → cancel.parts w ≡ q → HasNoNotes after → walk.HasRoom v stack seen notes → walk.HasRoom w stack seen after
sized v w q stack seen notes after size same unnoted has = record {
  empty = has.empty;
  unseen = has.unseen;
  unnoted = unnoted;
  fits = let is = ap room_of same in let less = size.room in let fits = has.fits in omega (arith, is, less, fits);
  marked = subst (λ n. n ≤ seen.tasks) (sym (ap (λ (p : Parts). length p.tasks) same ∙ size.tasks)) has.marked;
}

-- ---- a task that ends gives room back
-- the own future of a task that lives takes room
pub own_takes_room : (task : ℕ) (p : Parts) → OwnsFutures p → lives p task ≡ true → is_inner p (future_of p task) ≡ true
own_takes_room task p owns living = at (slice_get p.tasks task) refl living
  where
    unmade : (o : Option Future) → slice_get p.futures (length p.futures) ≡ o → is_pending_at (slice_get p.futures (length p.futures)) ≡ false
    unmade None e = ap is_pending_at e
    unmade (Some future) e =
        let within : length p.futures < length p.futures = get_within p.futures (length p.futures) future e in
        absurd (omega (arith, within))

    kind : (k : FutureKind) (o : Option Outcome) → owner_in k ≡ Some task → is_none o ≡ true → is_inner_until o k ≡ true
    kind Plain o mine pends = absurd (cc)
    kind (OfTask other) None mine pends = refl
    kind (OfTask other) (Some done) mine pends = absurd (false≢true pends)
    kind (Many members asked) o mine pends = absurd (cc)

    its : (it : Task) (o : Option Future) → slice_get p.futures it.future ≡ o → owner_at o ≡ Some task → is_pending_at o ≡ true
        → is_inner_at o ≡ true
    its it None e mine pends = absurd (false≢true pends)
    its it (Some future) e mine pends = kind future.kind future.outcome mine pends

    at : (o : Option Task) → slice_get p.tasks task ≡ o
        → is_pending p (option_map_or (λ (it : Task). it.future) o (next_future p)) ≡ true
        → is_inner p (option_map_or (λ (it : Task). it.future) o (next_future p)) ≡ true
    at None e pends = absurd (false≢true (sym (unmade (slice_get p.futures (length p.futures)) refl) ∙ pends))
    at (Some it) e pends =
        its it (slice_get p.futures it.future) refl ((owns it.future task).1 (ap (option_map (λ (t : Task). t.future)) e)) pends

pub finish_room : (task : ℕ) (end : Result Value Exc) (p : Parts) → OwnsFutures p → lives p task ≡ true
    → room_of (finish task end p) + 1 ≡ room_of p
finish_room task (Ok value) p owns living =
    let outcome : Outcome = if must_cancel_of p task then Cancelled else Returned value in
    let same : is_inner (clear_must_cancel task p) (future_of p task) ≡ is_inner p (future_of p task) =
    ap (λ (fs : List Future). is_inner_at (slice_get fs (future_of p task))) (change_task-futures task _ p) in
    end-room (future_of p task) outcome (clear_must_cancel task p) (same ∙ own_takes_room task p owns living) ∙ change-room task _ p
finish_room task (Err fault) p owns living =
    end-room (future_of p task) (if is_cancelled fault then Cancelled else Failed fault) p (own_takes_room task p owns living)

-- so room for one frame less is wanted
pub finished : (v w : Awaitables) (task : ℕ) (end : Result Value Exc) (stack less : Stacked) (seen : Marked) (notes : Noted)
    → OwnsFutures (cancel.parts v) → lives (cancel.parts v) task ≡ true → cancel.parts w ≡ finish task end (cancel.parts v)
    → less ≡ record stack { room = stack.room - 1 } → walk.HasRoom v stack seen notes → walk.HasRoom w less seen notes
finished v w task end stack less seen notes owns living same fewer has =
    let p = cancel.parts v in
    let is = ap room_of same in
    let left = finish_room task end p owns living in
    let room = ap (λ (s : Stacked). s.room) fewer in
    let fits = has.fits in
    record {
      empty = ap (λ (s : Stacked). s.frames) fewer ∙ has.empty;
      unseen = has.unseen;
      unnoted = has.unnoted;
      fits = omega (arith, is, left, room, fits);
      marked =
          subst (λ n. n ≤ seen.tasks) (sym (ap (λ (q : Parts). length q.tasks) same ∙ (size_finish task end p).tasks)) has.marked;
    }

-- what is noted only falls
pub noted_less : (before after : Noted) → ((other : ℕ) (again : Bool) → noted after other ≡ Some again → noted before other ≡ Some again)
    → HasNoNotes before → HasNoNotes after
noted_less before after less none id = go (noted after id) refl
  where
    go : (o : Option Bool) → noted after id ≡ o → o ≡ None
    go None e = refl
    go (Some again) e = let was = less id again e in let gone = none id in absurd (cc)

pub released_room : (v w : View) (stack : Stacked) (seen : Marked) (notes after : Noted) → room_of (parts w) ≤ room_of (parts v)
    → length w.tasks ≡ length v.tasks → HasNoNotes after → HasRoom v stack seen notes → HasRoom w stack seen after
released_room v w stack seen notes after less tasks unnoted has = record {
  empty = has.empty;
  unseen = has.unseen;
  unnoted = unnoted;
  fits = let a = has.fits in omega (arith, a, less);
  marked = subst (λ n. n ≤ seen.tasks) (sym tasks) has.marked;
}

-- room for one frame more, for a future that stands for several
pub more_room : (v : Awaitables) (stack larger : Stacked) (seen : Marked) (notes after : Noted)
    → larger ≡ record stack { room = stack.room + 1 } → HasNoNotes after → walk.HasRoom v stack seen notes
    → walk.HasRoom v larger seen after × (room_of (cancel.parts v) + 1 ≤ larger.room)
more_room v stack larger seen notes after more unnoted has =
    let room : larger.room ≡ stack.room + 1 = ap (λ (s : Stacked). s.room) more in
    let fits = has.fits in (
      record {
        empty = ap (λ (s : Stacked). s.frames) more ∙ has.empty;
        unseen = has.unseen;
        unnoted = unnoted;
        fits = omega (arith, fits, room);
        marked = has.marked;
      },
      omega (arith, fits, room),
    )
