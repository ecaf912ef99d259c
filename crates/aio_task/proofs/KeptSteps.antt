-- The calls of tasks keep what the type keeps.
use Rattle.std.proofs.Common.{◌≡◌, ℕ, ◌+◌, ◌==◌, Bool, true, false, not, ◌&&◌, cond, List, [], ◌∷◌, Option, Some, None, length, map, slice_get}
use Rattle.std.proofs.Common.{refl, ap, sym, subst, ◌∙◌, arith, length-append, Result, Ok, Err, OnOk, OnErr}
use Rattle.std.specs.List.{list_any}
use Rattle.std.specs.Option.{option_map, option_map_or}
use Rattle.std.proofs.lemmas.List.Sums.{sum_by-cons}
use Rattle.model_value.specs.Action.{Action}
use Rattle.model_value.specs.Input.{Input}
use Rattle.model_value.specs.Value.{Value, Exc}
use Rattle.model_value.specs.declared.action.Action.TheVariants.{Step, StepInCycle, Wakeup}
use Rattle.model_loop.specs.Parts.{OfTask, Handle, Future, Task, Parts, Profile}
use Rattle.model_loop.specs.Futures.{is_pending, is_pending_at}
use Rattle.model_loop.specs.Tasks.{spawn, begin_step, pause, finish, uncancel}
use Rattle.model_loop.specs.Suspend.{suspend}
use Rattle.model_loop.specs.Cancel.{cancel}
use Rattle.model_loop.specs.Totals.{pending_where}
use Rattle.model_loop.specs.Ways.{steps}
use Rattle.model_loop.specs.Sound.{HasNoCycle, ArePartsSound}
use Rattle.law_cancel.proofs.Cycling.{cancel_makes_none, suspend_makes_none}
use Rattle.law_steps.proofs.Passing.{begin_no_cycle, spawn_no_cycle, finish_no_cycle, same_tasks_no_cycle}
use Rattle.law_steps.proofs.Spawning.{spawn_sound}
use Rattle.law_steps.proofs.CancelSound.{cancel_sound, same_sound}
use Rattle.law_steps.proofs.Looks.{same_no_cycle, handles_look_same}
use Rattle.law_steps.specs.Frames.{Follows}
use Rattle.law_steps.proofs.Ending.{pause_sound, finish_sound}
use Rattle.law_steps.proofs.Stepping.{begin_sound, uncancel_looks_same, uncancel_fewer}
use Rattle.law_steps.proofs.Waiting.{suspend_sound}
use Rattle.algorithm_parts.specs.Open.{room_of}
use Rattle.algorithm_parts.proofs.RoomsKept.{make-room}
use Rattle.aio_base.specs.declared.memory.Memory.{Memory}
use Rattle.aio_cancel.specs.Noted.{Noted}
use Rattle.aio_cancel.specs.Seen.{Marked, Stacked}
use Rattle.aio_ready.specs.declared.handle.Handle as code
use Rattle.aio_ready.specs.Queue as queue
use Rattle.aio_ready.specs.Queue.{from_live}
use Rattle.aio_cancel.specs.Awaitables as cancel
use Rattle.aio_cancel.specs.Awaitables.{Appended, waiting, handles_from}
use Rattle.aio_cancel.proofs.PartsLemmas.{soon-parts}
use Rattle.aio_task.specs.Bare.{bare_action, bare_handle, bare_future, bare}
use Rattle.aio_task.specs.View.{View, parts, body, is_step, stepped, stepped_at}
use Rattle.aio_task.specs.Kept.{AreSound, IsKept, HasRoom, with_first, steps_as_timer}
use Rattle.aio_task.proofs.BareLemmas.{bare_at, spawn-bare, cancel-bare, change-bare}
use Rattle.aio_task.proofs.BareSteps.{begin-bare, pause-bare, suspend-bare, finish-bare}
use Rattle.aio_task.proofs.Keeping.{at_rest, rests, bare_no_cycle, no_bare_cycle}
use Rattle.aio_task.proofs.KeptFutures.{fallen_kept, moved_kept}
use Rattle.aio_task.proofs.Queues.{live, live-pending, live-none, live-taken, live-other, any-taken, first_lives}

pub spawn_kept : (v : View) (b : cancel.Awaitables) → v.called ≡ None → cancel.parts b ≡ spawn (parts v)
    → b.queue ≡ queue.soon (Step (length v.tasks)) v.queue → IsKept v
    → IsKept (record v { queue = b.queue; futures = b.futures; tasks = b.tasks })
spawn_kept v b idle same appended is =
    let sound = at_rest v.running v.called (parts v) idle is.sound in
    moved_kept v b (spawn (parts v)) idle same (Step (length v.tasks) ∷ [], appended)
    (no_bare_cycle (spawn (parts v)) (subst HasNoCycle (spawn-bare (parts v))
    (spawn_no_cycle v.running v.running (bare (parts v)) sound (bare_no_cycle (parts v) is.no_cycle))))
    (subst (ArePartsSound v.running v.running) (spawn-bare (parts v)) (spawn_sound v.running v.running (bare (parts v)) sound))
    is

-- a task is made, or memory was refused, with room for one frame and one mark more
pub spawned_or_not : (v : View) (b : cancel.Awaitables) (stack larger : Stacked) (seen more : Marked) (notes : Noted) (result : Result ℕ Memory)
    → v.called ≡ None → OnOk result (cancel.parts b ≡ spawn (parts v))
    → OnOk result (b.queue ≡ queue.soon (Step (length v.tasks)) v.queue) → OnErr result (b ≡ body v)
    → larger ≡ record stack { room = stack.room + 1 } → more ≡ record seen { tasks = seen.tasks + 1 }
    → HasRoom v stack seen notes → IsKept v
    → IsKept (record v { queue = b.queue; futures = b.futures; tasks = b.tasks })
    × HasRoom (record v { queue = b.queue; futures = b.futures; tasks = b.tasks }) larger more notes
spawned_or_not v b stack larger seen more notes (Ok task) idle made queued err grown marks has is =
    let wide : larger.room ≡ stack.room + 1 = ap (λ (s : Stacked). s.room) grown in
    let tasks : more.tasks ≡ seen.tasks + 1 = ap (λ (s : Marked). s.tasks) marks in
    let fits = has.fits in
    let marked = has.marked in
    let needs : room_of (cancel.parts b) ≡ room_of (parts v) + 1 = ap room_of made ∙ make-room (OfTask (length v.tasks)) (parts v) in
    let count : length b.tasks ≡ length v.tasks + 1 =
    ap (λ (p : Parts). length p.tasks) made
    ∙ length-append v.tasks (record { future = length v.futures; waiter = None; cancels = 0; must_cancel = false } ∷ []) in (
      spawn_kept v b idle made queued is,
      record {
        empty = ap (λ (s : Stacked). s.frames) grown ∙ has.empty;
        unseen = ap (λ (s : Marked). s.visited) marks ∙ has.unseen;
        unnoted = has.unnoted;
        fits = omega (arith, fits, wide, needs);
        marked = omega (arith, marked, tasks, count);
      },
    )
spawned_or_not v b stack larger seen more notes (Err fault) idle made queued err grown marks has is =
    let wide : larger.room ≡ stack.room + 1 = ap (λ (s : Stacked). s.room) grown in
    let tasks : more.tasks ≡ seen.tasks + 1 = ap (λ (s : Marked). s.tasks) marks in
    let fits = has.fits in
    let marked = has.marked in (
      subst (λ (x : cancel.Awaitables). IsKept (record v { queue = x.queue; futures = x.futures; tasks = x.tasks })) (sym err) is,
      subst (λ (x : cancel.Awaitables). HasRoom (record v { queue = x.queue; futures = x.futures; tasks = x.tasks }) larger more notes) (sym err) (record {
        empty = ap (λ (s : Stacked). s.frames) grown ∙ has.empty;
        unseen = ap (λ (s : Marked). s.visited) marks ∙ has.unseen;
        unnoted = has.unnoted;
        fits = omega (arith, fits, wide);
        marked = omega (arith, marked, tasks);
      }),
    )

pub cancel_kept : (v : View) (b : cancel.Awaitables) (target : ℕ) → v.called ≡ None → cancel.parts b ≡ (cancel target (parts v)).parts
    → Appended v.queue b.queue → IsKept v → IsKept (record v { queue = b.queue; futures = b.futures; tasks = b.tasks })
cancel_kept v b target idle same appended is =
    moved_kept v b (cancel target (parts v)).parts idle same appended
    (cancel_makes_none target (parts v) is.no_cycle)
    (subst (λ (r : Parts). ArePartsSound v.running v.running r) (ap (λ r. r.parts) (cancel-bare target (parts v)))
    (cancel_sound v.running v.running (λ t h. h) target (bare (parts v)) (at_rest v.running v.called (parts v) idle is.sound)))
    is

pub uncancel_kept : (profile : Profile) (v : View) (b : cancel.Awaitables) (task : ℕ) → v.called ≡ None
    → cancel.parts b ≡ uncancel profile task (parts v) → Appended v.queue b.queue → IsKept v
    → IsKept (record v { queue = b.queue; futures = b.futures; tasks = b.tasks })
uncancel_kept profile v b task idle same appended is =
    let sound = at_rest v.running v.called (parts v) idle is.sound in
    moved_kept v b (uncancel profile task (parts v)) idle same appended
    (same_no_cycle (parts v) (uncancel profile task (parts v)) (uncancel_looks_same profile task (parts v)) is.no_cycle)
    (subst (ArePartsSound v.running v.running) (change-bare task _ (parts v))
    (same_sound v.running v.running (bare (parts v)) (uncancel profile task (bare (parts v))) (uncancel_looks_same profile task (bare (parts v)))
    (uncancel_fewer profile task (bare (parts v))) sound))
    is

-- ---- a step begins
pub nat_same : (n : ℕ) → (n == n) ≡ true
nat_same n = grind arith

pub steps_it : (action : Action) (task : ℕ) → stepped action ≡ Some task → steps task (bare_action action) ≡ true
steps_it (Step other) task e = let same : other ≡ task = cc in rw same (nat_same task)
steps_it (StepInCycle other cycle) task e = let same : other ≡ task = cc in rw same (nat_same task)
steps_it (Wakeup other) task e = let same : other ≡ task = cc in rw same (nat_same task)
steps_it _ task e = absurd (cc)

begun_sound : (running called : Option ℕ) (task : ℕ) (input : Input) (p : Parts) → called ≡ Some task → running ≡ None
    → AreSound running called p → ArePartsSound (Some task) (Some task) (bare (begin_step task input p).parts)
begun_sound running called task input p c r is =
    let s : AreSound None (Some task) p = subst (λ x. AreSound x (Some task) p) r (subst (λ x. AreSound running x p) c is) in
    let handle : Handle = record { stamp = 0; tag = 0; action = bare_action s.0; dead = false } in
    subst (ArePartsSound (Some task) (Some task)) (begin-bare task input p)
    (begin_sound task handle (map bare_handle p.pending) (bare (with_first s.0 p)) refl refl (steps_it s.0 task s.1) s.2 input)

pub begin_kept : (v : View) (b : cancel.Awaitables) (task : ℕ) (input : Input) → v.called ≡ Some task → v.running ≡ None
    → cancel.parts b ≡ (begin_step task input (parts v)).parts → b.queue ≡ v.queue → IsKept v
    → IsKept (record v { queue = b.queue; futures = b.futures; tasks = b.tasks; running = Some task; called = None })
begin_kept v b task input called running same queue is = record {
  no_cycle = subst HasNoCycle (sym same) (begin_no_cycle task input (parts v) is.no_cycle);
  sound = subst (λ x. ArePartsSound (Some task) (Some task) (bare x)) (sym same)
      (begun_sound v.running v.called task input (parts v) called running is.sound);
  timers = is.timers;
  fallen = subst (λ q. list_any steps_as_timer (waiting q) ≡ false) (sym queue) is.fallen;
}

-- ---- a step ends
ended_kept : (v : View) (b : cancel.Awaitables) (q : Parts) → v.called ≡ None → cancel.parts b ≡ q → Appended v.queue b.queue
    → HasNoCycle q → ArePartsSound None None (bare q) → IsKept v
    → IsKept (record v { queue = b.queue; futures = b.futures; tasks = b.tasks; running = None })
ended_kept v b q idle same appended none sound is = record {
  no_cycle = subst HasNoCycle (sym same) none;
  sound = rests None v.called (cancel.parts b) idle (subst (λ x. ArePartsSound None None (bare x)) (sym same) sound);
  timers = is.timers;
  fallen = fallen_kept v.queue b.queue appended is.fallen;
}

pub bare_pends : (p : Parts) (id : ℕ) → is_pending (bare p) id ≡ is_pending p id
bare_pends p id = ap is_pending_at (bare_at p id) ∙ at (slice_get p.futures id)
  where
    at : (o : Option Future) → is_pending_at (option_map bare_future o) ≡ is_pending_at o
    at None = refl
    at (Some f) = refl

pub in_step : (running called : Option ℕ) (task : ℕ) (p : Parts) → called ≡ None → running ≡ Some task → AreSound running called p
    → ArePartsSound (Some task) (Some task) (bare p)
in_step running called task p idle r is = subst (λ x. ArePartsSound x x (bare p)) r (at_rest running called p idle is)

pub pause_kept : (v : View) (task : ℕ) → v.called ≡ None → v.running ≡ Some task → IsKept v
    → IsKept (record v { queue = queue.soon (Step task) v.queue; running = None })
pause_kept v task idle running is =
    ended_kept v (record { queue = queue.soon (Step task) v.queue; futures = v.futures; tasks = v.tasks })
    (pause task (parts v)) idle (sym (soon-parts (Step task) (body v))) (Step task ∷ [], refl)
    (same_tasks_no_cycle (parts v) (pause task (parts v)) refl refl is.no_cycle)
    (subst (ArePartsSound None None) (pause-bare task (parts v))
    (pause_sound task (bare (parts v)) (in_step v.running v.called task (parts v) idle running is.sound)))
    is

pub suspend_kept : (v : View) (b : cancel.Awaitables) (task on : ℕ) → v.called ≡ None → v.running ≡ Some task
    → is_pending_at (slice_get v.futures on) ≡ true → cancel.parts b ≡ (suspend task on (parts v)).parts → Appended v.queue b.queue → IsKept v
    → IsKept (record v { queue = b.queue; futures = b.futures; tasks = b.tasks; running = None })
suspend_kept v b task on idle running pending same appended is =
    let sound = in_step v.running v.called task (parts v) idle running is.sound in
    ended_kept v b (suspend task on (parts v)).parts idle same appended
    (no_bare_cycle (suspend task on (parts v)).parts (subst HasNoCycle (suspend-bare task on (parts v))
    (suspend_makes_none task on (bare (parts v)) sound.owns (bare_no_cycle (parts v) is.no_cycle))))
    (subst (ArePartsSound None None) (suspend-bare task on (parts v))
    (suspend_sound task on (bare (parts v)) (bare_pends (parts v) on ∙ pending) sound))
    is

pub finish_kept : (v : View) (b : cancel.Awaitables) (task : ℕ) (end : Result Value Exc) → v.called ≡ None → v.running ≡ Some task
    → cancel.parts b ≡ finish task end (parts v) → Appended v.queue b.queue → IsKept v
    → IsKept (record v { queue = b.queue; futures = b.futures; tasks = b.tasks; running = None })
finish_kept v b task end idle running same appended is =
    ended_kept v b (finish task end (parts v)) idle same appended
    (finish_no_cycle task end (parts v) is.no_cycle)
    (subst (ArePartsSound None None) (finish-bare task end (parts v))
    (finish_sound task end (bare (parts v)) (in_step v.running v.called task (parts v) idle running is.sound)))
    is

-- ---- what runs next is taken from the queue
no_step : (action : Action) → stepped action ≡ None → is_step action ≡ false
no_step (Step task) e = absurd (cc)
no_step (StepInCycle task cycle) e = absurd (cc)
no_step (Wakeup task) e = absurd (cc)
no_step _ e = refl

with_first_live : (test : Action → Bool) (h : code.Handle) (handles : List code.Handle) → h.dead ≡ false
    → pending_where test (bare_handle (record { stamp = 0; tag = 0; action = h.action; dead = false }) ∷ map bare_handle (handles_from 0 handles))
    ≡ live test (h ∷ handles)
with_first_live test h handles alive =
    sum_by-cons (λ (x : Handle). cond (not x.dead && test x.action) 1 0)
    (record { stamp = 0; tag = 0; action = bare_action h.action; dead = false }) (map bare_handle (handles_from 0 handles))
    ∙ ap (λ n. cond (not false && test (bare_action h.action)) 1 0 + n) (live-pending test 0 handles)
    ∙ ap (λ d. cond (not d && test (bare_action h.action)) 1 0 + live test handles) (sym alive)

pub next_kept : (v : View) (called : Option ℕ) → called ≡ stepped_at (queue.next_action v.queue) → v.called ≡ None → IsKept v
    → IsKept (record v { queue = queue.taken v.queue; called = called })
next_kept v called next idle is = record {
  no_cycle = same_tasks_no_cycle (parts v) (parts after) refl refl is.no_cycle;
  sound = subst (λ x. AreSound v.running x (parts after)) (sym next) (taken (from_live v.queue.below) refl);
  timers = is.timers;
  fallen = any-taken steps_as_timer v.queue is.fallen;
}
  where
    after : View
    after = record v { queue = queue.taken v.queue }

    sound : ArePartsSound v.running v.running (bare (parts v))
    sound = at_rest v.running v.called (parts v) idle is.sound

    looks : (q : Parts) → q.futures ≡ (bare (parts v)).futures → q.tasks ≡ v.tasks
        → ((test : Action → Bool) → Follows test → pending_where test q.pending ≡ live test (waiting v.queue))
        → ArePartsSound v.running v.running q
    looks q fs ts same =
        same_sound v.running v.running (bare (parts v)) q
        (handles_look_same (bare (parts v)) q fs ts (λ test follows. same test follows ∙ sym (live-pending test 0 (waiting v.queue))))
        (λ t m. sym (ap (λ (l : List Task). option_map_or (λ (it : Task). it.must_cancel) (slice_get l t) false) ts) ∙ m) sound

    kept : (h : code.Handle) (rest : List code.Handle) → from_live v.queue.below ≡ h ∷ rest → (s : Option ℕ) → stepped h.action ≡ s
        → AreSound v.running s (parts after)
    kept h rest e None none =
        looks (bare (parts after)) refl refl
        (λ test follows. live-pending test 0 (waiting (queue.taken v.queue))
        ∙ sym (live-other test follows h (waiting (queue.taken v.queue)) (no_step h.action none)) ∙ live-taken test v.queue h rest e)
    kept h rest e (Some task) one = (
      h.action,
      one,
      looks (bare (with_first h.action (parts after))) refl refl
          (λ test follows. with_first_live test h (waiting (queue.taken v.queue)) (first_lives v.queue.below h rest e)
          ∙ live-taken test v.queue h rest e),
    )

    taken : (hs : List code.Handle) → from_live v.queue.below ≡ hs → AreSound v.running (stepped_at (queue.first_action hs)) (parts after)
    taken [] e =
        looks (bare (parts after)) refl refl
        (λ test follows. live-pending test 0 (waiting (queue.taken v.queue)) ∙ live-none test v.queue e)
    taken (h ∷ rest) e = kept h rest e (stepped h.action) refl
