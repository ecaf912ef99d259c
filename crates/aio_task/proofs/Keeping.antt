-- Each call keeps what the type keeps.
use Rattle.std.proofs.Common.{◌≡◌, ℕ, ◌+◌, ◌≤◌, Bool, true, false, List, [], ◌∷◌, ◌++◌, Option, None, length, filter, cond}
use Rattle.std.proofs.Common.{nat_lt, nat_le, refl, ap, sym, subst, ◌∙◌, Result, Ok, Err, IfOk, OnErr, if◌then◌else◌}
use Rattle.std.specs.Prelude.{◌==◌, ◌&&◌, not}
use Rattle.std.specs.List.{list_any}
use Rattle.model_value.specs.Action.{Action}
use Rattle.model_loop.specs.Parts.{FutureKind, Timer, Parts}
use Rattle.model_loop.specs.Futures.{make_future}
use Rattle.model_loop.specs.Owning.{owner_in}
use Rattle.model_loop.specs.Sound.{HasNoCycle, ArePartsSound}
use Rattle.law_cancel.proofs.Cycling.{no_cycle_kept}
use Rattle.law_steps.proofs.Making.{make_sound}
use Rattle.law_steps.proofs.Passing.{make_no_cycle, same_tasks_no_cycle}
use Rattle.law_steps.proofs.CancelSound.{same_sound}
use Rattle.law_steps.proofs.Looks.{handles_look_same}
use Rattle.law_steps.specs.Frames.{Follows}
use Rattle.aio_ready.specs.declared.handle.Handle.{Handle}
use Rattle.aio_ready.specs.declared.handle.HandleName.{HandleName}
use Rattle.aio_ready.specs.declared.handle.HandleName.TheVariants as name
use Rattle.aio_ready.specs.Names.{is_same}
use Rattle.aio_ready.specs.Queue as queue
use Rattle.aio_ready.specs.Queue.{Queue}
use Rattle.aio_timer.specs.declared.live.TimerId.{TimerId}
use Rattle.aio_timer.specs.Schedule.{Schedule, timer, placed_after, without, is_of, lives, due_at, later_than, fallen}
use Rattle.algorithm_parts.specs.Open.{room_of}
use Rattle.aio_cancel.specs.Noted.{Noted}
use Rattle.aio_cancel.specs.Room as walk
use Rattle.aio_cancel.specs.Seen.{Marked, Stacked}
use Rattle.aio_cancel.specs.Awaitables as request
use Rattle.aio_cancel.specs.Awaitables.{Awaitables, waiting}
use Rattle.aio_task.specs.Bare.{bare}
use Rattle.aio_task.specs.View.{View, parts, is_step, steps_as, NamesNoStep}
use Rattle.aio_task.specs.Kept.{AreSound, IsKept, is_timer, steps_as_timer, steps_later}
use Rattle.aio_task.proofs.BareLemmas.{make-bare}
use Rattle.aio_task.proofs.BareSteps.{passes-bare}
use Rattle.aio_task.proofs.Queues.{or_none, none_or, live, live-pending, live-appended, live-cancelled, live-fallen, any-cancelled, any-fallen, any-soon}
use Rattle.aio_task.proofs.Queues.{waiting-barred}

-- ---- cycles are those of the bare parts
pub bare_no_cycle : (p : Parts) → HasNoCycle p → HasNoCycle (bare p)
bare_no_cycle p none = no_cycle_kept p (bare p) (passes-bare p) none

pub no_bare_cycle : (p : Parts) → HasNoCycle (bare p) → HasNoCycle p
no_bare_cycle p none = no_cycle_kept (bare p) p (λ x. sym (passes-bare p x)) none

-- ---- no step was taken from the queue
pub at_rest : (running called : Option ℕ) (p : Parts) → called ≡ None → AreSound running called p → ArePartsSound running running (bare p)
at_rest running called p e is = subst (λ c. AreSound running c p) e is

pub rests : (running called : Option ℕ) (p : Parts) → called ≡ None → ArePartsSound running running (bare p) → AreSound running called p
rests running called p e is = subst (λ c. AreSound running c p) (sym e) is

-- ---- calls that change the queue alone
pub queue_sound : (running : Option ℕ) (v : View) (q : Queue)
    → ((test : Action → Bool) → Follows test → live test (waiting q) ≡ live test (waiting v.queue))
    → ArePartsSound running running (bare (parts v)) → ArePartsSound running running (bare (parts (record v { queue = q })))
queue_sound running v q same is =
    let p = bare (parts v) in
    let r = bare (parts (record v { queue = q })) in
    same_sound running running p r
    (handles_look_same p r refl refl
    (λ test follows. live-pending test 0 (waiting q) ∙ same test follows ∙ sym (live-pending test 0 (waiting v.queue))))
    (λ task m. m) is

pub queue_kept : (v : View) (q : Queue) → v.called ≡ None
    → ((test : Action → Bool) → Follows test → live test (waiting q) ≡ live test (waiting v.queue))
    → list_any steps_as_timer (waiting q) ≡ false → IsKept v → IsKept (record v { queue = q })
queue_kept v q idle same fallen is = record {
  no_cycle = same_tasks_no_cycle (parts v) (parts (record v { queue = q })) refl refl is.no_cycle;
  sound = rests v.running v.called (parts (record v { queue = q })) idle
      (queue_sound v.running v q same (at_rest v.running v.called (parts v) idle is.sound));
  timers = is.timers;
  fallen = fallen;
}

pub soon_kept : (v : View) (action : Action) → v.called ≡ None → is_step action ≡ false → IsKept v
    → IsKept (record v { queue = queue.soon action v.queue })
soon_kept v action idle none is =
    queue_kept v (queue.soon action v.queue) idle
    (λ test follows. live-appended test follows (queue.next_name v.queue) action v.queue none)
    (any-soon action v.queue is.fallen) is

-- ---- a future is made
pub made_kept : (v : View) (kind : FutureKind) → v.called ≡ None → owner_in kind ≡ None → IsKept v
    → IsKept (record v { futures = v.futures ++ record { kind = kind; outcome = None; callbacks = [] } ∷ [] })
made_kept v kind idle free is =
    let sound = at_rest v.running v.called (parts v) idle is.sound in
    record {
      no_cycle = no_bare_cycle (make_future kind (parts v)) (subst HasNoCycle (make-bare kind (parts v))
          (make_no_cycle kind free v.running v.running (bare (parts v)) sound (bare_no_cycle (parts v) is.no_cycle)));
      sound = rests v.running v.called (make_future kind (parts v)) idle
          (subst (ArePartsSound v.running v.running) (make-bare kind (parts v))
          (make_sound kind free v.running v.running (bare (parts v)) sound));
      timers = is.timers;
      fallen = is.fallen;
    }

-- ---- handles and timers are cancelled
pub cancel_handle_kept : (v : View) (name : HandleName) → v.called ≡ None → NamesNoStep name v.queue → IsKept v
    → IsKept (record v { queue = queue.cancelled name v.queue })
cancel_handle_kept v name idle none is =
    queue_kept v (queue.cancelled name v.queue) idle
    (λ test follows. live-cancelled test follows name v.queue none)
    (any-cancelled steps_as_timer (λ n h. refl) name v.queue ∙ is.fallen) is

-- no timer's handle is a step
timer_named : (number : ℕ) (handles : List Handle) → list_any steps_as_timer handles ≡ false
    → list_any (steps_as (name.Timer number)) handles ≡ false
timer_named number [] none = refl
timer_named number (h ∷ handles) none =
    let both = or_none (steps_as_timer h) (list_any steps_as_timer handles) none in
    none_or (steps_as (name.Timer number) h) (list_any (steps_as (name.Timer number)) handles)
    (one h.name both.0) (timer_named number handles both.1)
  where
    neither : (b c : Bool) → c ≡ false → (b && c) ≡ false
    neither true c e = e
    neither false c e = refl

    one : (n : HandleName) → (is_timer n && is_step h.action) ≡ false
        → (is_same (name.Timer number) n && (not h.dead && is_step h.action)) ≡ false
    one name.Nameless e = refl
    one (name.Given other) e = refl
    one (name.Timer other) e =
        neither (number == other) (not h.dead && is_step h.action) (neither (not h.dead) (is_step h.action) e)

any-without : (id : TimerId) (timers : List Timer) → list_any steps_later timers ≡ false → list_any steps_later (without id timers) ≡ false
any-without id [] none = refl
any-without id (timer ∷ timers) none =
    let both = or_none (steps_later timer) (list_any steps_later timers) none in
    go (is_of id timer) both.0 both.1 (any-without id timers both.1)
  where
    go : (b : Bool) → steps_later timer ≡ false → list_any steps_later timers ≡ false → list_any steps_later (without id timers) ≡ false
        → list_any steps_later (if b then timers else timer ∷ without id timers) ≡ false
    go true one others rest = others
    go false one others rest = none_or (steps_later timer) (list_any steps_later (without id timers)) one rest

pub cancel_timer_kept : (v : View) (id : TimerId) → v.called ≡ None → IsKept v
    → IsKept (record v {
      schedule = record v.schedule { live = without id v.schedule.live };
      queue = if lives id v.schedule.live then v.queue else queue.cancelled (name.Timer id.number) v.queue;
    })
cancel_timer_kept v id idle is = go (lives id v.schedule.live)
  where
    gone : IsKept (record v { schedule = record v.schedule { live = without id v.schedule.live } })
    gone = record {
      no_cycle = is.no_cycle;
      sound = is.sound;
      timers = any-without id v.schedule.live is.timers;
      fallen = is.fallen;
    }

    go : (b : Bool) → IsKept (record v {
      schedule = record v.schedule { live = without id v.schedule.live };
      queue = if b then v.queue else queue.cancelled (name.Timer id.number) v.queue;
    })
    go true = gone
    go false =
        cancel_handle_kept (record v { schedule = record v.schedule { live = without id v.schedule.live } }) (name.Timer id.number) idle
        (timer_named id.number (waiting v.queue) is.fallen) gone

-- ---- timers are made and fall due
any-placed : (timer : Timer) (timers : List Timer) → steps_later timer ≡ false → list_any steps_later timers ≡ false
    → list_any steps_later (placed_after timer timers) ≡ false
any-placed timer [] one none = none_or (steps_later timer) false one refl
any-placed timer (other ∷ others) one none =
    let both = or_none (steps_later other) (list_any steps_later others) none in
    go (nat_lt timer.when other.when) (any-placed timer others one both.1) both.0
  where
    go : (b : Bool) → list_any steps_later (placed_after timer others) ≡ false → steps_later other ≡ false
        → list_any steps_later (if b then timer ∷ other ∷ others else other ∷ placed_after timer others) ≡ false
    go true rest first = none_or (steps_later timer) (list_any steps_later (other ∷ others)) one none
    go false rest first = none_or (steps_later other) (list_any steps_later (placed_after timer others)) first rest

pub at_kept : (v : View) (timer : Timer) (next : ℕ) → is_step timer.action ≡ false → IsKept v
    → IsKept (record v { schedule = record { live = placed_after timer v.schedule.live; next = next } })
at_kept v timer next none is = record {
  no_cycle = is.no_cycle;
  sound = is.sound;
  timers = any-placed timer v.schedule.live none is.timers;
  fallen = is.fallen;
}

-- a timer is made, or was not placed
pub at_or_not : {E : Type 0} (v : View) (schedule : Schedule) (action : Action) (result : Result TimerId E) → is_step action ≡ false
    → IfOk result (λ id. schedule ≡ record { live = placed_after (timer id action) v.schedule.live; next = v.schedule.next + 1 })
    → OnErr result (schedule ≡ v.schedule) → IsKept v → IsKept (record v { schedule = schedule })
at_or_not v schedule action (Ok id) none after err is =
    subst (λ s. IsKept (record v { schedule = s })) (sym after) (at_kept v (timer id action) (v.schedule.next + 1) none is)
at_or_not v schedule action (Err fault) none after err is = subst (λ s. IsKept (record v { schedule = s })) (sym err) is

any-filter : (p : Timer → Bool) (timers : List Timer) → list_any steps_later timers ≡ false → list_any steps_later (filter p timers) ≡ false
any-filter p [] none = refl
any-filter p (timer ∷ timers) none =
    let both = or_none (steps_later timer) (list_any steps_later timers) none in
    go (p timer) both.0 (any-filter p timers both.1)
  where
    go : (b : Bool) → steps_later timer ≡ false → list_any steps_later (filter p timers) ≡ false
        → list_any steps_later (cond b (timer ∷ filter p timers) (filter p timers)) ≡ false
    go true one rest = none_or (steps_later timer) (list_any steps_later (filter p timers)) one rest
    go false one rest = rest

pub due_kept : (v : View) (now : ℕ) → v.called ≡ None → IsKept v
    → IsKept (record v {
      schedule = record v.schedule { live = later_than now v.schedule.live };
      queue = fallen (due_at now v.schedule.live) v.queue;
    })
due_kept v now idle is =
    let come = any-filter (λ (timer : Timer). nat_le timer.when now) v.schedule.live is.timers in
    queue_kept (record v { schedule = record v.schedule { live = later_than now v.schedule.live } })
    (fallen (due_at now v.schedule.live) v.queue) idle
    (λ test follows. live-fallen test follows (due_at now v.schedule.live) v.queue come)
    (any-fallen (due_at now v.schedule.live) v.queue come is.fallen)
    (record {
      no_cycle = is.no_cycle;
      sound = is.sound;
      timers = any-filter (λ (timer : Timer). nat_lt now timer.when) v.schedule.live is.timers;
      fallen = is.fallen;
    })

pub barred_kept : (v : View) → v.called ≡ None → IsKept v → IsKept (record v { queue = queue.barred v.queue })
barred_kept v idle is =
    queue_kept v (queue.barred v.queue) idle
    (λ test follows. ap (live test) (waiting-barred v.queue))
    (ap (list_any steps_as_timer) (waiting-barred v.queue) ∙ is.fallen) is

-- ---- the room that a request needs
pub room_same : (v w : Awaitables) (stack : Stacked) (seen : Marked) (notes : Noted) → room_of (request.parts w) ≡ room_of (request.parts v)
    → length w.tasks ≡ length v.tasks → walk.HasRoom v stack seen notes → walk.HasRoom w stack seen notes
room_same v w stack seen notes rooms tasks has = record {
  empty = has.empty;
  unseen = has.unseen;
  unnoted = has.unnoted;
  fits = subst (λ n. n ≤ stack.room) (sym rooms) has.fits;
  marked = subst (λ n. n ≤ seen.tasks) (sym tasks) has.marked;
}
