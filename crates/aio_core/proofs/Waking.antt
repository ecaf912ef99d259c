-- A turn's answer: the time goes on, what came appends its callbacks, timers fall due, and all that is pending stands before
-- the bar.
use Rattle.std.proofs.Common.{◌≡◌, ℕ, ◌<◌, ◌≤◌, ◌+◌, Bool, true, false, ◌&&◌, List, [], ◌∷◌, ◌++◌, Option, Some, None, length, max, ◌∙◌, refl, sym, ap, subst}
use Rattle.std.proofs.Common.{arith}
use Rattle.std.proofs.Math.Logic.{∥∥₁_elim}
use Rattle.std.proofs.lemmas.Bool.{false≢true, leb-true}
use Rattle.std.proofs.lemmas.List.{length-map}
use Rattle.std.specs.Coded.{le_prop}
use Rattle.std.specs.Prelude.{nat_le, nat_lt, filter, is_none, is_some, not, min, ◌-◌, ◌^◌}
use Rattle.std.specs.Option.{option_map}
use Rattle.model_value.specs.Action.{Action}
use Rattle.model_value.specs.Number.{most}
use Rattle.model_wire.specs.declared.answer.Answer.TheVariants as answer
use Rattle.model_wire.specs.declared.watch.Watch.{Watch}
use Rattle.model_wire.specs.Call.{Answer}
use Rattle.model_wire.specs.Fits.{fits, are_few, are_awaited}
use Rattle.model_loop.specs.Handles.{by_deadline, due, fall_due, soon, soon_all}
use Rattle.model_loop.specs.Loop.{in_parts}
use Rattle.model_loop.specs.Parts.{Parts, Timer}
use Rattle.model_machine.specs.Outside.{news_of, select, time_of}
use Rattle.model_machine.specs.State.{State, unbooked_in}
use Rattle.model_machine.specs.Turn.{is_stalled, longest_wait, wait_of, watched_by, woken_by}
use Rattle.refine_parts.proofs.Appending.{kept_soon_all, waiting_kept}
use Rattle.refine_parts.proofs.Running.{keeps_barred}
use Rattle.refine_parts.proofs.Scheduling.{due_name_map, keeps_fallen, stall_kept, wait_kept}
use Rattle.refine_parts.specs.Waiting.{is_none_watched, stalls_by, wait_by}
use Rattle.law_runs.proofs.Turning.{woken_in}
use Rattle.aio_ready.specs.Queue as queue
use Rattle.aio_timer.specs.Schedule as schedule
use Rattle.aio_timer.specs.declared.live.TimerId.{TimerId}
use Rattle.aio_cancel.specs.Awaitables.{waiting}
use Rattle.aio_timeout.proofs.Keeping.{timeouts_stay}
use Rattle.aio_group.specs.GoesOn.{PartsGoOn}
use Rattle.aio_group.proofs.Standing.{groups_on}
use Rattle.aio_task.specs.View.{View}
use Rattle.aio_task.specs.Keeps.{NameMap, Keeps, Knows, ByTimer, handle_as}
use Rattle.aio_extra.specs.Added.{Added, GoesBeside, named_in, owned_by}
use Rattle.aio_body.specs.declared.run_state.RunState.{RunState}
use Rattle.aio_body.specs.Stands.{Context, Stands, IsBetween, IsOwnSleep, Possible}
use Rattle.aio_body.proofs.Lasting.{parts_change, spares_none, stands_left}
use Rattle.aio_body.proofs.Left.{leaves_handles}
use Rattle.aio_body.proofs.May.{same_prop}
use Rattle.aio_core.specs.Turning.{IsTime, all_below}

-- ---- what fits is a time
first_of_both : (a b : Bool) → (a && b) ≡ true → a ≡ true
first_of_both true b h = refl
first_of_both false b h = absurd (false≢true h)

pub fits_time : (wait : Option ℕ) (watched : List Watch) (it : Answer) → fits (select wait watched) it ≡ true → IsTime it
fits_time wait watched (answer.Turn now items) h =
    leb-true now most (first_of_both (nat_le now most) (are_few items && are_awaited watched items) h)
fits_time wait watched _ h = absurd (false≢true h)

-- ---- the time
pub keeps_timed : (t : NameMap) (v : View) (p : Parts) (now : ℕ) → Keeps t v p → Keeps t (record v { time = now }) (record p { time = now })
keeps_timed t v p now k = record {
  time = refl;
  handles = record {
    early = k.handles.early;
    late = k.handles.late;
    pending = k.handles.pending;
    below = k.handles.below;
    after = k.handles.after;
    before_bar = k.handles.before_bar;
    past_bar = k.handles.past_bar;
    bar_given = k.handles.bar_given;
  };
  timers = k.timers;
  deadlines = k.deadlines;
  names = k.names;
  futures = k.futures;
  made = k.made;
  done = k.done;
  tasks = k.tasks;
  numbered = record { stamps = k.numbered.stamps; tags = k.numbered.tags; members = k.numbered.members };
}

own_timed : (p : Parts) (now : ℕ) (named : ℕ → Type 0) (sleeper : Option ℕ) (id : ℕ) → IsOwnSleep p named sleeper id
    → IsOwnSleep (record p { time = now }) named sleeper id
own_timed p now named sleeper id own = record { plain = own.plain; unnamed = own.unnamed; alone = own.alone }

knows_timed : (t : NameMap) (p : Parts) (now bar tag : ℕ) (id : TimerId) → Knows t p tag (ByTimer id)
    → Knows (record t { bar = bar }) (record p { time = now }) tag (ByTimer id)
knows_timed t p now bar tag id k = record { given = k.given; known = k.known }

module _ {X : Type 0} {a : Added X} where
  -- The time is set, and the bar stands here.
  pub stands_timed : (c : Context a) (body : RunState X) (s : State a.Kept) (v : View) (now bar : ℕ) (h : Stands None c body s) → now ≤ most
      → v.profile ≡ body.parts.profile
      → Keeps (record h.name_map { bar = bar }) v (record s.loop.parts { time = now })
      → Stands None (record c { left = length v.queue.below; bar = bar }) (record body { parts = v }) (unbooked_in (λ p. record p { time = now }) s)
  stands_timed c body s v now bar h few profile keeps =
      parts_change None c body s u v body.timeouts body.groups body.extra (in_parts (λ _. q) s.loop) s.extra (length v.queue.below) bar h (record {
        keeps = keeps;
        blocks = record {
          timeouts = timeouts_stay h.name_map u p q body.timeouts s.loop.timeouts (λ tag below. refl) (omega arith) h.blocks.timeouts;
          groups = groups_on h.name_map u p q on refl body.groups s.loop.groups h.blocks.groups;
        };
        profile = refl;
        tasks = refl;
        living = λ task l. l;
        knows = λ tag timer. knows_timed h.name_map p now bar tag timer;
        own = own_timed p now (named_in a s);
        gone = λ id e. own_timed p now (named_in a s) None id (h.gone id e);
        time = few;
        counts = h.counts;
        extra = a.goes_on h.name_map u p q body.extra s.extra h.extra frame;
      }) refl refl profile
    where
      p : Parts
      p = s.loop.parts

      q : Parts
      q = record s.loop.parts { time = now }

      u : NameMap
      u = record h.name_map { bar = bar }

      on : PartsGoOn p q
      on = record {
        tasks = omega arith;
        futures = omega arith;
        own = λ _ _. refl;
        owners = λ _ _. refl;
        failures = λ _ _ e. e;
      }

      frame : GoesBeside (owned_by a s.extra) h.name_map p u q
      frame = record {
        known = λ tag below. refl;
        tags = omega arith;
        gone = λ id own. refl;
        futures = omega arith;
        plain = λ id e. e;
        owners = λ id below. refl;
      }

-- ---- timers fall due
fall_due_keeps : (timers : List Timer) (p : Parts)
    → ((fall_due timers p).futures ≡ p.futures) × ((fall_due timers p).tasks ≡ p.tasks) × ((fall_due timers p).time ≡ p.time)
fall_due_keeps [] p = (refl, refl, refl)
fall_due_keeps (timer ∷ timers) p =
    fall_due_keeps timers (record p {
      pending = p.pending ++ record { stamp = p.next_stamp; tag = timer.tag; action = timer.action; dead = false } ∷ [];
      next_stamp = p.next_stamp + 1;
    })

-- ---- what came appends its callbacks
soon_all_keeps : (actions : List Action) (p : Parts)
    → ((soon_all actions p).futures ≡ p.futures) × ((soon_all actions p).tasks ≡ p.tasks) × ((soon_all actions p).time ≡ p.time)
soon_all_keeps [] p = (refl, refl, refl)
soon_all_keeps (action ∷ actions) p = soon_all_keeps actions (soon action p)

-- ---- all of it
-- the parts' view after the calls
abbrev pub timed_view : ℕ → View → View
timed_view now v = record v { time = now }

abbrev pub news_view : List Action → View → View
news_view actions v = record v { queue = queue.soon_all actions v.queue }

abbrev pub due_view : ℕ → View → View
due_view now v = record v {
  schedule = record v.schedule { live = schedule.later_than now v.schedule.live };
  queue = schedule.fallen (schedule.due_at now v.schedule.live) v.queue;
}

abbrev pub barred_view : View → View
barred_view v = record v { queue = queue.barred v.queue }

abbrev pub woken_view : List Action → ℕ → View → View
woken_view actions now v = barred_view (due_view now (news_view actions (timed_view now v)))

due_keeps : (p : Parts) → ((due p).futures ≡ p.futures) × ((due p).tasks ≡ p.tasks) × ((due p).time ≡ p.time)
due_keeps p =
    fall_due_keeps (by_deadline (filter (λ (timer : Timer). nat_le timer.when p.time) p.timers))
    (record p { timers = filter (λ (timer : Timer). nat_lt p.time timer.when) p.timers })

module _ {X : Type 0} {a : Added X} (c : Context a) (body : RunState X) (s : State a.Kept) (actions : List Action) (now : ℕ)
    (few : now ≤ most) where
  abbrev at_now : View
  at_now = timed_view now body.parts

  abbrev heard : View
  heard = news_view actions at_now

  abbrev timed : State a.Kept
  timed = unbooked_in (λ p. record p { time = now }) s

  abbrev told : State a.Kept
  told = unbooked_in (soon_all actions) timed

  abbrev fell : State a.Kept
  fell = unbooked_in due told

  timed_stands : (h : Stands None c body s)
      → Stands None (record c { left = length body.parts.queue.below; bar = h.name_map.bar }) (record body { parts = at_now }) timed
  timed_stands h = stands_timed c body s at_now now h.name_map.bar h few refl (keeps_timed h.name_map body.parts s.loop.parts now h.keeps)

  told_stands : (d : Context a) (h : Stands None d (record body { parts = at_now }) timed)
      → Stands None (record d { left = length heard.queue.below }) (record body { parts = heard }) told
  told_stands d h =
      let is = soon_all_keeps actions timed.loop.parts in
      stands_left None None d (record body { parts = at_now }) timed heard (in_parts (soon_all actions)) h
      (kept_soon_all h.name_map at_now timed.loop.parts actions h.keeps)
      (leaves_handles timed.loop.parts (soon_all actions timed.loop.parts) is.0 is.1 is.2)
      (spares_none timed.loop.parts (named_in a timed)) (refl, (refl, refl))
      refl

  fell_stands : (d : Context a) (h : Stands None d (record body { parts = heard }) told)
      → Stands None (record d { left = length (due_view now heard).queue.below }) (record body { parts = due_view now heard })
      fell
  fell_stands d h =
      let is = due_keeps told.loop.parts in
      stands_left None None d (record body { parts = heard }) told (due_view now heard) (in_parts due) h
      (record {
        name_map = h.name_map;
        keeps = keeps_fallen h.name_map heard told.loop.parts now h.keeps refl;
        extends = due_name_map h.name_map told.loop.parts;
      })
      (leaves_handles told.loop.parts (due told.loop.parts) is.0 is.1 is.2) (spares_none told.loop.parts (named_in a told))
      (refl, (refl, refl)) refl

  all_stand : (d : Context a) (h : Stands None d (record body { parts = due_view now heard }) fell)
      → Stands None (record d { left = length fell.loop.parts.pending; bar = fell.loop.parts.next_stamp })
      (record body { parts = woken_view actions now body.parts }) fell
  all_stand d h =
      subst (λ n. Stands None (record d { left = n; bar = fell.loop.parts.next_stamp })
      (record body { parts = woken_view actions now body.parts }) fell)
      (ap length (waiting_kept h.name_map (due_view now heard) fell.loop.parts h.keeps) ∙ length-map fell.loop.parts.pending
      (handle_as h.name_map.known))
      (stands_timed d (record body { parts = due_view now heard }) fell (woken_view actions now body.parts) fell.loop.parts.time
      fell.loop.parts.next_stamp h h.time refl (keeps_barred h.name_map (due_view now heard) fell.loop.parts h.keeps))

  pub wakes : Stands None c body s
      → Stands None (record c { left = length fell.loop.parts.pending; bar = fell.loop.parts.next_stamp })
      (record body { parts = woken_view actions now body.parts }) fell
  wakes h = let first = timed_stands h in let second = told_stands _ first in let third = fell_stands _ second in all_stand _
      third

most_of : (it : Answer) → IsTime it → time_of it ≤ most
most_of (answer.Turn now items) h = h
most_of _ h = absurd h

pub later_time : (it : Answer) → IsTime it → (time : ℕ) → time ≤ most → max time (time_of it) ≤ most
later_time it h time few = let most_it = most_of it h in omega (arith, few, most_it)

module _ {X : Type 0} {a : Added X} where
  pub time_few : (body : RunState X) → Possible a IsBetween body → body.parts.time ≤ most
  time_few body alive =
      ∥∥₁_elim alive le_prop (λ w. subst (λ n. n ≤ most) (sym w.1.1.stands.keeps.time) w.1.1.stands.time)

  pub idle_alive : (body : RunState X) → Possible a IsBetween body → body.parts.called ≡ None
  idle_alive body alive = ∥∥₁_elim alive (same_prop body.parts.called None) (λ w. w.1.1.called)

  pub wakes_so : (c : Context a) (body : RunState X) (s : State a.Kept) (it : Answer) → IsTime it → IsBetween c body s
      → IsBetween (all_below c (unbooked_in (woken_by it) s))
      (record body { parts = woken_view (news_of it) (max body.parts.time (time_of it)) body.parts })
      (unbooked_in (woken_by it) s)
  wakes_so c body s it is h = record {
    stands =
        subst (λ q. Stands None (all_below c (unbooked_in (λ p. q) s))
        (record body { parts = woken_view (news_of it) now body.parts })
        (unbooked_in (λ p. q) s)) (sym same)
        (wakes c body s (news_of it) now (later_time it is body.parts.time (subst (λ n. n ≤ most) (sym h.stands.keeps.time)
        h.stands.time)) h.stands);
    called = h.called;
    running = h.running;
    sound = woken_in a.meaning s it h.sound;
  }
    where
      now : ℕ
      now = max body.parts.time (time_of it)

      same : woken_by it s.loop.parts ≡ due (soon_all (news_of it) (record s.loop.parts { time = now }))
      same = ap (λ n. due (soon_all (news_of it) (record s.loop.parts { time = max n (time_of it) }))) (sym h.stands.keeps.time)

  pub tasks_few : (body : RunState X) → Possible a IsBetween body → length body.slots.items < 2 ^ 32
  tasks_few body alive = ∥∥₁_elim alive le_prop (λ w. w.1.1.stands.few)

-- ---- what a turn asks first
-- no timer lives
none_first : (o : Option ℕ) (none : Bool) → is_some o ≡ not none → is_none o ≡ none
none_first None true is = refl
none_first None false is = absurd (false≢true is)
none_first (Some when) true is = absurd (false≢true (sym is))
none_first (Some when) false is = refl

twice : (b : Bool) → not (not b) ≡ b
twice true = refl
twice false = refl

module _ (idle : Bool) (first told : Option ℕ) (none : Bool) (watched : List Watch) (is_idle : idle ≡ true) (same : told ≡ first)
    (is : is_some told ≡ not none) where
  stall_idle : (b : Bool) → none ≡ b → (b && is_none_watched watched) ≡ stalls_by idle first watched
  stall_idle b e =
      ap (λ n. n && is_none_watched watched) (sym e ∙ sym (none_first told none is) ∙ ap is_none same)
      ∙ ap (λ i. i && (is_none first && is_none_watched watched)) (sym is_idle)

  pub stall_then : (some : Bool) → none ≡ true → some ≡ not (is_none_watched watched) → not some ≡ stalls_by idle first watched
  stall_then some e watches = ap not watches ∙ twice (is_none_watched watched) ∙ stall_idle true e

  pub stall_timer : none ≡ false → false ≡ stalls_by idle first watched
  stall_timer e = stall_idle false e

pub stall_else : (idle : Bool) (first : Option ℕ) (watched : List Watch) → idle ≡ false → false ≡ stalls_by idle first watched
stall_else true first watched e = absurd (false≢true (sym e))
stall_else false first watched e = refl

pub wait_busy : (idle : Bool) (first : Option ℕ) (time : ℕ) → idle ≡ false → Some 0 ≡ wait_by idle first time
wait_busy true first time e = absurd (false≢true (sym e))
wait_busy false first time e = refl

pub wait_idle : (idle : Bool) (first : Option ℕ) (time : ℕ) → idle ≡ true → option_map (λ when. min (when - time) longest_wait) first ≡ wait_by idle first time
wait_idle true first time e = refl
wait_idle false first time e = absurd (false≢true e)

module _ {X : Type 0} {a : Added X} where
  pub stalls_so : (c : Context a) (body : RunState X) (s : State a.Kept) → IsBetween c body s
      → stalls_by (queue.is_empty (waiting body.parts.queue)) (schedule.first_when body.parts.schedule.live)
      (watched_by a.meaning s)
      ≡ is_stalled a.meaning s
  stalls_so c body s h = sym (stall_kept h.stands.name_map body.parts s.loop.parts h.stands.keeps (watched_by a.meaning s))

  pub waits_for : (c : Context a) (body : RunState X) (s : State a.Kept) → IsBetween c body s
      → wait_by (queue.is_empty (waiting body.parts.queue)) (schedule.first_when body.parts.schedule.live)
      body.parts.time ≡ wait_of s.loop.parts
  waits_for c body s h = sym (wait_kept h.stands.name_map body.parts s.loop.parts h.stands.keeps)
