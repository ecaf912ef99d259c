-- What a request comes to: it goes through, and wakes waiters alone, or its task waits on a new future.
use Rattle.std.proofs.Common.{◌≡◌, ℕ, zero, suc, ℤ, pos, negsuc, ◌+◌, ◌⊎◌, inl, inr, Bool, true, false, List, [], ◌∷◌, ◌++◌, Option, Some, None, length, map, slice_get, refl, sym, ap, subst, ◌∙◌}
use Rattle.std.specs.Prelude.{not, ◌&&◌, ◌==◌, nat_lt, if◌then◌else◌}
use Rattle.std.specs.List.{AllByRecursion as Each, flat_map}
use Rattle.std.specs.Map.{lookup, set_value}
use Rattle.model_value.specs.Input.{Input}
use Rattle.model_value.specs.Value.{Exc, Int, Nothing, Outcome, Truth, Value}
use Rattle.model_value.specs.declared.input.Input.TheVariants.{Send, Throw}
use Rattle.model_value.specs.declared.outcome.Outcome.TheVariants.{Value as Returned}
use Rattle.model_loop.specs.Futures.{future_outcome, is_pending, next_future}
use Rattle.model_loop.specs.Parts.{Parts}
use Rattle.model_loop.specs.Tasks.{is_cancelled}
use Rattle.model_machine.specs.Extra as extra
use Rattle.model_machine.specs.Extra.{Answers, Raises, Waits, ExtraAnswer, ExtraSaid, ExtraStep, MakesPlain, Settles}
use Rattle.model_sync.specs.Synced.{Acquires, Awaits, Event, Gets, Lock, Puts, Queue, Synced, Tried, Waiting, draw, is_place, next_key, number_of, numbered}
use Rattle.model_sync.specs.Synced.{on_of, raises, says, sync_keeps, tried_again, tried_first, values_of, wait_again, wait_last, wait_over, waiting_at, wake_first}
use Rattle.model_sync.specs.Synced.{wakes, without}
use Rattle.model_sync.specs.Locks.{acquire, acquired, are_cancelled, is_locked, make_lock, no_lock, not_acquired, on_lock, release, set_lock, take_lock}
use Rattle.model_sync.specs.Events.{clear, is_set, make_event, no_event, on_event, see_event, set, set_event, wait, waited}
use Rattle.model_sync.specs.Queues.{Woken, get, get_from, getting, got_value, is_full, make_queue, next_if, no_queue, on_queue, put, put_in, putting, set_queue}
use Rattle.model_sync.specs.Queues.{size, wake_next}
use Rattle.model_sync.specs.Serving.{Acquire, Clear, Get, IsLocked, IsSet, MakesEvent, MakesLock, MakesQueue, Put, Release, Set, Size, Wait, Wanted, served}
use Rattle.law_runs.specs.Allowed.{IsAmong}
use Rattle.law_sync.proofs.Lists.{among_left, each_append, each_at, each_filter, each_on, each_removed, each_replaced, each_set, last_among}
use Rattle.law_sync.proofs.Lists.{replaced_among}
use Rattle.law_sync.proofs.Holding.{EventHolds, Holds, LockHolds, QueueHolds, WaitingHolds, holds_on}

-- ---- of the futures that it had, and the values
module _ (O : ℕ → Type 0) (V : Value → Type 0) where
  abbrev pub Wakes : ExtraStep → Type 0
  Wakes (Settles future outcome) = O future × (outcome ≡ Returned Nothing)
  Wakes _ = ⊥

  abbrev pub AnswerHolds : ExtraAnswer → Type 0
  AnswerHolds (Answers value) = V value
  AnswerHolds (Raises exception) = Unit {0}
  AnswerHolds _ = ⊥

  pub record GoesOn (drawn : ℕ) (said : ExtraSaid Synced) : Type 0 where
    pub state : Holds O V said.call.state
    pub keys : said.call.state.drawn ≡ drawn
    pub steps : Each Wakes said.call.steps
    pub answer : AnswerHolds said.answer

  -- one of these, or the new one
  abbrev pub OrNext : (next : ℕ) → ℕ → Type 0
  OrNext next id = O id ⊎ (id ≡ next)

  pub record WaitsOn (next drawn key : ℕ) (said : ExtraSaid Synced) : Type 0 where
    pub state : Holds (OrNext next) V said.call.state
    pub keys : said.call.state.drawn ≡ drawn
    pub steps : said.call.steps ≡ MakesPlain ∷ []
    pub answer : said.answer ≡ Waits next key
    pub there : IsAmong (sync_keeps said.call.state).own next

  abbrev pub Comes : (next drawn key : ℕ) → ExtraSaid Synced → Type 0
  Comes next drawn key said = GoesOn drawn said ⊎ WaitsOn next drawn key said

-- ---- states
module _ (P : ℕ → Type 0) (V : Value → Type 0) where
  keyed : (kept : Synced) (n : ℕ) → Holds P V kept → Holds P V (record kept { drawn = n })
  keyed kept n h = record { waiting = h.waiting; locks = h.locks; events = h.events; queues = h.queues }

  last_holds : (kept : Synced) (it : Waiting) → Holds P V kept → P (on_of it) → Each V (values_of it) → Holds P V (wait_last it kept)
  last_holds kept it h on vals = record {
    waiting = each_append (WaitingHolds P V) kept.waiting ((kept.drawn, it) ∷ []) h.waiting ((on, vals), tt);
    locks = h.locks;
    events = h.events;
    queues = h.queues;
  }

  again_holds : (kept : Synced) (place : ℕ) (it : Waiting) → Holds P V kept → P (on_of it) → Each V (values_of it)
      → Holds P V (wait_again place it kept)
  again_holds kept place it h on vals = record {
    waiting = each_replaced (WaitingHolds P V) (is_place place) kept.waiting it h.waiting (λ key. (on, vals));
    locks = h.locks;
    events = h.events;
    queues = h.queues;
  }

  over_holds : (kept : Synced) (place : ℕ) → Holds P V kept → Holds P V (wait_over place kept)
  over_holds kept place h = record {
    waiting = each_removed (WaitingHolds P V) (is_place place) kept.waiting h.waiting;
    locks = h.locks;
    events = h.events;
    queues = h.queues;
  }

  lock_holds : (id : ℕ) (lock : Lock) (kept : Synced) → LockHolds P V lock → Holds P V kept → Holds P V (set_lock id lock kept)
  lock_holds id lock kept l h = record {
    waiting = h.waiting;
    locks = each_set (LockHolds P V) kept.locks id lock h.locks l;
    events = h.events;
    queues = h.queues;
  }

  event_holds : (id : ℕ) (event : Event) (kept : Synced) → EventHolds P V event → Holds P V kept → Holds P V (set_event id event kept)
  event_holds id event kept e h = record {
    waiting = h.waiting;
    locks = h.locks;
    events = each_set (EventHolds P V) kept.events id event h.events e;
    queues = h.queues;
  }

  queue_holds : (id : ℕ) (queue : Queue) (kept : Synced) → QueueHolds P V queue → Holds P V kept → Holds P V (set_queue id queue kept)
  queue_holds id queue kept q h = record {
    waiting = h.waiting;
    locks = h.locks;
    events = h.events;
    queues = each_set (QueueHolds P V) kept.queues id queue h.queues q;
  }

numbered_at : {A : Type 0} (P : A → Type 0) (all : List A) (id : ℤ) (x : A) → numbered all id ≡ Some x → Each P all → P x
numbered_at P all (pos id) x e a = each_at P all id x e a
numbered_at P all (negsuc before) x e a = absurd (cc)

-- ---- tries
module _ (O : ℕ → Type 0) (V : Value → Type 0) (next : ℕ) where
  -- of a lock, an event or a queue, of which this is so
  abbrev pub TriedAt : {A : Type 0} → (H : (ℕ → Type 0) → A → Type 0) → Tried A → Option Value → Type 0
  TriedAt H it (Some value) = H O it.now × (Each (Wakes O V) it.steps × V value)
  TriedAt H it None = H (OrNext O V next) it.now × (it.steps ≡ MakesPlain ∷ [])

  abbrev pub TriedComes : {A : Type 0} → (H : (ℕ → Type 0) → A → Type 0) → Tried A → Type 0
  TriedComes H it = TriedAt H it it.answer

  module _ {A : Type 0} (H : (ℕ → Type 0) → A → Type 0) (put : A → Synced → Synced)
      (puts : (P : ℕ → Type 0) (now : A) (kept : Synced) → H P now → Holds P V kept → Holds P V (put now kept))
      (keys : (now : A) (kept : Synced) → (put now kept).drawn ≡ kept.drawn)
      (waits : (now : A) (kept : Synced) → (put now kept).waiting ≡ kept.waiting) (it : Tried A) (waiting : Waiting) (p : Parts) (kept : Synced)
      (is_next : next ≡ next_future p) (tried : TriedComes H it) (holds : Holds O V kept) (on : on_of waiting ≡ next)
      (vals : Each V (values_of waiting)) where
    older : Holds (OrNext O V next) V kept
    older = holds_on O (OrNext O V next) V (λ id o. inl o) kept holds

    is_on : OrNext O V next (on_of waiting)
    is_on = inr on

    there : (state : Synced) → IsAmong (flat_map (λ entry. on_of entry.1 ∷ []) state.waiting) next → IsAmong (sync_keeps state).own next
    there state h =
        among_left (flat_map (λ entry. on_of entry.1 ∷ []) state.waiting)
        (flat_map (λ (lock : Lock). lock.waiters) state.locks ++ (flat_map (λ (event : Event). event.waiters) state.events
        ++ flat_map (λ (queue : Queue). queue.getters ++ queue.putters) state.queues)) next h

    pub first_comes : Comes O V next (kept.drawn + 1) (next_key kept) (tried_first put waiting it p kept)
    first_comes = at it.answer tried
      where
        at : (o : Option Value) → TriedAt H it o
            → Comes O V next (kept.drawn + 1) (next_key kept) (elim o [
              | Some value ↦ says (put it.now (draw kept)) it.steps (Answers value)
              | None ↦ says (put it.now (wait_last waiting kept)) it.steps (Waits (next_future p) (next_key kept))
            ])
        at (Some value) h = inl (record {
          state = puts O it.now (draw kept) h.0 (keyed O V kept (kept.drawn + 1) holds);
          keys = keys it.now (draw kept);
          steps = h.1.0;
          answer = h.1.1;
        })
        at None h = inr (record {
          state = puts (OrNext O V next) it.now (wait_last waiting kept) h.0 (last_holds (OrNext O V next) V kept waiting older is_on vals);
          keys = keys it.now (wait_last waiting kept);
          steps = h.1;
          answer = ap (λ id. Waits id (next_key kept)) (sym is_next);
          there = there (put it.now (wait_last waiting kept))
              (subst (λ ws. IsAmong (flat_map (λ (entry : ℕ × Waiting). on_of entry.1 ∷ []) ws) next) (sym (waits it.now (wait_last waiting kept)))
              (last_among (λ (entry : ℕ × Waiting). on_of entry.1 ∷ []) kept.waiting (kept.drawn, waiting) next (0, ap Some on)));
        })

    pub again_comes : (key place : ℕ) (old : Waiting) → waiting_at place kept ≡ Some old
        → Comes O V next kept.drawn key (tried_again key place put waiting it p kept)
    again_comes key place old found = at it.answer tried
      where
        at : (o : Option Value) → TriedAt H it o
            → Comes O V next kept.drawn key (elim o [
              | Some value ↦ says (put it.now (wait_over place kept)) it.steps (Answers value)
              | None ↦ says (put it.now (wait_again place waiting kept)) it.steps (Waits (next_future p) key)
            ])
        at (Some value) h = inl (record {
          state = puts O it.now (wait_over place kept) h.0 (over_holds O V kept place holds);
          keys = keys it.now (wait_over place kept);
          steps = h.1.0;
          answer = h.1.1;
        })
        at None h = inr (record {
          state = puts (OrNext O V next) it.now (wait_again place waiting kept) h.0 (again_holds (OrNext O V next) V kept place waiting older is_on vals);
          keys = keys it.now (wait_again place waiting kept);
          steps = h.1;
          answer = ap (λ id. Waits id key) (sym is_next);
          there = there (put it.now (wait_again place waiting kept))
              (subst (λ ws. IsAmong (flat_map (λ (entry : ℕ × Waiting). on_of entry.1 ∷ []) ws) next) (sym (waits it.now (wait_again place waiting kept)))
              (replaced_among (λ (entry : ℕ × Waiting). on_of entry.1 ∷ []) (is_place place) kept.waiting old waiting next found (λ key. (0, ap Some on))));
        })

-- what a request puts may be kept
abbrev pub PutsHold : (V : Value → Type 0) → Wanted → Type 0
PutsHold V (Put queue value) = V value
PutsHold V _ = Unit {0}

-- ---- each request
module _ (O : ℕ → Type 0) (V : Value → Type 0) (nothing : V Nothing) (truth : (is : Bool) → V (Truth is)) (int : (n : ℤ) → V (Int n)) (p : Parts)
    (kept : Synced) (holds : Holds O V kept) where
  abbrev next : ℕ
  next = next_future p

  abbrev New : ℕ → Type 0
  New = OrNext O V next

  abbrev pub FirstComes : ExtraSaid Synced → Type 0
  FirstComes said = Comes O V next (kept.drawn + 1) (next_key kept) said

  abbrev pub AgainComes : (key : ℕ) → ExtraSaid Synced → Type 0
  AgainComes key said = Comes O V next kept.drawn key said

  raises_comes : (exception : Exc) → FirstComes (raises exception kept)
  raises_comes exception = inl (record { state = keyed O V kept (kept.drawn + 1) holds; keys = refl; steps = tt; answer = tt })

  -- to be behind the others
  waits_last : (waiters : List ℕ) → Each O waiters → Each New (waiters ++ next ∷ [])
  waits_last waiters all = each_append New waiters (next ∷ []) (each_on O New (λ id o. inl o) waiters all) (inr refl, tt)

  left_out : (on : ℕ) (waiters : List ℕ) → Each O waiters → Each O (without on waiters)
  left_out on waiters all = each_filter O (λ other. not (other == on)) waiters all

  first_woken : (waiters : List ℕ) → Each O waiters → Each (Wakes O V) (wake_first waiters)
  first_woken [] all = tt
  first_woken (waiter ∷ waiters) all = ((all.0, refl), tt)

  all_woken : (waiters : List ℕ) → Each O waiters → Each (Wakes O V) (map wakes waiters)
  all_woken [] all = tt
  all_woken (waiter ∷ waiters) all = ((all.0, refl), all_woken waiters all.1)

  abbrev NextComes : Woken → Type 0
  NextComes it = Each O it.left × Each (Wakes O V) it.steps

  next_woken : (waiters : List ℕ) → Each O waiters → NextComes (wake_next p waiters)
  next_woken [] all = (tt, tt)
  next_woken (waiter ∷ waiters) all = at (next_woken waiters all.1) (is_pending p waiter)
    where
      at : NextComes (wake_next p waiters) → (b : Bool)
          → NextComes (if b then record { left = waiters; steps = wakes waiter ∷ [] } else wake_next p waiters)
      at rest true = (all.1, ((all.0, refl), tt))
      at rest false = rest

  next_if_woken : (is : Bool) (waiters : List ℕ) → Each O waiters → NextComes (next_if is p waiters)
  next_if_woken true waiters all = next_woken waiters all
  next_if_woken false waiters all = (all, tt)

  -- ---- locks
  abbrev LockH : (ℕ → Type 0) → Lock → Type 0
  LockH P lock = LockHolds P V lock

  take_comes : (lock : Lock) → LockHolds O V lock → TriedComes O V next LockH (take_lock p lock)
  take_comes lock l = at (not lock.locked && are_cancelled p lock.waiters)
    where
      at : (b : Bool) → TriedComes O V next LockH
          (if b then record { now = record lock { locked = true }; steps = []; answer = Some (Truth true) }
          else record { now = record lock { waiters = lock.waiters ++ next_future p ∷ [] }; steps = MakesPlain ∷ []; answer = None })
      at true = (l, (tt, truth true))
      at false = (waits_last lock.waiters l, refl)

  acquire_comes : (id : ℕ) (lock : Lock) → LockHolds O V lock → FirstComes (acquire id lock p kept)
  acquire_comes id lock l =
      first_comes O V next LockH (set_lock id) (λ P now k. lock_holds P V id now k) (λ now k. refl) (λ now k. refl) (take_lock p lock)
      (Acquires id next) p kept refl (take_comes lock l) holds refl tt

  release_comes : (id : ℕ) (lock : Lock) → LockHolds O V lock → FirstComes (release id lock p kept)
  release_comes id lock l = at lock.locked
    where
      at : (b : Bool) → FirstComes (if b then says (draw (set_lock id (record lock { locked = false }) kept)) (wake_first lock.waiters) (Answers Nothing)
          else raises not_acquired kept)
      at true = inl (record {
        state = keyed O V (set_lock id (record lock { locked = false }) kept) (kept.drawn + 1) (lock_holds O V id (record lock { locked = false }) kept l holds);
        keys = refl;
        steps = first_woken lock.waiters l;
        answer = nothing;
      })
      at false = raises_comes not_acquired

  locked_comes : (id : ℕ) (lock : Lock) → LockHolds O V lock → FirstComes (is_locked id lock p kept)
  locked_comes id lock l =
      inl (record { state = keyed O V kept (kept.drawn + 1) holds; keys = refl; steps = tt; answer = truth lock.locked })

  make_lock_comes : FirstComes (make_lock kept)
  make_lock_comes = inl (record {
    state = record {
      waiting = holds.waiting;
      locks = each_append (LockHolds O V) kept.locks (record { locked = false; waiters = [] } ∷ []) holds.locks (tt, tt);
      events = holds.events;
      queues = holds.queues;
    };
    keys = refl;
    steps = tt;
    answer = int (pos (length kept.locks));
  })

  pub acquired_comes : (key place id on : ℕ) (input : Input) (lock : Lock) → LockHolds O V lock → AgainComes key (acquired place id on input lock kept)
  acquired_comes key place id on (Send value) lock l = inl (record {
    state = lock_holds O V id (record { locked = true; waiters = without on lock.waiters }) (wait_over place kept) (left_out on lock.waiters l)
        (over_holds O V kept place holds);
    keys = refl;
    steps = tt;
    answer = truth true;
  })
  acquired_comes key place id on (Throw exception) lock l = inl (record {
    state = lock_holds O V id (record lock { waiters = without on lock.waiters }) (wait_over place kept) (left_out on lock.waiters l)
        (over_holds O V kept place holds);
    keys = refl;
    steps = at (is_cancelled exception && not lock.locked);
    answer = tt;
  })
    where
      at : (b : Bool) → Each (Wakes O V) (if b then wake_first (without on lock.waiters) else [])
      at true = first_woken (without on lock.waiters) (left_out on lock.waiters l)
      at false = tt

  -- ---- events
  abbrev EventH : (ℕ → Type 0) → Event → Type 0
  EventH P event = EventHolds P V event

  see_comes : (event : Event) → EventHolds O V event → TriedComes O V next EventH (see_event p event)
  see_comes event e = at event.is_set
    where
      at : (b : Bool) → TriedComes O V next EventH
          (if b then record { now = event; steps = []; answer = Some (Truth true) }
          else record { now = record event { waiters = event.waiters ++ next_future p ∷ [] }; steps = MakesPlain ∷ []; answer = None })
      at true = (e, (tt, truth true))
      at false = (waits_last event.waiters e, refl)

  wait_comes : (id : ℕ) (event : Event) → EventHolds O V event → FirstComes (wait id event p kept)
  wait_comes id event e =
      first_comes O V next EventH (set_event id) (λ P now k. event_holds P V id now k) (λ now k. refl) (λ now k. refl) (see_event p event)
      (Awaits id next) p kept refl (see_comes event e) holds refl tt

  set_comes : (id : ℕ) (event : Event) → EventHolds O V event → FirstComes (set id event p kept)
  set_comes id event e = at event.is_set
    where
      at : (b : Bool) → FirstComes (if b then says (draw kept) [] (Answers Nothing)
          else says (draw (set_event id (record event { is_set = true }) kept)) (map wakes event.waiters) (Answers Nothing))
      at true = inl (record { state = keyed O V kept (kept.drawn + 1) holds; keys = refl; steps = tt; answer = nothing })
      at false = inl (record {
        state = keyed O V (set_event id (record event { is_set = true }) kept) (kept.drawn + 1)
            (event_holds O V id (record event { is_set = true }) kept e holds);
        keys = refl;
        steps = all_woken event.waiters e;
        answer = nothing;
      })

  clear_comes : (id : ℕ) (event : Event) → EventHolds O V event → FirstComes (clear id event p kept)
  clear_comes id event e = inl (record {
    state = keyed O V (set_event id (record event { is_set = false }) kept) (kept.drawn + 1)
        (event_holds O V id (record event { is_set = false }) kept e holds);
    keys = refl;
    steps = tt;
    answer = nothing;
  })

  is_set_comes : (id : ℕ) (event : Event) → EventHolds O V event → FirstComes (is_set id event p kept)
  is_set_comes id event e =
      inl (record { state = keyed O V kept (kept.drawn + 1) holds; keys = refl; steps = tt; answer = truth event.is_set })

  make_event_comes : FirstComes (make_event kept)
  make_event_comes = inl (record {
    state = record {
      waiting = holds.waiting;
      locks = holds.locks;
      events = each_append (EventHolds O V) kept.events (record { is_set = false; waiters = [] } ∷ []) holds.events (tt, tt);
      queues = holds.queues;
    };
    keys = refl;
    steps = tt;
    answer = int (pos (length kept.events));
  })

  pub waited_comes : (key place id on : ℕ) (input : Input) (event : Event) → EventHolds O V event → AgainComes key (waited place id on input event kept)
  waited_comes key place id on (Send value) event e = inl (record {
    state = event_holds O V id (record event { waiters = without on event.waiters }) (wait_over place kept) (left_out on event.waiters e)
        (over_holds O V kept place holds);
    keys = refl;
    steps = tt;
    answer = truth true;
  })
  waited_comes key place id on (Throw exception) event e = inl (record {
    state = event_holds O V id (record event { waiters = without on event.waiters }) (wait_over place kept) (left_out on event.waiters e)
        (over_holds O V kept place holds);
    keys = refl;
    steps = tt;
    answer = tt;
  })

  -- ---- queues
  abbrev QueueH : (ℕ → Type 0) → Queue → Type 0
  QueueH P queue = QueueHolds P V queue

  abbrev queue_later : (queue : Queue) → QueueHolds O V queue → QueueHolds New V queue
  queue_later queue q = record {
    values = q.values;
    getters = each_on O New (λ id o. inl o) queue.getters q.getters;
    putters = each_on O New (λ id o. inl o) queue.putters q.putters;
  }

  put_comes : (value : Value) → V value → (queue : Queue) → QueueHolds O V queue → TriedComes O V next QueueH (put_in p value queue)
  put_comes value v queue q = at (is_full queue)
    where
      at : (b : Bool) → TriedComes O V next QueueH
          (if b then record { now = record queue { putters = queue.putters ++ next_future p ∷ [] }; steps = MakesPlain ∷ []; answer = None }
          else record {
            now = record queue { values = queue.values ++ value ∷ []; getters = (wake_next p queue.getters).left };
            steps = (wake_next p queue.getters).steps;
            answer = Some Nothing;
          })
      at true = (record { values = q.values; getters = (queue_later queue q).getters; putters = waits_last queue.putters q.putters }, refl)
      at false = (
        record {
          values = each_append V queue.values (value ∷ []) q.values (v, tt);
          getters = (next_woken queue.getters q.getters).0;
          putters = q.putters;
        },
        ((next_woken queue.getters q.getters).1, nothing),
      )

  get_comes : (queue : Queue) → QueueHolds O V queue → TriedComes O V next QueueH (get_from p queue)
  get_comes queue q = at queue.values q.values
    where
      at : (vs : List Value) → Each V vs → TriedComes O V next QueueH
          (elim vs [
            | [] ↦ record { now = record queue { getters = queue.getters ++ next_future p ∷ [] }; steps = MakesPlain ∷ []; answer = None }
            | value ∷ values ↦ record {
              now = record queue { values = values; putters = (wake_next p queue.putters).left };
              steps = (wake_next p queue.putters).steps;
              answer = Some value;
            }
          ])
      at [] vals = (record { values = q.values; getters = waits_last queue.getters q.getters; putters = (queue_later queue q).putters }, refl)
      at (value ∷ vs) vals = (
        record { values = vals.1; getters = q.getters; putters = (next_woken queue.putters q.putters).0 },
        ((next_woken queue.putters q.putters).1, vals.0),
      )

  puts_comes : (value : Value) → V value → (id : ℕ) (queue : Queue) → QueueHolds O V queue → FirstComes (put value id queue p kept)
  puts_comes value v id queue q =
      first_comes O V next QueueH (set_queue id) (λ P now k. queue_holds P V id now k) (λ now k. refl) (λ now k. refl) (put_in p value queue)
      (Puts id value next) p kept refl (put_comes value v queue q) holds refl (v, tt)

  gets_comes : (id : ℕ) (queue : Queue) → QueueHolds O V queue → FirstComes (get id queue p kept)
  gets_comes id queue q =
      first_comes O V next QueueH (set_queue id) (λ P now k. queue_holds P V id now k) (λ now k. refl) (λ now k. refl) (get_from p queue)
      (Gets id next) p kept refl (get_comes queue q) holds refl tt

  size_comes : (id : ℕ) (queue : Queue) → QueueHolds O V queue → FirstComes (size id queue p kept)
  size_comes id queue q =
      inl (record { state = keyed O V kept (kept.drawn + 1) holds; keys = refl; steps = tt; answer = int (pos (length queue.values)) })

  make_queue_comes : (most : ℤ) → FirstComes (make_queue most kept)
  make_queue_comes most = inl (record {
    state = record {
      waiting = holds.waiting;
      locks = holds.locks;
      events = holds.events;
      queues =
          each_append (QueueHolds O V) kept.queues (record { size = most; values = []; getters = []; putters = [] } ∷ []) holds.queues
          (record { values = tt; getters = tt; putters = tt }, tt);
    };
    keys = refl;
    steps = tt;
    answer = int (pos (length kept.queues));
  })

  pub putting_comes : (key place id on : ℕ) (value : Value) → V value → (input : Input) (queue : Queue) → QueueHolds O V queue
      → (old : Waiting) → waiting_at place kept ≡ Some old → AgainComes key (putting key place id on value input queue p kept)
  putting_comes key place id on value v (Send sent) queue q old found =
      again_comes O V next QueueH (set_queue id) (λ P now k. queue_holds P V id now k) (λ now k. refl) (λ now k. refl) (put_in p value queue)
      (Puts id value next) p kept refl (put_comes value v queue q) holds refl (v, tt) key place old found
  putting_comes key place id on value v (Throw exception) queue q old found =
      let it = next_if_woken (got_value (future_outcome p on) && not (is_full queue)) (without on queue.putters) (left_out on queue.putters q.putters) in
      inl (record {
        state =
            queue_holds O V id
            (record queue { putters = (next_if (got_value (future_outcome p on) && not (is_full queue)) p (without on queue.putters)).left })
            (wait_over place kept) (record { values = q.values; getters = q.getters; putters = it.0 }) (over_holds O V kept place holds);
        keys = refl;
        steps = it.1;
        answer = tt;
      })

  pub getting_comes : (key place id on : ℕ) (input : Input) (queue : Queue) → QueueHolds O V queue → (old : Waiting)
      → waiting_at place kept ≡ Some old → AgainComes key (getting key place id on input queue p kept)
  getting_comes key place id on (Send sent) queue q old found =
      again_comes O V next QueueH (set_queue id) (λ P now k. queue_holds P V id now k) (λ now k. refl) (λ now k. refl) (get_from p queue)
      (Gets id next) p kept refl (get_comes queue q) holds refl tt key place old found
  getting_comes key place id on (Throw exception) queue q old found =
      let it = next_if_woken (got_value (future_outcome p on) && nat_lt 0 (length queue.values)) (without on queue.getters) (left_out on queue.getters q.getters) in
      inl (record {
        state =
            queue_holds O V id
            (record queue { getters = (next_if (got_value (future_outcome p on) && nat_lt 0 (length queue.values)) p (without on queue.getters)).left })
            (wait_over place kept) (record { values = q.values; getters = it.0; putters = q.putters }) (over_holds O V kept place holds);
        keys = refl;
        steps = it.1;
        answer = tt;
      })

  -- ---- by number
  on_lock_comes : (next_ : ℕ → Lock → Parts → Synced → ExtraSaid Synced)
      → ((id : ℕ) (lock : Lock) → LockHolds O V lock → FirstComes (next_ id lock p kept)) → (id : ℤ) → FirstComes (on_lock next_ id p kept)
  on_lock_comes next_ comes id = at (numbered kept.locks id) refl
    where
      at : (o : Option Lock) → numbered kept.locks id ≡ o
          → FirstComes (elim o [ None ↦ raises no_lock kept | Some lock ↦ next_ (number_of id) lock p kept ])
      at None e = raises_comes no_lock
      at (Some lock) e = comes (number_of id) lock (numbered_at (LockHolds O V) kept.locks id lock e holds.locks)

  on_event_comes : (next_ : ℕ → Event → Parts → Synced → ExtraSaid Synced)
      → ((id : ℕ) (event : Event) → EventHolds O V event → FirstComes (next_ id event p kept)) → (id : ℤ) → FirstComes (on_event next_ id p kept)
  on_event_comes next_ comes id = at (numbered kept.events id) refl
    where
      at : (o : Option Event) → numbered kept.events id ≡ o
          → FirstComes (elim o [ None ↦ raises no_event kept | Some event ↦ next_ (number_of id) event p kept ])
      at None e = raises_comes no_event
      at (Some event) e = comes (number_of id) event (numbered_at (EventHolds O V) kept.events id event e holds.events)

  on_queue_comes : (next_ : ℕ → Queue → Parts → Synced → ExtraSaid Synced)
      → ((id : ℕ) (queue : Queue) → QueueHolds O V queue → FirstComes (next_ id queue p kept)) → (id : ℤ) → FirstComes (on_queue next_ id p kept)
  on_queue_comes next_ comes id = at (numbered kept.queues id) refl
    where
      at : (o : Option Queue) → numbered kept.queues id ≡ o
          → FirstComes (elim o [ None ↦ raises no_queue kept | Some queue ↦ next_ (number_of id) queue p kept ])
      at None e = raises_comes no_queue
      at (Some queue) e = comes (number_of id) queue (numbered_at (QueueHolds O V) kept.queues id queue e holds.queues)

  pub served_comes : (wanted : Wanted) → PutsHold V wanted → FirstComes (served wanted p kept)
  served_comes MakesLock v = make_lock_comes
  served_comes (Acquire lock) v = on_lock_comes acquire acquire_comes lock
  served_comes (Release lock) v = on_lock_comes release release_comes lock
  served_comes (IsLocked lock) v = on_lock_comes is_locked locked_comes lock
  served_comes MakesEvent v = make_event_comes
  served_comes (Set event) v = on_event_comes set set_comes event
  served_comes (Clear event) v = on_event_comes clear clear_comes event
  served_comes (IsSet event) v = on_event_comes is_set is_set_comes event
  served_comes (Wait event) v = on_event_comes wait wait_comes event
  served_comes (MakesQueue most) v = make_queue_comes most
  served_comes (Put queue value) v = on_queue_comes (put value) (puts_comes value v) queue
  served_comes (Get queue) v = on_queue_comes get gets_comes queue
  served_comes (Size queue) v = on_queue_comes size size_comes queue
