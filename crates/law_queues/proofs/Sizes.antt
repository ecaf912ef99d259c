-- A queue never holds more than it may.
use Rattle.std.proofs.Common.{◌≡◌, ℕ, zero, suc, map, ℤ, pos, negsuc, ◌+◌, ◌<◌, ◌≤◌, Bool, true, false, List, [], ◌∷◌, ◌++◌, Option, Some, None, length, slice_get}
use Rattle.std.proofs.Common.{refl, sym, ap, subst, ◌∙◌, arith, length-append}
use Rattle.std.specs.Prelude.{not, ◌&&◌, nat_le, nat_lt, if◌then◌else◌}
use Rattle.std.specs.List.{AllByRecursion as Each}
use Rattle.std.proofs.lemmas.Bool.{le-leb, leb-false, leb-true}
use Rattle.model_value.specs.Input.{Input}
use Rattle.model_value.specs.Value.{Exc, Nothing, Outcome, Value}
use Rattle.model_value.specs.declared.input.Input.TheVariants.{Send, Throw}
use Rattle.model_loop.specs.Futures.{future_outcome, next_future}
use Rattle.model_loop.specs.Parts.{Parts}
use Rattle.model_machine.specs.Extra.{Answers, ExtraSaid, MakesPlain, Raises, Waits}
use Rattle.model_machine.specs.State.{State}
use Rattle.model_says.specs.Operations.{out_of_range}
use Rattle.model_reach.specs.Part.{can_draw, place_of, refuses}
use Rattle.model_sync.specs.Synced.{Acquires, Awaits, Event, Gets, Lock, Puts, Queue, Synced, Tried, Waiting, answers, draw, next_key, number_of, numbered, raises, says}
use Rattle.model_sync.specs.Synced.{sync_part, tried_again, tried_first, wait_again, wait_last, wait_over, waiting_at, wake_first, wakes, without}
use Rattle.model_sync.specs.Locks.{acquire, acquired, is_locked, no_lock, not_acquired, on_lock, release, set_lock, take_lock}
use Rattle.model_sync.specs.Events.{clear, is_set, no_event, on_event, see_event, set, set_event, wait, waited}
use Rattle.model_sync.specs.Queues.{get, get_from, getting, got_value, is_full, next_if, no_queue, on_queue, put, put_in, putting, set_queue, size, wake_next}
use Rattle.model_sync.specs.Serving.{Acquire, Clear, Get, IsLocked, IsSet, MakesEvent, MakesLock, MakesQueue, Put, Release, Set, Size, Wait, Wanted, asked_for}
use Rattle.model_sync.specs.Serving.{named, served, wanted_of, woken}
use Rattle.law_sync.proofs.Lists.{each_append, each_at, each_set}
use Rattle.law_queues.specs.Kept.{KeepsToSizes, is_within}

abbrev IsWithin : Queue → Type 0
IsWithin queue = is_within queue ≡ true

-- ---- a queue
none_within : (most : ℤ) → IsWithin (record { size = most; values = []; getters = []; putters = [] })
none_within (pos zero) = refl
none_within (pos (suc most)) = le-leb 0 (suc most) (omega arith)
none_within (negsuc before) = refl

-- one value more, where it isn't full
more_within : (most : ℤ) (held : List Value) (value : Value) (getters putters left : List ℕ)
    → is_full (record { size = most; values = held; getters = getters; putters = putters }) ≡ false
    → IsWithin (record { size = most; values = held ++ value ∷ []; getters = left; putters = putters })
more_within (pos zero) held value getters putters left open_ = refl
more_within (negsuc before) held value getters putters left open_ = refl
more_within (pos (suc most)) held value getters putters left open_ =
    let h = leb-false (suc most) (length held) open_ in
    let n = length-append held (value ∷ []) in
    le-leb (length (held ++ value ∷ [])) (suc most) (omega (arith, h, n))

-- the first value less
less_within : (most : ℤ) (value : Value) (held : List Value) (getters putters left : List ℕ)
    → IsWithin (record { size = most; values = value ∷ held; getters = getters; putters = putters })
    → IsWithin (record { size = most; values = held; getters = getters; putters = left })
less_within (pos zero) value held getters putters left h = refl
less_within (negsuc before) value held getters putters left h = refl
less_within (pos (suc most)) value held getters putters left h =
    let n = leb-true (suc (length held)) (suc most) h in
    le-leb (length held) (suc most) (omega (arith, n))

put_within : (p : Parts) (value : Value) (queue : Queue) → IsWithin queue → IsWithin (put_in p value queue).now
put_within p value queue h = at (is_full queue) refl
  where
    at : (b : Bool) → is_full queue ≡ b → IsWithin (Tried.now
        (if b then record { now = record queue { putters = queue.putters ++ next_future p ∷ [] }; steps = MakesPlain ∷ []; answer = None }
        else record {
          now = record queue { values = queue.values ++ value ∷ []; getters = (wake_next p queue.getters).left };
          steps = (wake_next p queue.getters).steps;
          answer = Some Nothing;
        }))
    at true e = h
    at false e = more_within queue.size queue.values value queue.getters queue.putters (wake_next p queue.getters).left e

get_within : (p : Parts) (queue : Queue) → IsWithin queue → IsWithin (get_from p queue).now
get_within p queue h = at queue.values refl
  where
    at : (vs : List Value) → queue.values ≡ vs → IsWithin (Tried.now (elim vs [
      | [] ↦ record { now = record queue { getters = queue.getters ++ next_future p ∷ [] }; steps = MakesPlain ∷ []; answer = None }
      | value ∷ values ↦ record {
        now = record queue { values = values; putters = (wake_next p queue.putters).left };
        steps = (wake_next p queue.putters).steps;
        answer = Some value;
      }
    ]))
    at [] e = h
    at (value ∷ vs) e =
        less_within queue.size value vs queue.getters queue.putters (wake_next p queue.putters).left
        (subst (λ held. IsWithin (record { size = queue.size; values = held; getters = queue.getters; putters = queue.putters })) e h)

-- ---- each request
module _ (p : Parts) (kept : Synced) (h : KeepsToSizes kept) where
  abbrev Said : ExtraSaid Synced → Type 0
  Said said = KeepsToSizes said.call.state

  first : {A : Type 0} (put_ : A → Synced → Synced) (waiting : Waiting) (it : Tried A)
      → ((k : Synced) → KeepsToSizes k → KeepsToSizes (put_ it.now k)) → Said (tried_first put_ waiting it p kept)
  first put_ waiting it puts = at it.answer
    where
      at : (o : Option Value) → Said (elim o [
        | Some value ↦ says (put_ it.now (draw kept)) it.steps (Answers value)
        | None ↦ says (put_ it.now (wait_last waiting kept)) it.steps (Waits (next_future p) (next_key kept))
      ])
      at (Some value) = puts (draw kept) h
      at None = puts (wait_last waiting kept) h

  again : (key place : ℕ) (put_ : Queue → Synced → Synced) (waiting : Waiting) (it : Tried Queue)
      → ((k : Synced) → KeepsToSizes k → KeepsToSizes (put_ it.now k)) → Said (tried_again key place put_ waiting it p kept)
  again key place put_ waiting it puts = at it.answer
    where
      at : (o : Option Value) → Said (elim o [
        | Some value ↦ says (put_ it.now (wait_over place kept)) it.steps (Answers value)
        | None ↦ says (put_ it.now (wait_again place waiting kept)) it.steps (Waits (next_future p) key)
      ])
      at (Some value) = puts (wait_over place kept) h
      at None = puts (wait_again place waiting kept) h

  set_within : (id : ℕ) (queue : Queue) → IsWithin queue → (k : Synced) → KeepsToSizes k → KeepsToSizes (set_queue id queue k)
  set_within id queue w k all = each_set IsWithin k.queues id queue all w

  lock_said : (next : ℕ → Lock → Parts → Synced → ExtraSaid Synced) → ((id : ℕ) (lock : Lock) → Said (next id lock p kept)) → (id : ℤ)
      → Said (on_lock next id p kept)
  lock_said next says_ id = at (numbered kept.locks id)
    where
      at : (o : Option Lock) → Said (elim o [ None ↦ raises no_lock kept | Some lock ↦ next (number_of id) lock p kept ])
      at None = h
      at (Some lock) = says_ (number_of id) lock

  event_said : (next : ℕ → Event → Parts → Synced → ExtraSaid Synced) → ((id : ℕ) (event : Event) → Said (next id event p kept)) → (id : ℤ)
      → Said (on_event next id p kept)
  event_said next says_ id = at (numbered kept.events id)
    where
      at : (o : Option Event) → Said (elim o [ None ↦ raises no_event kept | Some event ↦ next (number_of id) event p kept ])
      at None = h
      at (Some event) = says_ (number_of id) event

  queue_said : (next : ℕ → Queue → Parts → Synced → ExtraSaid Synced) → ((id : ℕ) (queue : Queue) → IsWithin queue → Said (next id queue p kept))
      → (id : ℤ) → Said (on_queue next id p kept)
  queue_said next says_ id = at (numbered kept.queues id) refl
    where
      found : (id : ℤ) (queue : Queue) → numbered kept.queues id ≡ Some queue → IsWithin queue
      found (pos n) queue e = each_at IsWithin kept.queues n queue e h
      found (negsuc before) queue e = absurd (cc)

      at : (o : Option Queue) → numbered kept.queues id ≡ o
          → Said (elim o [ None ↦ raises no_queue kept | Some queue ↦ next (number_of id) queue p kept ])
      at None e = h
      at (Some queue) e = says_ (number_of id) queue (found id queue e)

  release_said : (id : ℕ) (lock : Lock) → Said (release id lock p kept)
  release_said id lock = at lock.locked
    where
      at : (b : Bool) → Said (if b
          then answers Nothing (wake_first lock.waiters)
          (set_lock id (record lock { locked = false }) kept)
          else raises not_acquired kept)
      at true = h
      at false = h

  set_said : (id : ℕ) (event : Event) → Said (set id event p kept)
  set_said id event = at event.is_set
    where
      at : (b : Bool) → Said (if b then answers Nothing [] kept
          else answers Nothing
          (map wakes event.waiters)
          (set_event id (record event { is_set = true }) kept))
      at true = h
      at false = h

  served_said : (wanted : Wanted) → Said (served wanted p kept)
  served_said MakesLock = h
  served_said (Acquire lock) =
      lock_said acquire (λ id lock. first (set_lock id) (Acquires id (next_future p)) (take_lock p lock) (λ k all. all)) lock
  served_said (Release lock) = lock_said release release_said lock
  served_said (IsLocked lock) = lock_said is_locked (λ id lock. h) lock
  served_said MakesEvent = h
  served_said (Set event) = event_said set set_said event
  served_said (Clear event) = event_said clear (λ id event. h) event
  served_said (IsSet event) = event_said is_set (λ id event. h) event
  served_said (Wait event) =
      event_said wait (λ id event. first (set_event id) (Awaits id (next_future p)) (see_event p event) (λ k all. all)) event
  served_said (MakesQueue most) =
      each_append IsWithin kept.queues (record { size = most; values = []; getters = []; putters = [] } ∷ []) h (none_within most, tt)
  served_said (Put queue value) =
      queue_said (put value) (λ id queue w. first (set_queue id) (Puts id value (next_future p)) (put_in p value queue)
      (set_within id (put_in p value queue).now (put_within p value queue w))) queue
  served_said (Get queue) =
      queue_said get (λ id queue w. first (set_queue id) (Gets id (next_future p)) (get_from p queue)
      (set_within id (get_from p queue).now (get_within p queue w))) queue
  served_said (Size queue) = queue_said size (λ id queue w. h) queue

  pub asked_said : (code : ℤ) (o : Option (Option Wanted)) → Said (asked_for code o p kept)
  asked_said code None = h
  asked_said code (Some None) = h
  asked_said code (Some (Some wanted)) = at (can_draw sync_part kept.drawn 1)
    where
      at : (b : Bool) → Said (if b then served wanted p kept else refuses out_of_range kept)
      at true = served_said wanted
      at false = h

  -- ---- as its task goes on
  acquired_said : (place id on : ℕ) (input : Input) (lock : Lock) → Said (acquired place id on input lock kept)
  acquired_said place id on (Send value) lock = h
  acquired_said place id on (Throw exception) lock = h

  waited_said : (place id on : ℕ) (input : Input) (event : Event) → Said (waited place id on input event kept)
  waited_said place id on (Send value) event = h
  waited_said place id on (Throw exception) event = h

  same_within : (queue : Queue) (getters putters : List ℕ) → IsWithin queue → IsWithin (record queue { getters = getters; putters = putters })
  same_within queue getters putters w = w

  putting_said : (key place id on : ℕ) (value : Value) (input : Input) (queue : Queue) → IsWithin queue
      → Said (putting key place id on value input queue p kept)
  putting_said key place id on value (Send sent) queue w =
      again key place (set_queue id) (Puts id value (next_future p)) (put_in p value queue)
      (set_within id (put_in p value queue).now (put_within p value queue w))
  putting_said key place id on value (Throw exception) queue w =
      set_within id
      (record queue { putters = (next_if (got_value (future_outcome p on) && not (is_full queue)) p (without on queue.putters)).left })
      (same_within queue queue.getters (next_if (got_value (future_outcome p on) && not (is_full queue)) p (without on queue.putters)).left w)
      (wait_over place kept) h

  getting_said : (key place id on : ℕ) (input : Input) (queue : Queue) → IsWithin queue → Said (getting key place id on input queue p kept)
  getting_said key place id on (Send sent) queue w =
      again key place (set_queue id) (Gets id (next_future p)) (get_from p queue) (set_within id (get_from p queue).now (get_within p queue w))
  getting_said key place id on (Throw exception) queue w =
      set_within id
      (record queue { getters = (next_if (got_value (future_outcome p on) && nat_lt 0 (length queue.values)) p (without on queue.getters)).left })
      (same_within queue (next_if (got_value (future_outcome p on) && nat_lt 0 (length queue.values)) p (without on queue.getters)).left queue.putters w)
      (wait_over place kept) h

  named_said : {A : Type 0} (o : Option A) (input : Input) (next : A → ExtraSaid Synced) → ((it : A) → o ≡ Some it → Said (next it))
      → Said (named o input next kept)
  named_said None input next says_ = h
  named_said (Some it) input next says_ = says_ it refl

  pub woken_said : (o : Option Waiting) (key place : ℕ) (input : Input) → Said (woken o key place input p kept)
  woken_said None key place input = h
  woken_said (Some (Acquires id on)) key place input =
      named_said (slice_get kept.locks id) input (λ lock. acquired place id on input lock kept) (λ lock e. acquired_said place id on input lock)
  woken_said (Some (Awaits id on)) key place input =
      named_said (slice_get kept.events id) input (λ event. waited place id on input event kept) (λ event e. waited_said place id on input event)
  woken_said (Some (Puts id value on)) key place input =
      named_said (slice_get kept.queues id) input (λ queue. putting key place id on value input queue p kept)
      (λ queue e. putting_said key place id on value input queue (each_at IsWithin kept.queues id queue e h))
  woken_said (Some (Gets id on)) key place input =
      named_said (slice_get kept.queues id) input (λ queue. getting key place id on input queue p kept)
      (λ queue e. getting_said key place id on input queue (each_at IsWithin kept.queues id queue e h))
