-- What each try comes to, by cases: a law about all of them is proved of each case.
use Rattle.std.proofs.Common.{◌≡◌, ℕ, ℤ, pos, negsuc, Bool, true, false, List, [], ◌∷◌, ◌++◌, Option, Some, None, length, map, slice_get, refl}
use Rattle.std.specs.Prelude.{not, ◌&&◌, nat_lt, if◌then◌else◌}
use Rattle.model_value.specs.Input.{Input}
use Rattle.model_value.specs.Value.{Exc, Int, Nothing, Truth, Value}
use Rattle.model_value.specs.declared.input.Input.TheVariants.{Send, Throw}
use Rattle.model_loop.specs.Futures.{future_outcome, next_future}
use Rattle.model_loop.specs.Parts.{Parts}
use Rattle.model_loop.specs.Tasks.{is_cancelled}
use Rattle.model_machine.specs.Extra.{Answers, ExtraSaid, MakesPlain, Raises, Waits}
use Rattle.model_sync.specs.Synced.{Acquires, Awaits, Event, Gets, Lock, Puts, Queue, Synced, Waiting, answers, draw, next_key}
use Rattle.model_sync.specs.Synced.{raises, says}
use Rattle.model_sync.specs.Synced.{tried_again, tried_first, wait_again, wait_last, wait_over, wake_first, wakes, without}
use Rattle.model_sync.specs.Locks.{acquire, acquired, are_cancelled, is_locked, make_lock, no_lock, not_acquired, on_lock, release, set_lock}
use Rattle.model_sync.specs.Events.{clear, is_set, make_event, no_event, on_event, set, set_event, wait, waited}
use Rattle.model_sync.specs.Queues.{get, getting, got_value, is_full, make_queue, next_if, no_queue, on_queue, put, putting, set_queue, size}
use Rattle.model_sync.specs.Queues.{wake_next}
use Rattle.model_sync.specs.Serving.{Acquire, Clear, Get, IsLocked, IsSet, MakesEvent, MakesLock, MakesQueue, Put, Release, Set, Size, Wait, Wanted}
use Rattle.model_sync.specs.Serving.{served}

-- ---- as it is asked
pub data Serves (p : Parts) (kept : Synced) : Wanted → ExtraSaid Synced → Type 0 where
  says_no : (wanted : Wanted) (exception : Exc) → Serves p kept wanted (raises exception kept)
  makes_lock : Serves p kept MakesLock (make_lock kept)
  takes_lock : (id : ℕ) (lock : Lock) → slice_get kept.locks id ≡ Some lock → (not lock.locked && are_cancelled p lock.waiters) ≡ true
      → Serves p kept (Acquire (pos id)) (says (set_lock id (record lock { locked = true }) (draw kept)) [] (Answers (Truth true)))
  waits_lock : (id : ℕ) (lock : Lock) → slice_get kept.locks id ≡ Some lock → (not lock.locked && are_cancelled p lock.waiters) ≡ false
      → Serves p kept (Acquire (pos id))
      (says (set_lock id (record lock { waiters = lock.waiters ++ next_future p ∷ [] }) (wait_last (Acquires id (next_future p)) kept)) (MakesPlain ∷ [])
      (Waits (next_future p) (next_key kept)))
  releases : (id : ℕ) (lock : Lock) → slice_get kept.locks id ≡ Some lock → lock.locked ≡ true
      → Serves p kept (Release (pos id)) (answers Nothing (wake_first lock.waiters) (set_lock id (record lock { locked = false }) kept))
  sees_lock : (id : ℕ) (lock : Lock) → slice_get kept.locks id ≡ Some lock → Serves p kept (IsLocked (pos id)) (answers (Truth lock.locked) [] kept)
  makes_event : Serves p kept MakesEvent (make_event kept)
  sets : (id : ℕ) (event : Event) → slice_get kept.events id ≡ Some event → event.is_set ≡ false
      → Serves p kept (Set (pos id)) (answers Nothing (map wakes event.waiters) (set_event id (record event { is_set = true }) kept))
  stays_set : (id : ℕ) (event : Event) → slice_get kept.events id ≡ Some event → event.is_set ≡ true
      → Serves p kept (Set (pos id)) (answers Nothing [] kept)
  clears : (id : ℕ) (event : Event) → slice_get kept.events id ≡ Some event
      → Serves p kept (Clear (pos id)) (answers Nothing [] (set_event id (record event { is_set = false }) kept))
  sees_event : (id : ℕ) (event : Event) → slice_get kept.events id ≡ Some event → Serves p kept (IsSet (pos id)) (answers (Truth event.is_set) [] kept)
  goes_by : (id : ℕ) (event : Event) → slice_get kept.events id ≡ Some event → event.is_set ≡ true
      → Serves p kept (Wait (pos id)) (says (set_event id event (draw kept)) [] (Answers (Truth true)))
  waits_event : (id : ℕ) (event : Event) → slice_get kept.events id ≡ Some event → event.is_set ≡ false
      → Serves p kept (Wait (pos id))
      (says (set_event id (record event { waiters = event.waiters ++ next_future p ∷ [] }) (wait_last (Awaits id (next_future p)) kept))
      (MakesPlain ∷ []) (Waits (next_future p) (next_key kept)))
  makes_queue : (most : ℤ) → Serves p kept (MakesQueue most) (make_queue most kept)
  puts : (id : ℕ) (value : Value) (queue : Queue) → slice_get kept.queues id ≡ Some queue → is_full queue ≡ false
      → Serves p kept (Put (pos id) value)
      (says (set_queue id (record queue { values = queue.values ++ value ∷ []; getters = (wake_next p queue.getters).left }) (draw kept))
      (wake_next p queue.getters).steps (Answers Nothing))
  waits_put : (id : ℕ) (value : Value) (queue : Queue) → slice_get kept.queues id ≡ Some queue → is_full queue ≡ true
      → Serves p kept (Put (pos id) value)
      (says (set_queue id (record queue { putters = queue.putters ++ next_future p ∷ [] }) (wait_last (Puts id value (next_future p)) kept))
      (MakesPlain ∷ []) (Waits (next_future p) (next_key kept)))
  gets : (id : ℕ) (value : Value) (values : List Value) (queue : Queue) → slice_get kept.queues id ≡ Some queue → queue.values ≡ value ∷ values
      → Serves p kept (Get (pos id))
      (says (set_queue id (record queue { values = values; putters = (wake_next p queue.putters).left }) (draw kept))
      (wake_next p queue.putters).steps (Answers value))
  waits_get : (id : ℕ) (queue : Queue) → slice_get kept.queues id ≡ Some queue → queue.values ≡ []
      → Serves p kept (Get (pos id))
      (says (set_queue id (record queue { getters = queue.getters ++ next_future p ∷ [] }) (wait_last (Gets id (next_future p)) kept))
      (MakesPlain ∷ []) (Waits (next_future p) (next_key kept)))
  sees_size : (id : ℕ) (queue : Queue) → slice_get kept.queues id ≡ Some queue
      → Serves p kept (Size (pos id)) (answers (Int (pos (length queue.values))) [] kept)

-- ---- as it goes on, under a key of this place, after a wait
pub data Resumes (p : Parts) (kept : Synced) (key place : ℕ) : Waiting → Input → ExtraSaid Synced → Type 0 where
  gets_lock : (id on : ℕ) (value : Value) (lock : Lock) → slice_get kept.locks id ≡ Some lock
      → Resumes p kept key place (Acquires id on) (Send value)
      (says (set_lock id (record { locked = true; waiters = without on lock.waiters }) (wait_over place kept)) [] (Answers (Truth true)))
  leaves_lock : (id on : ℕ) (exception : Exc) (lock : Lock) → slice_get kept.locks id ≡ Some lock
      → Resumes p kept key place (Acquires id on) (Throw exception)
      (says (set_lock id (record lock { waiters = without on lock.waiters }) (wait_over place kept))
      (if is_cancelled exception && not lock.locked then wake_first (without on lock.waiters) else []) (Raises exception))
  sees_set : (id on : ℕ) (value : Value) (event : Event) → slice_get kept.events id ≡ Some event
      → Resumes p kept key place (Awaits id on) (Send value)
      (says (set_event id (record event { waiters = without on event.waiters }) (wait_over place kept)) [] (Answers (Truth true)))
  leaves_event : (id on : ℕ) (exception : Exc) (event : Event) → slice_get kept.events id ≡ Some event
      → Resumes p kept key place (Awaits id on) (Throw exception)
      (says (set_event id (record event { waiters = without on event.waiters }) (wait_over place kept)) [] (Raises exception))
  puts_now : (id on : ℕ) (value sent : Value) (queue : Queue) → slice_get kept.queues id ≡ Some queue → is_full queue ≡ false
      → Resumes p kept key place (Puts id value on) (Send sent)
      (says (set_queue id (record queue { values = queue.values ++ value ∷ []; getters = (wake_next p queue.getters).left }) (wait_over place kept))
      (wake_next p queue.getters).steps (Answers Nothing))
  waits_put_again : (id on : ℕ) (value sent : Value) (queue : Queue) → slice_get kept.queues id ≡ Some queue → is_full queue ≡ true
      → Resumes p kept key place (Puts id value on) (Send sent)
      (says (set_queue id (record queue { putters = queue.putters ++ next_future p ∷ [] }) (wait_again place (Puts id value (next_future p)) kept))
      (MakesPlain ∷ []) (Waits (next_future p) key))
  leaves_put : (id on : ℕ) (value : Value) (exception : Exc) (queue : Queue) → slice_get kept.queues id ≡ Some queue
      → Resumes p kept key place (Puts id value on) (Throw exception)
      (says (set_queue id (record queue {
        putters = (next_if (got_value (future_outcome p on) && not (is_full queue)) p (without on queue.putters)).left;
      }) (wait_over place kept)) (next_if (got_value (future_outcome p on) && not (is_full queue)) p (without on queue.putters)).steps (Raises exception))
  gets_now : (id on : ℕ) (value sent : Value) (values : List Value) (queue : Queue) → slice_get kept.queues id ≡ Some queue
      → queue.values ≡ value ∷ values
      → Resumes p kept key place (Gets id on) (Send sent)
      (says (set_queue id (record queue { values = values; putters = (wake_next p queue.putters).left }) (wait_over place kept))
      (wake_next p queue.putters).steps (Answers value))
  waits_get_again : (id on : ℕ) (sent : Value) (queue : Queue) → slice_get kept.queues id ≡ Some queue → queue.values ≡ []
      → Resumes p kept key place (Gets id on) (Send sent)
      (says (set_queue id (record queue { getters = queue.getters ++ next_future p ∷ [] }) (wait_again place (Gets id (next_future p)) kept))
      (MakesPlain ∷ []) (Waits (next_future p) key))
  leaves_get : (id on : ℕ) (exception : Exc) (queue : Queue) → slice_get kept.queues id ≡ Some queue
      → Resumes p kept key place (Gets id on) (Throw exception)
      (says (set_queue id (record queue {
        getters = (next_if (got_value (future_outcome p on) && nat_lt 0 (length queue.values)) p (without on queue.getters)).left;
      }) (wait_over place kept))
      (next_if (got_value (future_outcome p on) && nat_lt 0 (length queue.values)) p (without on queue.getters)).steps (Raises exception))

-- ---- each is one of these
module _ (p : Parts) (kept : Synced) where
  abbrev Is : Wanted → ExtraSaid Synced → Type 0
  Is wanted said = Serves p kept wanted said

  on_a_lock : (wanted : ℤ → Wanted) (next : ℕ → Lock → Parts → Synced → ExtraSaid Synced)
      → ((id : ℕ) (lock : Lock) → slice_get kept.locks id ≡ Some lock → Is (wanted (pos id)) (next id lock p kept)) → (id : ℤ)
      → Is (wanted id) (on_lock next id p kept)
  on_a_lock wanted next each (negsuc before) = says_no (wanted (negsuc before)) no_lock
  on_a_lock wanted next each (pos id) = at (slice_get kept.locks id) refl
    where
      at : (o : Option Lock) → slice_get kept.locks id ≡ o
          → Is (wanted (pos id)) (elim o [ None ↦ raises no_lock kept | Some lock ↦ next id lock p kept ])
      at None e = says_no (wanted (pos id)) no_lock
      at (Some lock) e = each id lock e

  on_an_event : (wanted : ℤ → Wanted) (next : ℕ → Event → Parts → Synced → ExtraSaid Synced)
      → ((id : ℕ) (event : Event) → slice_get kept.events id ≡ Some event → Is (wanted (pos id)) (next id event p kept)) → (id : ℤ)
      → Is (wanted id) (on_event next id p kept)
  on_an_event wanted next each (negsuc before) = says_no (wanted (negsuc before)) no_event
  on_an_event wanted next each (pos id) = at (slice_get kept.events id) refl
    where
      at : (o : Option Event) → slice_get kept.events id ≡ o
          → Is (wanted (pos id)) (elim o [ None ↦ raises no_event kept | Some event ↦ next id event p kept ])
      at None e = says_no (wanted (pos id)) no_event
      at (Some event) e = each id event e

  on_a_queue : (wanted : ℤ → Wanted) (next : ℕ → Queue → Parts → Synced → ExtraSaid Synced)
      → ((id : ℕ) (queue : Queue) → slice_get kept.queues id ≡ Some queue → Is (wanted (pos id)) (next id queue p kept)) → (id : ℤ)
      → Is (wanted id) (on_queue next id p kept)
  on_a_queue wanted next each (negsuc before) = says_no (wanted (negsuc before)) no_queue
  on_a_queue wanted next each (pos id) = at (slice_get kept.queues id) refl
    where
      at : (o : Option Queue) → slice_get kept.queues id ≡ o
          → Is (wanted (pos id)) (elim o [ None ↦ raises no_queue kept | Some queue ↦ next id queue p kept ])
      at None e = says_no (wanted (pos id)) no_queue
      at (Some queue) e = each id queue e

  acquire_is : (id : ℕ) (lock : Lock) → slice_get kept.locks id ≡ Some lock → Is (Acquire (pos id)) (acquire id lock p kept)
  acquire_is id lock found = at (not lock.locked && are_cancelled p lock.waiters) refl
    where
      at : (b : Bool) → (not lock.locked && are_cancelled p lock.waiters) ≡ b
          → Is (Acquire (pos id))
          (tried_first (set_lock id) (Acquires id (next_future p))
          (if b then record { now = record lock { locked = true }; steps = []; answer = Some (Truth true) }
          else record { now = record lock { waiters = lock.waiters ++ next_future p ∷ [] }; steps = MakesPlain ∷ []; answer = None }) p kept)
      at true e = takes_lock id lock found e
      at false e = waits_lock id lock found e

  release_is : (id : ℕ) (lock : Lock) → slice_get kept.locks id ≡ Some lock → Is (Release (pos id)) (release id lock p kept)
  release_is id lock found = at lock.locked refl
    where
      at : (b : Bool) → lock.locked ≡ b
          → Is (Release (pos id)) (if b then answers Nothing (wake_first lock.waiters) (set_lock id (record lock { locked = false }) kept)
          else raises not_acquired kept)
      at true e = releases id lock found e
      at false e = says_no (Release (pos id)) not_acquired

  set_is_ : (id : ℕ) (event : Event) → slice_get kept.events id ≡ Some event → Is (Set (pos id)) (set id event p kept)
  set_is_ id event found = at event.is_set refl
    where
      at : (b : Bool) → event.is_set ≡ b
          → Is (Set (pos id)) (if b then answers Nothing [] kept
          else answers Nothing (map wakes event.waiters) (set_event id (record event { is_set = true }) kept))
      at true e = stays_set id event found e
      at false e = sets id event found e

  wait_is : (id : ℕ) (event : Event) → slice_get kept.events id ≡ Some event → Is (Wait (pos id)) (wait id event p kept)
  wait_is id event found = at event.is_set refl
    where
      at : (b : Bool) → event.is_set ≡ b
          → Is (Wait (pos id))
          (tried_first (set_event id) (Awaits id (next_future p))
          (if b then record { now = event; steps = []; answer = Some (Truth true) }
          else record { now = record event { waiters = event.waiters ++ next_future p ∷ [] }; steps = MakesPlain ∷ []; answer = None }) p kept)
      at true e = goes_by id event found e
      at false e = waits_event id event found e

  put_is : (value : Value) (id : ℕ) (queue : Queue) → slice_get kept.queues id ≡ Some queue → Is (Put (pos id) value) (put value id queue p kept)
  put_is value id queue found = at (is_full queue) refl
    where
      at : (b : Bool) → is_full queue ≡ b
          → Is (Put (pos id) value)
          (tried_first (set_queue id) (Puts id value (next_future p))
          (if b then record { now = record queue { putters = queue.putters ++ next_future p ∷ [] }; steps = MakesPlain ∷ []; answer = None }
          else record {
            now = record queue { values = queue.values ++ value ∷ []; getters = (wake_next p queue.getters).left };
            steps = (wake_next p queue.getters).steps;
            answer = Some Nothing;
          }) p kept)
      at true e = waits_put id value queue found e
      at false e = puts id value queue found e

  get_is : (id : ℕ) (queue : Queue) → slice_get kept.queues id ≡ Some queue → Is (Get (pos id)) (get id queue p kept)
  get_is id queue found = at queue.values refl
    where
      at : (vs : List Value) → queue.values ≡ vs
          → Is (Get (pos id))
          (tried_first (set_queue id) (Gets id (next_future p))
          (elim vs [
            | [] ↦ record { now = record queue { getters = queue.getters ++ next_future p ∷ [] }; steps = MakesPlain ∷ []; answer = None }
            | value ∷ values ↦ record {
              now = record queue { values = values; putters = (wake_next p queue.putters).left };
              steps = (wake_next p queue.putters).steps;
              answer = Some value;
            }
          ]) p kept)
      at [] e = waits_get id queue found e
      at (value ∷ values) e = gets id value values queue found e

  pub serves_is : (wanted : Wanted) → Is wanted (served wanted p kept)
  serves_is MakesLock = makes_lock
  serves_is (Acquire lock) = on_a_lock Acquire acquire acquire_is lock
  serves_is (Release lock) = on_a_lock Release release release_is lock
  serves_is (IsLocked lock) = on_a_lock IsLocked is_locked (λ id it found. sees_lock id it found) lock
  serves_is MakesEvent = makes_event
  serves_is (Set event) = on_an_event Set set set_is_ event
  serves_is (Clear event) = on_an_event Clear clear (λ id it found. clears id it found) event
  serves_is (IsSet event) = on_an_event IsSet is_set (λ id it found. sees_event id it found) event
  serves_is (Wait event) = on_an_event Wait wait wait_is event
  serves_is (MakesQueue most) = makes_queue most
  serves_is (Put queue value) = on_a_queue (λ id. Put id value) (put value) (put_is value) queue
  serves_is (Get queue) = on_a_queue Get get get_is queue
  serves_is (Size queue) = on_a_queue Size size (λ id it found. sees_size id it found) queue

  -- ---- after a wait
  module _ (key place : ℕ) where
    abbrev GoesOnAs : Waiting → Input → ExtraSaid Synced → Type 0
    GoesOnAs it input said = Resumes p kept key place it input said

    pub acquired_is : (id on : ℕ) (input : Input) (lock : Lock) → slice_get kept.locks id ≡ Some lock
        → GoesOnAs (Acquires id on) input (acquired place id on input lock kept)
    acquired_is id on (Send value) lock found = gets_lock id on value lock found
    acquired_is id on (Throw exception) lock found = leaves_lock id on exception lock found

    pub waited_is : (id on : ℕ) (input : Input) (event : Event) → slice_get kept.events id ≡ Some event
        → GoesOnAs (Awaits id on) input (waited place id on input event kept)
    waited_is id on (Send value) event found = sees_set id on value event found
    waited_is id on (Throw exception) event found = leaves_event id on exception event found

    pub putting_is : (id on : ℕ) (value : Value) (input : Input) (queue : Queue) → slice_get kept.queues id ≡ Some queue
        → GoesOnAs (Puts id value on) input (putting key place id on value input queue p kept)
    putting_is id on value (Throw exception) queue found = leaves_put id on value exception queue found
    putting_is id on value (Send sent) queue found = at (is_full queue) refl
      where
        at : (b : Bool) → is_full queue ≡ b
            → GoesOnAs (Puts id value on) (Send sent)
            (tried_again key place (set_queue id) (Puts id value (next_future p))
            (if b then record { now = record queue { putters = queue.putters ++ next_future p ∷ [] }; steps = MakesPlain ∷ []; answer = None }
            else record {
              now = record queue { values = queue.values ++ value ∷ []; getters = (wake_next p queue.getters).left };
              steps = (wake_next p queue.getters).steps;
              answer = Some Nothing;
            }) p kept)
        at true e = waits_put_again id on value sent queue found e
        at false e = puts_now id on value sent queue found e

    pub getting_is : (id on : ℕ) (input : Input) (queue : Queue) → slice_get kept.queues id ≡ Some queue
        → GoesOnAs (Gets id on) input (getting key place id on input queue p kept)
    getting_is id on (Throw exception) queue found = leaves_get id on exception queue found
    getting_is id on (Send sent) queue found = at queue.values refl
      where
        at : (vs : List Value) → queue.values ≡ vs
            → GoesOnAs (Gets id on) (Send sent)
            (tried_again key place (set_queue id) (Gets id (next_future p))
            (elim vs [
              | [] ↦ record { now = record queue { getters = queue.getters ++ next_future p ∷ [] }; steps = MakesPlain ∷ []; answer = None }
              | value ∷ values ↦ record {
                now = record queue { values = values; putters = (wake_next p queue.putters).left };
                steps = (wake_next p queue.putters).steps;
                answer = Some value;
              }
            ]) p kept)
        at [] e = waits_get_again id on sent queue found e
        at (value ∷ values) e = gets_now id on value sent values queue found e
