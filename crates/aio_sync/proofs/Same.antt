-- What requests come to is the same where futures tell the same.
use Rattle.std.proofs.Common.{◌≡◌, ℕ, ℤ, pos, negsuc, Bool, true, false, List, [], ◌∷◌, ◌++◌, Option, Some, None, length, slice_get, refl, sym, ap, ◌∙◌}
use Rattle.std.specs.Prelude.{not, ◌&&◌, nat_lt, if◌then◌else◌}
use Rattle.std.specs.List.{AllByRecursion as Each, list_all}
use Rattle.model_value.specs.Input.{Input}
use Rattle.model_value.specs.Value.{Nothing, Outcome, Truth, Value}
use Rattle.model_value.specs.declared.input.Input.TheVariants.{Send, Throw}
use Rattle.model_loop.specs.Futures.{future_outcome, is_pending, next_future}
use Rattle.model_loop.specs.Parts.{Parts}
use Rattle.model_machine.specs.Extra.{Answers, ExtraSaid, ExtraStep, MakesPlain, Raises, Waits}
use Rattle.model_reach.specs.Part.{drawing}
use Rattle.model_sync.specs.Synced.{Acquires, Awaits, Event, Gets, Lock, Puts, Queue, Synced, Tried, Waiting, draw, is_place, next_key, number_of, numbered, on_of}
use Rattle.model_sync.specs.Synced.{raises, says, sync_part, tried_again, tried_first, wait_again, wait_last, wait_over, waiting_at, wakes, without}
use Rattle.model_sync.specs.Locks.{acquire, acquired, are_cancelled, no_lock, on_lock, set_lock, take_lock, was_cancelled}
use Rattle.model_sync.specs.Events.{no_event, on_event, see_event, set_event, wait, waited}
use Rattle.model_sync.specs.Queues.{Woken, get, get_from, getting, got_value, is_full, next_if, no_queue, on_queue, put, put_in, putting, set_queue, wake_next}
use Rattle.model_sync.specs.Serving.{Acquire, Clear, Get, IsLocked, IsSet, MakesEvent, MakesLock, MakesQueue, Put, Release, Set, Size, Wait, Wanted, asked_for}
use Rattle.model_sync.specs.Serving.{named, served, woken}
use Rattle.law_sync.proofs.Lists.{each_at, each_found}
use Rattle.law_sync.proofs.Holding.{Holds, LockHolds, WaitingHolds}
use Rattle.law_sync.proofs.Falling.{Any}

module _ (p q : Parts) (Here : ℕ → Type 0) (next : next_future q ≡ next_future p) (pends : (id : ℕ) → is_pending q id ≡ is_pending p id)
    (ends : (id : ℕ) → Here id → future_outcome q id ≡ future_outcome p id) (kept : Synced) (holds : Holds Here Any kept) where
  are_same : (waiters : List ℕ) → Each Here waiters → are_cancelled q waiters ≡ are_cancelled p waiters
  are_same [] here = refl
  are_same (waiter ∷ waiters) here =
      ap (λ o. was_cancelled o && are_cancelled q waiters) (ends waiter here.0)
      ∙ ap (λ b. was_cancelled (future_outcome p waiter) && b) (are_same waiters here.1)

  next_same : (waiters : List ℕ) → wake_next q waiters ≡ wake_next p waiters
  next_same [] = refl
  next_same (waiter ∷ waiters) =
      ap (λ b. if b then record { left = waiters; steps = wakes waiter ∷ [] } else wake_next q waiters) (pends waiter)
      ∙ ap (λ (w : Woken). if is_pending p waiter then record { left = waiters; steps = wakes waiter ∷ [] } else w) (next_same waiters)

  next_if_same : (is : Bool) (waiters : List ℕ) → next_if is q waiters ≡ next_if is p waiters
  next_if_same true waiters = next_same waiters
  next_if_same false waiters = refl

  -- ---- tries
  first_same : {A : Type 0} (put_ : A → Synced → Synced) (waiting : ℕ → Waiting) (it : Parts → Tried A) → it q ≡ it p
      → tried_first put_ (waiting (next_future q)) (it q) q kept ≡ tried_first put_ (waiting (next_future p)) (it p) p kept
  first_same {A} put_ waiting it e =
      ap (λ (t : Tried A). tried_first put_ (waiting (next_future q)) t q kept) e ∙ ap (λ n. at n (it p)) next
    where
      at : ℕ → Tried A → ExtraSaid Synced
      at n t = elim t.answer [
        | Some value ↦ says (put_ t.now (draw kept)) t.steps (Answers value)
        | None ↦ says (put_ t.now (wait_last (waiting n) kept)) t.steps (Waits n (next_key kept))
      ]

  again_same : {A : Type 0} (key place : ℕ) (put_ : A → Synced → Synced) (waiting : ℕ → Waiting) (it : Parts → Tried A) → it q ≡ it p
      → tried_again key place put_ (waiting (next_future q)) (it q) q kept ≡ tried_again key place put_ (waiting (next_future p)) (it p) p kept
  again_same {A} key place put_ waiting it e =
      ap (λ (t : Tried A). tried_again key place put_ (waiting (next_future q)) t q kept) e ∙ ap (λ n. at n (it p)) next
    where
      at : ℕ → Tried A → ExtraSaid Synced
      at n t = elim t.answer [
        | Some value ↦ says (put_ t.now (wait_over place kept)) t.steps (Answers value)
        | None ↦ says (put_ t.now (wait_again place (waiting n) kept)) t.steps (Waits n key)
      ]

  take_same : (lock : Lock) → Each Here lock.waiters → take_lock q lock ≡ take_lock p lock
  take_same lock here = ap (λ c. at c (next_future q)) (are_same lock.waiters here) ∙ ap (λ n. at (are_cancelled p lock.waiters) n) next
    where
      at : Bool → ℕ → Tried Lock
      at c n =
          if not lock.locked && c
          then record { now = record lock { locked = true }; steps = []; answer = Some (Truth true) }
          else record { now = record lock { waiters = lock.waiters ++ n ∷ [] }; steps = MakesPlain ∷ []; answer = None }

  see_same : (event : Event) → see_event q event ≡ see_event p event
  see_same event = ap (λ n. at n) next
    where
      at : ℕ → Tried Event
      at n =
          if event.is_set
          then record { now = event; steps = []; answer = Some (Truth true) }
          else record { now = record event { waiters = event.waiters ++ n ∷ [] }; steps = MakesPlain ∷ []; answer = None }

  put_same : (value : Value) (queue : Queue) → put_in q value queue ≡ put_in p value queue
  put_same value queue = ap (λ n. at n (wake_next q queue.getters)) next ∙ ap (λ (w : Woken). at (next_future p) w) (next_same queue.getters)
    where
      at : ℕ → Woken → Tried Queue
      at n w =
          if is_full queue
          then record { now = record queue { putters = queue.putters ++ n ∷ [] }; steps = MakesPlain ∷ []; answer = None }
          else record { now = record queue { values = queue.values ++ value ∷ []; getters = w.left }; steps = w.steps; answer = Some Nothing }

  get_same : (queue : Queue) → get_from q queue ≡ get_from p queue
  get_same queue = ap (λ n. at n (wake_next q queue.putters)) next ∙ ap (λ (w : Woken). at (next_future p) w) (next_same queue.putters)
    where
      at : ℕ → Woken → Tried Queue
      at n w =
          elim queue.values [
            | [] ↦ record { now = record queue { getters = queue.getters ++ n ∷ [] }; steps = MakesPlain ∷ []; answer = None }
            | value ∷ values ↦ record { now = record queue { values = values; putters = w.left }; steps = w.steps; answer = Some value }
          ]

  -- ---- as it is asked
  on_lock_same : (id : ℤ) → on_lock acquire id q kept ≡ on_lock acquire id p kept
  on_lock_same id = at (numbered kept.locks id) refl
    where
      found : (id : ℤ) (lock : Lock) → numbered kept.locks id ≡ Some lock → Each Here lock.waiters
      found (pos n) lock e = each_at (LockHolds Here Any) kept.locks n lock e holds.locks
      found (negsuc n) lock e = absurd (cc)

      at : (o : Option Lock) → numbered kept.locks id ≡ o
          → ◌≡◌ {A = ExtraSaid Synced} (elim o [ None ↦ raises no_lock kept | Some lock ↦ acquire (number_of id) lock q kept ])
          (elim o [ None ↦ raises no_lock kept | Some lock ↦ acquire (number_of id) lock p kept ])
      at None e = refl
      at (Some lock) e =
          first_same (set_lock (number_of id)) (Acquires (number_of id)) (λ r. take_lock r lock) (take_same lock (found id lock e))

  on_event_same : (id : ℤ) → on_event wait id q kept ≡ on_event wait id p kept
  on_event_same id = at (numbered kept.events id)
    where
      at : (o : Option Event) → ◌≡◌ {A = ExtraSaid Synced} (elim o [ None ↦ raises no_event kept | Some event ↦ wait (number_of id) event q kept ])
          (elim o [ None ↦ raises no_event kept | Some event ↦ wait (number_of id) event p kept ])
      at None = refl
      at (Some event) = first_same (set_event (number_of id)) (Awaits (number_of id)) (λ r. see_event r event) (see_same event)

  on_put_same : (value : Value) (id : ℤ) → on_queue (put value) id q kept ≡ on_queue (put value) id p kept
  on_put_same value id = at (numbered kept.queues id)
    where
      at : (o : Option Queue) → ◌≡◌ {A = ExtraSaid Synced} (elim o [ None ↦ raises no_queue kept | Some queue ↦ put value (number_of id) queue q kept ])
          (elim o [ None ↦ raises no_queue kept | Some queue ↦ put value (number_of id) queue p kept ])
      at None = refl
      at (Some queue) = first_same (set_queue (number_of id)) (Puts (number_of id) value) (λ r. put_in r value queue) (put_same value queue)

  on_get_same : (id : ℤ) → on_queue get id q kept ≡ on_queue get id p kept
  on_get_same id = at (numbered kept.queues id)
    where
      at : (o : Option Queue) → ◌≡◌ {A = ExtraSaid Synced} (elim o [ None ↦ raises no_queue kept | Some queue ↦ get (number_of id) queue q kept ])
          (elim o [ None ↦ raises no_queue kept | Some queue ↦ get (number_of id) queue p kept ])
      at None = refl
      at (Some queue) = first_same (set_queue (number_of id)) (Gets (number_of id)) (λ r. get_from r queue) (get_same queue)

  served_same : (wanted : Wanted) → served wanted q kept ≡ served wanted p kept
  served_same MakesLock = refl
  served_same (Acquire lock) = on_lock_same lock
  served_same (Release lock) = refl
  served_same (IsLocked lock) = refl
  served_same MakesEvent = refl
  served_same (Set event) = refl
  served_same (Clear event) = refl
  served_same (IsSet event) = refl
  served_same (Wait event) = on_event_same event
  served_same (MakesQueue most) = refl
  served_same (Put queue value) = on_put_same value queue
  served_same (Get queue) = on_get_same queue
  served_same (Size queue) = refl

  pub asked_same : (code : ℤ) (o : Option (Option Wanted)) → asked_for code o q kept ≡ asked_for code o p kept
  asked_same code None = refl
  asked_same code (Some None) = refl
  asked_same code (Some (Some wanted)) = ap (λ said. drawing sync_part kept.drawn 1 said kept) (served_same wanted)

  -- ---- as its task goes on
  on_here : (place : ℕ) (it : Waiting) → waiting_at place kept ≡ Some it → Here (on_of it)
  on_here place it e = (each_found (WaitingHolds Here Any) (is_place place) kept.waiting it e holds.waiting).1.0

  putting_same : (key place id on : ℕ) (value : Value) (input : Input) (queue : Queue) → Here on
      → putting key place id on value input queue q kept ≡ putting key place id on value input queue p kept
  putting_same key place id on value (Send sent) queue here =
      again_same key place (set_queue id) (Puts id value) (λ r. put_in r value queue) (put_same value queue)
  putting_same key place id on value (Throw exception) queue here =
      ap (λ o. at (next_if (got_value o && not (is_full queue)) q (without on queue.putters))) (ends on here)
      ∙ ap (λ (w : Woken). at w) (next_if_same (got_value (future_outcome p on) && not (is_full queue)) (without on queue.putters))
    where
      at : Woken → ExtraSaid Synced
      at w = says (set_queue id (record queue { putters = w.left }) (wait_over place kept)) w.steps (Raises exception)

  getting_same : (key place id on : ℕ) (input : Input) (queue : Queue) → Here on
      → getting key place id on input queue q kept ≡ getting key place id on input queue p kept
  getting_same key place id on (Send sent) queue here =
      again_same key place (set_queue id) (Gets id) (λ r. get_from r queue) (get_same queue)
  getting_same key place id on (Throw exception) queue here =
      ap (λ o. at (next_if (got_value o && nat_lt 0 (length queue.values)) q (without on queue.getters))) (ends on here)
      ∙ ap (λ (w : Woken). at w) (next_if_same (got_value (future_outcome p on) && nat_lt 0 (length queue.values)) (without on queue.getters))
    where
      at : Woken → ExtraSaid Synced
      at w = says (set_queue id (record queue { getters = w.left }) (wait_over place kept)) w.steps (Raises exception)

  named_same : {A : Type 0} (o : Option A) (input : Input) (f g : A → ExtraSaid Synced) → ((it : A) → f it ≡ g it)
      → named o input f kept ≡ named o input g kept
  named_same None input f g same = refl
  named_same (Some it) input f g same = same it

  pub woken_same : (o : Option Waiting) (key place : ℕ) (input : Input) → waiting_at place kept ≡ o
      → woken o key place input q kept ≡ woken o key place input p kept
  woken_same None key place input e = refl
  woken_same (Some (Acquires id on)) key place input e = refl
  woken_same (Some (Awaits id on)) key place input e = refl
  woken_same (Some (Puts id value on)) key place input e =
      named_same (slice_get kept.queues id) input (λ queue. putting key place id on value input queue q kept)
      (λ queue. putting key place id on value input queue p kept)
      (λ queue. putting_same key place id on value input queue (on_here place (Puts id value on) e))
  woken_same (Some (Gets id on)) key place input e =
      named_same (slice_get kept.queues id) input (λ queue. getting key place id on input queue q kept)
      (λ queue. getting key place id on input queue p kept)
      (λ queue. getting_same key place id on input queue (on_here place (Gets id on) e))
