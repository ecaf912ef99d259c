-- Each try keeps what is so of a lock and those who wait for it.
use Rattle.std.proofs.Common.{◌≡◌, ◌⊎◌, inl, inr, ℕ, zero, suc, pos, ◌≤◌, Bool, true, false, List, [], ◌∷◌, ◌++◌, Some}
use Rattle.std.proofs.Common.{length, slice_get}
use Rattle.std.proofs.Common.{slice_set, refl, sym, ap, subst, ◌∙◌, arith, le_refl}
use Rattle.std.specs.Prelude.{not, ◌&&◌, ◌==◌, nat_lt, if◌then◌else◌}
use Rattle.std.specs.List.{AllByRecursion as Each}
use Rattle.std.proofs.lemmas.Bool.{cases_eq, eqb-true}
use Rattle.std.proofs.lemmas.List.{append-nil}
use Rattle.model_value.specs.Input.{Input}
use Rattle.model_value.specs.Value.{Exc, Nothing, Truth}
use Rattle.model_loop.specs.Futures.{future_outcome, new_plain, next_future}
use Rattle.model_loop.specs.Loop.{Loop}
use Rattle.model_loop.specs.Tasks.{is_cancelled}
use Rattle.model_machine.specs.Extra.{Answers, ExtraAnswer, ExtraSaid, ExtraStep, MakesPlain, Raises, Waits, made_by_all}
use Rattle.model_sync.specs.Locks.{set_lock}
use Rattle.model_sync.specs.Queues.{got_value, is_full, next_if, wake_next}
use Rattle.model_sync.specs.Serving.{Acquire, Clear, Get, IsLocked, IsSet, MakesEvent, MakesLock, MakesQueue, Put, Release, Set, Size, Wait, Wanted}
use Rattle.model_sync.specs.Synced.{Acquires, Awaits, Event, Gets, Lock, Puts, Queue, Synced, Waiting, draw, is_place, next_key, wait_last}
use Rattle.model_sync.specs.Synced.{wait_over, waiting_at}
use Rattle.model_sync.specs.Synced.{wake_first, without}
use Rattle.law_cancel.proofs.Lookups.{get-set_other}
use Rattle.law_sync.proofs.Lists.{each_append, each_at, each_filter, each_on}
use Rattle.law_locks.specs.Locks.{HearsOf, acquired_by, has_acquired, has_released, released_by}
use Rattle.law_locks.specs.Tries.{Reply, wanted_by}
use Rattle.law_locks.proofs.Served.{Resumes, Serves, clears, gets, gets_lock, gets_now, goes_by, leaves_event, leaves_get, leaves_lock, leaves_put}
use Rattle.law_locks.proofs.Served.{makes_event}
use Rattle.law_locks.proofs.Served.{makes_lock, makes_queue, puts, puts_now, releases, says_no, sees_event, sees_lock, sees_set, sees_size, sets}
use Rattle.law_locks.proofs.Served.{stays_set, takes_lock, waits_event, waits_get, waits_get_again, waits_lock, waits_put, waits_put_again}
use Rattle.law_locks.proofs.Lines.{IsGiven, plain_more}
use Rattle.law_locks.proofs.Who.{Apart, EventApart, IsOther, LeavesLine, QueueApart, all_wake, apart_event, apart_lock, apart_more, apart_on}
use Rattle.law_locks.proofs.Who.{apart_queue, apart_same}
use Rattle.law_locks.proofs.Who.{first_wakes, next_if_wakes, next_wakes, steps_leave, wants_it, wants_other, who, who_again, who_last, who_over}
use Rattle.law_locks.proofs.Held.{Held, StepTo, gets_own, leaves_own, locked_at, other_later, passes_to, releases_own, takes_own, waiters_at}
use Rattle.law_locks.proofs.Held.{waits_own}

-- ---- answers that are none of the lock
no_raise_acquires : (n : ℕ) (wanted : Wanted) (exception : Exc) → acquired_by n wanted (Raises exception) ≡ false
no_raise_acquires n (Acquire id) exception = refl
no_raise_acquires n _ exception = refl

no_raise_releases : (n : ℕ) (wanted : Wanted) (exception : Exc) → released_by n wanted (Raises exception) ≡ false
no_raise_releases n (Release id) exception = refl
no_raise_releases n _ exception = refl

differs : (id n : ℕ) → (id ≡ n → ⊥) → (id == n) ≡ false
differs id n other = at (id == n) refl
  where
    at : (b : Bool) → (id == n) ≡ b → (id == n) ≡ false
    at true e = absurd (other (eqb-true id n e))
    at false e = e

-- ---- one lock more
more_waiters : (locks : List Lock) (n : ℕ)
    → waiters_at (slice_get (locks ++ record { locked = false; waiters = [] } ∷ []) n) ≡ waiters_at (slice_get locks n)
more_waiters [] zero = refl
more_waiters [] (suc zero) = refl
more_waiters [] (suc (suc n)) = refl
more_waiters (lock ∷ locks) zero = refl
more_waiters (lock ∷ locks) (suc n) = more_waiters locks n

more_locked : (locks : List Lock) (n : ℕ)
    → locked_at (slice_get (locks ++ record { locked = false; waiters = [] } ∷ []) n) ≡ locked_at (slice_get locks n)
more_locked [] zero = refl
more_locked [] (suc zero) = refl
more_locked [] (suc (suc n)) = refl
more_locked (lock ∷ locks) zero = refl
more_locked (lock ∷ locks) (suc n) = more_locked locks n

module _ (n : ℕ) (kept : Synced) (l : Loop) (least : ℕ) (h : Held n kept l.parts least) where
  abbrev line : List (ℕ × ℕ)
  line = who n kept.waiting

  abbrev next : ℕ
  next = next_future l.parts

  abbrev later : ℕ
  later = next_future (new_plain l.parts)

  abbrev To : Synced → List ExtraStep → Reply → Type 0
  To now steps reply = StepTo n kept least now (made_by_all steps l).parts reply

  -- who waits for something else
  event_at : (id : ℕ) (event : Event) → slice_get kept.events id ≡ Some event → EventApart line next event
  event_at id event found = each_at (EventApart line next) kept.events id event found h.apart.events

  queue_at : (id : ℕ) (queue : Queue) → slice_get kept.queues id ≡ Some queue → QueueApart line next queue
  queue_at id queue found = each_at (QueueApart line next) kept.queues id queue found h.apart.queues

  old_later : (on : ℕ) → IsOther line next on → IsOther line later on
  old_later on other = let m = plain_more l.parts in other_later line next later on (omega (arith, m)) other

  new_other : IsOther line later next
  new_other = (
    each_on (IsGiven kept.drawn next) (λ (e : ℕ × ℕ). e.1 ≡ next → ⊥) (λ e given same. let g = given.1 in absurd (omega (arith, g, same))) line h.line.given,
    let m = plain_more l.parts in omega (arith, m),
  )

  all_later : (waiters : List ℕ) → Each (IsOther line next) waiters → Each (IsOther line later) waiters
  all_later waiters all = each_on (IsOther line next) (IsOther line later) old_later waiters all

  last_other : (waiters : List ℕ) → Each (IsOther line next) waiters → Each (IsOther line later) (waiters ++ next ∷ [])
  last_other waiters all = each_append (IsOther line later) waiters (next ∷ []) (all_later waiters all) (new_other, tt)

  left_other : (on : ℕ) (waiters : List ℕ) → Each (IsOther line next) waiters → Each (IsOther line next) (without on waiters)
  left_other on waiters all = each_filter (IsOther line next) (λ other. not (other == on)) waiters all

  apart_later : Apart n line later kept
  apart_later = apart_on n line line next later kept old_later h.apart

  -- ---- what is none of the lock's
  module _ (now : Synced) (reply : Reply) (no_acquire : has_acquired n reply ≡ false) (no_release : has_released n reply ≡ false)
      (drawn : kept.drawn ≤ now.drawn) where
    -- it wakes others, or nobody
    beside_as : (steps : List ExtraStep) → waiters_at (slice_get now.locks n) ≡ waiters_at (slice_get kept.locks n)
        → locked_at (slice_get now.locks n) ≡ locked_at (slice_get kept.locks n) → who n now.waiting ≡ line → Each (LeavesLine line) steps
        → Apart n line next now → To now steps reply
    beside_as steps waiters locked still leave apart =
        let q = (made_by_all steps l).parts in
        let leaves = steps_leave line steps l leave in
        passes_to n kept now l.parts q least reply no_acquire no_release waiters locked still drawn leaves h
        (apart_on n line line next (next_future q) now (λ on. other_later line next (next_future q) on leaves.made) apart)

    beside : (steps : List ExtraStep) → slice_get now.locks n ≡ slice_get kept.locks n → who n now.waiting ≡ line → Each (LeavesLine line) steps
        → Apart n line next now → To now steps reply
    beside steps same still leave apart = beside_as steps (ap waiters_at same) (ap locked_at same) still leave apart

    -- its task waits
    waits_beside : slice_get now.locks n ≡ slice_get kept.locks n → who n now.waiting ≡ line → Apart n line later now → To now (MakesPlain ∷ []) reply
    waits_beside same still apart =
        passes_to n kept now l.parts (new_plain l.parts) least reply no_acquire no_release (ap waiters_at same) (ap locked_at same) still drawn
        (steps_leave line (MakesPlain ∷ []) l (tt, tt)) h apart

  abbrev asked : Wanted → ExtraAnswer → Reply
  asked wanted answer = record { number = kept.drawn; wanted = wanted; waited = false; answer = answer }

  still_drawn : (now : Synced) → now.locks ≡ kept.locks → now.events ≡ kept.events → now.queues ≡ kept.queues → Apart n line next now
  still_drawn now locks events queues = apart_same n line next kept now h.apart locks events queues

  last_beside : (it : Waiting) → ((place : ℕ) → wants_it n place it ≡ []) → who n (kept.waiting ++ (kept.drawn, it) ∷ []) ≡ line
  last_beside it none = who_last n kept.waiting kept.drawn it ∙ ap (λ more. line ++ more) (none kept.drawn) ∙ append-nil line

  -- ---- as it is asked
  abbrev AskedTo : Wanted → ExtraSaid Synced → Type 0
  AskedTo wanted said = StepTo n kept least said.call.state (made_by_all said.call.steps l).parts (asked wanted said.answer)

  set_beside : (id : ℕ) (new : Lock) → (id ≡ n → ⊥) → slice_get (slice_set kept.locks id new) n ≡ slice_get kept.locks n
  set_beside id new other = get-set_other kept.locks id n new other

  pub serves_to : (wanted : Wanted) (said : ExtraSaid Synced) → Serves l.parts kept wanted said → AskedTo wanted said
  serves_to wanted said (says_no it exception) =
      beside said.call.state (asked it (Raises exception)) (no_raise_acquires n it exception) (no_raise_releases n it exception) (omega arith) [] refl refl tt
      (still_drawn said.call.state refl refl refl)
  serves_to wanted said makes_lock =
      beside_as said.call.state (asked MakesLock said.answer) refl refl (omega arith) [] (more_waiters kept.locks n) (more_locked kept.locks n) refl tt
      (apart_more n line next kept said.call.state h.apart (record { locked = false; waiters = [] }) refl refl refl refl)
  serves_to wanted said (takes_lock id lock found free) = at (cases_eq id n)
    where
      at : (id ≡ n) ⊎ (id ≡ n → ⊥) → AskedTo wanted said
      at (inl same) =
          subst (λ i. StepTo n kept least (set_lock i (record lock { locked = true }) (draw kept)) l.parts (asked (Acquire (pos i)) (Answers (Truth true))))
          (sym same) (takes_own n kept l least lock (ap (slice_get kept.locks) (sym same) ∙ found) h kept.drawn free refl)
      at (inr other) =
          beside said.call.state (asked (Acquire (pos id)) (Answers (Truth true))) (differs id n other) refl (omega arith) []
          (set_beside id (record lock { locked = true }) other) refl tt
          (apart_lock n line next kept said.call.state h.apart id lock (record lock { locked = true }) found refl refl refl
          (inr (h.apart.locks id lock other found)))
  serves_to wanted said (waits_lock id lock found held) = at (cases_eq id n)
    where
      at : (id ≡ n) ⊎ (id ≡ n → ⊥) → AskedTo wanted said
      at (inl same) =
          subst (λ i. StepTo n kept least (set_lock i (record lock { waiters = lock.waiters ++ next_future l.parts ∷ [] })
          (wait_last (Acquires i (next_future l.parts)) kept)) (new_plain l.parts) (asked (Acquire (pos i)) (Waits (next_future l.parts) (next_key kept))))
          (sym same) (waits_own n kept l least lock (ap (slice_get kept.locks) (sym same) ∙ found) h kept.drawn (next_key kept) held)
      at (inr other) =
          waits_beside said.call.state (asked (Acquire (pos id)) (Waits (next_future l.parts) (next_key kept))) refl refl (omega arith)
          (set_beside id (record lock { waiters = lock.waiters ++ next_future l.parts ∷ [] }) other)
          (last_beside (Acquires id (next_future l.parts)) (λ place. wants_other n place id (next_future l.parts) other))
          (apart_lock n line later kept said.call.state apart_later id lock (record lock { waiters = lock.waiters ++ next_future l.parts ∷ [] }) found refl refl
          refl (inr (last_other lock.waiters (h.apart.locks id lock other found))))
  serves_to wanted said (releases id lock found locked) = at (cases_eq id n)
    where
      at : (id ≡ n) ⊎ (id ≡ n → ⊥) → AskedTo wanted said
      at (inl same) =
          subst (λ i. StepTo n kept least (draw (set_lock i (record lock { locked = false }) kept)) (made_by_all (wake_first lock.waiters) l).parts
          (asked (Release (pos i)) (Answers Nothing)))
          (sym same) (releases_own n kept l least lock (ap (slice_get kept.locks) (sym same) ∙ found) h kept.drawn locked)
      at (inr other) =
          beside said.call.state (asked (Release (pos id)) (Answers Nothing)) refl (differs id n other) (omega arith) (wake_first lock.waiters)
          (set_beside id (record lock { locked = false }) other) refl (first_wakes line next lock.waiters (h.apart.locks id lock other found))
          (apart_lock n line next kept said.call.state h.apart id lock (record lock { locked = false }) found refl refl refl
          (inr (h.apart.locks id lock other found)))
  serves_to wanted said (sees_lock id lock found) =
      beside said.call.state (asked (IsLocked (pos id)) said.answer) refl refl (omega arith) [] refl refl tt (still_drawn said.call.state refl refl refl)
  serves_to wanted said makes_event =
      beside said.call.state (asked MakesEvent said.answer) refl refl (omega arith) [] refl refl tt (record {
        locks = h.apart.locks;
        events = each_append (EventApart line next) kept.events (record { is_set = false; waiters = [] } ∷ []) h.apart.events (tt, tt);
        queues = h.apart.queues;
      })
  serves_to wanted said (sets id event found unset) =
      beside said.call.state (asked (Set (pos id)) said.answer) refl refl (omega arith) said.call.steps refl refl
      (all_wake line next event.waiters (event_at id event found))
      (apart_event n line next kept said.call.state h.apart id (record event { is_set = true }) (event_at id event found) refl refl refl)
  serves_to wanted said (stays_set id event found set) =
      beside said.call.state (asked (Set (pos id)) said.answer) refl refl (omega arith) [] refl refl tt (still_drawn said.call.state refl refl refl)
  serves_to wanted said (clears id event found) =
      beside said.call.state (asked (Clear (pos id)) said.answer) refl refl (omega arith) [] refl refl tt
      (apart_event n line next kept said.call.state h.apart id (record event { is_set = false }) (event_at id event found) refl refl refl)
  serves_to wanted said (sees_event id event found) =
      beside said.call.state (asked (IsSet (pos id)) said.answer) refl refl (omega arith) [] refl refl tt (still_drawn said.call.state refl refl refl)
  serves_to wanted said (goes_by id event found set) =
      beside said.call.state (asked (Wait (pos id)) said.answer) refl refl (omega arith) [] refl refl tt
      (apart_event n line next kept said.call.state h.apart id event (event_at id event found) refl refl refl)
  serves_to wanted said (waits_event id event found unset) =
      waits_beside said.call.state (asked (Wait (pos id)) said.answer) refl refl (omega arith) refl
      (last_beside (Awaits id (next_future l.parts)) (λ place. refl))
      (apart_event n line later kept said.call.state apart_later id (record event { waiters = event.waiters ++ next_future l.parts ∷ [] })
      (last_other event.waiters (event_at id event found)) refl refl refl)
  serves_to wanted said (makes_queue most) =
      beside said.call.state (asked (MakesQueue most) said.answer) refl refl (omega arith) [] refl refl tt (record {
        locks = h.apart.locks;
        events = h.apart.events;
        queues = each_append (QueueApart line next) kept.queues (record { size = most; values = []; getters = []; putters = [] } ∷ []) h.apart.queues
            (record { getters = tt; putters = tt }, tt);
      })
  serves_to wanted said (puts id value queue found open_) =
      let woken = next_wakes line next l.parts queue.getters (queue_at id queue found).getters in
      beside said.call.state (asked (Put (pos id) value) said.answer) refl refl (omega arith) said.call.steps refl refl woken.1
      (apart_queue n line next kept said.call.state h.apart id
      (record queue { values = queue.values ++ value ∷ []; getters = (wake_next l.parts queue.getters).left })
      (record { getters = woken.0; putters = (queue_at id queue found).putters }) refl refl refl)
  serves_to wanted said (waits_put id value queue found full) =
      waits_beside said.call.state (asked (Put (pos id) value) said.answer) refl refl (omega arith) refl
      (last_beside (Puts id value (next_future l.parts)) (λ place. refl))
      (apart_queue n line later kept said.call.state apart_later id (record queue { putters = queue.putters ++ next_future l.parts ∷ [] })
      (record {
        getters = all_later queue.getters (queue_at id queue found).getters;
        putters = last_other queue.putters (queue_at id queue found).putters;
      }) refl refl refl)
  serves_to wanted said (gets id value values queue found held) =
      let woken = next_wakes line next l.parts queue.putters (queue_at id queue found).putters in
      beside said.call.state (asked (Get (pos id)) said.answer) refl refl (omega arith) said.call.steps refl refl woken.1
      (apart_queue n line next kept said.call.state h.apart id (record queue { values = values; putters = (wake_next l.parts queue.putters).left })
      (record { getters = (queue_at id queue found).getters; putters = woken.0 }) refl refl refl)
  serves_to wanted said (waits_get id queue found empty) =
      waits_beside said.call.state (asked (Get (pos id)) said.answer) refl refl (omega arith) refl
      (last_beside (Gets id (next_future l.parts)) (λ place. refl))
      (apart_queue n line later kept said.call.state apart_later id (record queue { getters = queue.getters ++ next_future l.parts ∷ [] })
      (record {
        getters = last_other queue.getters (queue_at id queue found).getters;
        putters = all_later queue.putters (queue_at id queue found).putters;
      }) refl refl refl)
  serves_to wanted said (sees_size id queue found) =
      beside said.call.state (asked (Size (pos id)) said.answer) refl refl (omega arith) [] refl refl tt (still_drawn said.call.state refl refl refl)

  -- ---- as it goes on
  module _ (key place : ℕ) where
    abbrev went : Waiting → ExtraAnswer → Reply
    went it answer = record { number = place; wanted = wanted_by it; waited = true; answer = answer }

    abbrev GoesTo : Waiting → ExtraSaid Synced → Type 0
    GoesTo it said = StepTo n kept least said.call.state (made_by_all said.call.steps l).parts (went it said.answer)

    over_beside : (it : Waiting) → waiting_at place kept ≡ Some it → ((spot : ℕ) → wants_it n spot it ≡ []) → who n (wait_over place kept).waiting ≡ line
    over_beside it there none = who_over n (is_place place) kept.waiting it none there

    if_wakes : (b : Bool) (steps : List ExtraStep) → Each (LeavesLine line) steps → Each (LeavesLine line) (if b then steps else [])
    if_wakes true steps all = all
    if_wakes false steps all = tt

    -- what one who waits for a lock hears
    abbrev HearsIt : Waiting → Input → Type 0
    HearsIt it input = (id on : ℕ) → it ≡ Acquires id on → HearsOf input (future_outcome l.parts on)

    pub resumes_to : (it : Waiting) (input : Input) (said : ExtraSaid Synced) → Resumes l.parts kept key place it input said
        → waiting_at place kept ≡ Some it → HearsIt it input → GoesTo it said
    resumes_to it input said (gets_lock id on value lock found) there hears = at (cases_eq id n)
      where
        at : (id ≡ n) ⊎ (id ≡ n → ⊥) → GoesTo it said
        at (inl same) =
            subst (λ i. StepTo n kept least (set_lock i (record { locked = true; waiters = without on lock.waiters }) (wait_over place kept)) l.parts
            (went (Acquires i on) (Answers (Truth true))))
            (sym same)
            (gets_own n kept l least lock (ap (slice_get kept.locks) (sym same) ∙ found) h place on (there ∙ ap (λ i. Some (Acquires i on)) same)
            (hears id on refl))
        at (inr other) =
            beside said.call.state (went (Acquires id on) (Answers (Truth true))) (differs id n other) refl (le_refl _) []
            (set_beside id (record { locked = true; waiters = without on lock.waiters }) other)
            (over_beside (Acquires id on) there (λ spot. wants_other n spot id on other)) tt
            (apart_lock n line next kept said.call.state h.apart id lock (record { locked = true; waiters = without on lock.waiters }) found refl refl refl
            (inr (left_other on lock.waiters (h.apart.locks id lock other found))))
    resumes_to it input said (leaves_lock id on exception lock found) there hears = at (cases_eq id n)
      where
        at : (id ≡ n) ⊎ (id ≡ n → ⊥) → GoesTo it said
        at (inl same) =
            subst (λ i. StepTo n kept least (set_lock i (record lock { waiters = without on lock.waiters }) (wait_over place kept))
            (made_by_all (if is_cancelled exception && not lock.locked then wake_first (without on lock.waiters) else []) l).parts
            (went (Acquires i on) (Raises exception)))
            (sym same)
            (leaves_own n kept l least lock (ap (slice_get kept.locks) (sym same) ∙ found) h place on (there ∙ ap (λ i. Some (Acquires i on)) same) exception
            (hears id on refl))
        at (inr other) =
            beside said.call.state (went (Acquires id on) (Raises exception)) refl refl (le_refl _) said.call.steps
            (set_beside id (record lock { waiters = without on lock.waiters }) other)
            (over_beside (Acquires id on) there (λ spot. wants_other n spot id on other))
            (if_wakes (is_cancelled exception && not lock.locked) (wake_first (without on lock.waiters))
            (first_wakes line next (without on lock.waiters) (left_other on lock.waiters (h.apart.locks id lock other found))))
            (apart_lock n line next kept said.call.state h.apart id lock (record lock { waiters = without on lock.waiters }) found refl refl refl
            (inr (left_other on lock.waiters (h.apart.locks id lock other found))))
    resumes_to it input said (sees_set id on value event found) there hears =
        beside said.call.state (went (Awaits id on) said.answer) refl refl (le_refl _) [] refl (over_beside (Awaits id on) there (λ spot. refl)) tt
        (apart_event n line next kept said.call.state h.apart id (record event { waiters = without on event.waiters })
        (left_other on event.waiters (event_at id event found)) refl refl refl)
    resumes_to it input said (leaves_event id on exception event found) there hears =
        beside said.call.state (went (Awaits id on) said.answer) refl refl (le_refl _) [] refl (over_beside (Awaits id on) there (λ spot. refl)) tt
        (apart_event n line next kept said.call.state h.apart id (record event { waiters = without on event.waiters })
        (left_other on event.waiters (event_at id event found)) refl refl refl)
    resumes_to it input said (puts_now id on value sent queue found open_) there hears =
        let woken = next_wakes line next l.parts queue.getters (queue_at id queue found).getters in
        beside said.call.state (went (Puts id value on) said.answer) refl refl (le_refl _) said.call.steps refl
        (over_beside (Puts id value on) there (λ spot. refl)) woken.1
        (apart_queue n line next kept said.call.state h.apart id
        (record queue { values = queue.values ++ value ∷ []; getters = (wake_next l.parts queue.getters).left })
        (record { getters = woken.0; putters = (queue_at id queue found).putters }) refl refl refl)
    resumes_to it input said (waits_put_again id on value sent queue found full) there hears =
        waits_beside said.call.state (went (Puts id value on) said.answer) refl refl (le_refl _) refl
        (who_again n (is_place place) kept.waiting (Puts id value on) (Puts id value (next_future l.parts)) (λ spot. refl) (λ spot. refl) there)
        (apart_queue n line later kept said.call.state apart_later id (record queue { putters = queue.putters ++ next_future l.parts ∷ [] })
        (record {
          getters = all_later queue.getters (queue_at id queue found).getters;
          putters = last_other queue.putters (queue_at id queue found).putters;
        }) refl refl refl)
    resumes_to it input said (leaves_put id on value exception queue found) there hears =
        let is = got_value (future_outcome l.parts on) && not (is_full queue) in
        let woken = next_if_wakes line next is l.parts (without on queue.putters) (left_other on queue.putters (queue_at id queue found).putters) in
        beside said.call.state (went (Puts id value on) said.answer) refl refl (le_refl _) said.call.steps refl
        (over_beside (Puts id value on) there (λ spot. refl)) woken.1
        (apart_queue n line next kept said.call.state h.apart id (record queue { putters = (next_if is l.parts (without on queue.putters)).left })
        (record { getters = (queue_at id queue found).getters; putters = woken.0 }) refl refl refl)
    resumes_to it input said (gets_now id on value sent values queue found held) there hears =
        let woken = next_wakes line next l.parts queue.putters (queue_at id queue found).putters in
        beside said.call.state (went (Gets id on) said.answer) refl refl (le_refl _) said.call.steps refl
        (over_beside (Gets id on) there (λ spot. refl)) woken.1
        (apart_queue n line next kept said.call.state h.apart id (record queue { values = values; putters = (wake_next l.parts queue.putters).left })
        (record { getters = (queue_at id queue found).getters; putters = woken.0 }) refl refl refl)
    resumes_to it input said (waits_get_again id on sent queue found empty) there hears =
        waits_beside said.call.state (went (Gets id on) said.answer) refl refl (le_refl _) refl
        (who_again n (is_place place) kept.waiting (Gets id on) (Gets id (next_future l.parts)) (λ spot. refl) (λ spot. refl) there)
        (apart_queue n line later kept said.call.state apart_later id (record queue { getters = queue.getters ++ next_future l.parts ∷ [] })
        (record {
          getters = last_other queue.getters (queue_at id queue found).getters;
          putters = all_later queue.putters (queue_at id queue found).putters;
        }) refl refl refl)
    resumes_to it input said (leaves_get id on exception queue found) there hears =
        let is = got_value (future_outcome l.parts on) && nat_lt 0 (length queue.values) in
        let woken = next_if_wakes line next is l.parts (without on queue.getters) (left_other on queue.getters (queue_at id queue found).getters) in
        beside said.call.state (went (Gets id on) said.answer) refl refl (le_refl _) said.call.steps refl
        (over_beside (Gets id on) there (λ spot. refl)) woken.1
        (apart_queue n line next kept said.call.state h.apart id (record queue { getters = (next_if is l.parts (without on queue.getters)).left })
        (record { getters = woken.0; putters = (queue_at id queue found).putters }) refl refl refl)
