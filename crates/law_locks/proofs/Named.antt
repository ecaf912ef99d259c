-- Each request that waits does so for a lock, an event or a queue that was made; so what it comes to is one of the cases.
use Rattle.std.proofs.Common.{◌≡◌, ℕ, zero, suc, ◌<◌, ◌≤◌, Bool, true, false, List, [], ◌∷◌, ◌++◌, Option, Some, None, length, slice_get}
use Rattle.std.proofs.Common.{slice_set, refl, sym, subst}
use Rattle.std.proofs.Common.{arith, le_refl, length-append}
use Rattle.std.proofs.Math.ListN.{length-set}
use Rattle.std.specs.Prelude.{if◌then◌else◌}
use Rattle.std.specs.List.{AllByRecursion as Each}
use Rattle.std.proofs.lemmas.Option.{slice_get_within}
use Rattle.model_value.specs.Input.{Input}
use Rattle.model_loop.specs.Futures.{next_future}
use Rattle.model_loop.specs.Parts.{Parts}
use Rattle.model_machine.specs.Extra.{ExtraSaid}
use Rattle.model_says.specs.Operations.{out_of_range}
use Rattle.model_reach.specs.Part.{can_draw, place_of, refuses}
use Rattle.model_sync.specs.Synced.{Acquires, Awaits, Event, Gets, Lock, Puts, Queue, Synced, Waiting, is_place, sync_part, wait_again}
use Rattle.model_sync.specs.Synced.{wait_over}
use Rattle.model_sync.specs.Synced.{waiting_at}
use Rattle.model_sync.specs.Locks.{acquired, set_lock}
use Rattle.model_sync.specs.Events.{set_event, waited}
use Rattle.model_sync.specs.Queues.{getting, putting, set_queue}
use Rattle.model_sync.specs.Serving.{Wanted, asked_for, named, served, wanted_of, woken}
use Rattle.law_sync.proofs.Lists.{each_append, each_found, each_on, each_removed, each_replaced}
use Rattle.law_locks.specs.Tries.{Asks, GoesOn, Try, said_of}
use Rattle.law_locks.proofs.Served.{Resumes, Serves, acquired_is, clears, getting_is, gets, gets_lock, gets_now, goes_by, leaves_event, leaves_get}
use Rattle.law_locks.proofs.Served.{leaves_lock, leaves_put}
use Rattle.law_locks.proofs.Served.{makes_event, makes_lock, makes_queue, puts, puts_now, putting_is, releases, says_no, sees_event, sees_lock}
use Rattle.law_locks.proofs.Served.{sees_set, sees_size, serves_is, sets}
use Rattle.law_locks.proofs.Served.{stays_set, takes_lock, waited_is, waits_event, waits_get, waits_get_again, waits_lock, waits_put, waits_put_again}

-- ---- lists
pub found_within : {A : Type 0} (xs : List A) (id : ℕ) → id < length xs → (x : A) × (slice_get xs id ≡ Some x)
found_within [] id within = absurd (omega (arith, within))
found_within (y ∷ xs) zero within = (y, refl)
found_within (y ∷ xs) (suc id) within = found_within xs id (omega (arith, within))

pub none_some : {A : Type 0} (o : Option A) (x : A) → o ≡ None → o ≡ Some x → ⊥
none_some o x none some = absurd (cc)

-- ---- what was made
-- among so many locks, events and queues
abbrev pub WasMade : (locks events queues : ℕ) → Waiting → Type 0
WasMade locks events queues (Acquires id on) = id < locks
WasMade locks events queues (Awaits id on) = id < events
WasMade locks events queues (Puts id value on) = id < queues
WasMade locks events queues (Gets id on) = id < queues

abbrev pub WasMadeIn : Synced → Waiting → Type 0
WasMadeIn kept it = WasMade (length kept.locks) (length kept.events) (length kept.queues) it

abbrev pub AreMade : Synced → Type 0
AreMade kept = Each (λ entry. WasMadeIn kept entry.1) kept.waiting

-- none of them went
abbrev pub Grows : (kept now : Synced) → Type 0
Grows kept now =
    (length kept.locks ≤ length now.locks) × (length kept.events ≤ length now.events) × (length kept.queues ≤ length now.queues)

made_on : (kept now : Synced) → Grows kept now → (it : Waiting) → WasMadeIn kept it → WasMadeIn now it
made_on kept now grows (Acquires id on) made = let g = grows.0 in omega (arith, g, made)
made_on kept now grows (Awaits id on) made = let g = grows.1 in omega (arith, g, made)
made_on kept now grows (Puts id value on) made = let g = grows.2 in omega (arith, g, made)
made_on kept now grows (Gets id on) made = let g = grows.2 in omega (arith, g, made)

grown : (kept now : Synced) → Grows kept now → AreMade kept → Each (λ entry. WasMadeIn now entry.1) kept.waiting
grown kept now grows all =
    each_on (λ entry. WasMadeIn kept entry.1) (λ entry. WasMadeIn now entry.1) (λ entry made. made_on kept now grows entry.1 made) kept.waiting all

same_grows : (kept : Synced) → Grows kept kept
same_grows kept = (le_refl _, le_refl _, le_refl _)

lock_grows : (id : ℕ) (lock : Lock) (kept : Synced) → Grows kept (set_lock id lock kept)
lock_grows id lock kept = (let e = length-set kept.locks id lock in omega (arith, e), le_refl _, le_refl _)

event_grows : (id : ℕ) (event : Event) (kept : Synced) → Grows kept (set_event id event kept)
event_grows id event kept = (le_refl _, let e = length-set kept.events id event in omega (arith, e), le_refl _)

queue_grows : (id : ℕ) (queue : Queue) (kept : Synced) → Grows kept (set_queue id queue kept)
queue_grows id queue kept = (le_refl _, le_refl _, let e = length-set kept.queues id queue in omega (arith, e))

-- ---- one more waits, or one less
last_made : (kept now : Synced) (it : Waiting) → now.waiting ≡ kept.waiting ++ (kept.drawn, it) ∷ [] → Grows kept now → WasMadeIn now it → AreMade kept
    → AreMade now
last_made kept now it waiting grows made all =
    subst (λ ws. Each (λ entry. WasMadeIn now entry.1) ws) (sym waiting)
    (each_append (λ entry. WasMadeIn now entry.1) kept.waiting ((kept.drawn, it) ∷ []) (grown kept now grows all) (made, tt))

over_made : (place : ℕ) (kept now : Synced) → now.waiting ≡ (wait_over place kept).waiting → Grows kept now → AreMade kept → AreMade now
over_made place kept now waiting grows all =
    subst (λ ws. Each (λ entry. WasMadeIn now entry.1) ws) (sym waiting)
    (each_removed (λ entry. WasMadeIn now entry.1) (is_place place) kept.waiting (grown kept now grows all))

again_made : (place : ℕ) (kept now : Synced) (it : Waiting) → now.waiting ≡ (wait_again place it kept).waiting → Grows kept now → WasMadeIn now it
    → AreMade kept → AreMade now
again_made place kept now it waiting grows made all =
    subst (λ ws. Each (λ entry. WasMadeIn now entry.1) ws) (sym waiting)
    (each_replaced (λ entry. WasMadeIn now entry.1) (is_place place) kept.waiting it (grown kept now grows all) (λ key. made))

within_set : {A : Type 0} (xs : List A) (id : ℕ) (x y : A) → slice_get xs id ≡ Some x → id < length (slice_set xs id y)
within_set xs id x y found = let w = slice_get_within xs id x found in let e = length-set xs id y in omega (arith, w, e)

module _ (p : Parts) (kept : Synced) (all : AreMade kept) where
  -- ---- as it is asked
  pub serves_made : (wanted : Wanted) (said : ExtraSaid Synced) → Serves p kept wanted said → AreMade said.call.state
  serves_made wanted said (says_no _ exception) = grown kept kept (same_grows kept) all
  serves_made wanted said makes_lock =
      grown kept (record kept { locks = kept.locks ++ record { locked = false; waiters = [] } ∷ [] })
      (let e = length-append kept.locks (record { locked = false; waiters = [] } ∷ []) in omega (arith, e), le_refl _, le_refl _) all
  serves_made wanted said (takes_lock id lock found free) =
      grown kept (set_lock id (record lock { locked = true }) kept) (lock_grows id (record lock { locked = true }) kept) all
  serves_made wanted said (waits_lock id lock found held) =
      last_made kept said.call.state (Acquires id (next_future p)) refl (lock_grows id (record lock { waiters = lock.waiters ++ next_future p ∷ [] }) kept)
      (within_set kept.locks id lock (record lock { waiters = lock.waiters ++ next_future p ∷ [] }) found) all
  serves_made wanted said (releases id lock found locked) =
      grown kept (set_lock id (record lock { locked = false }) kept) (lock_grows id (record lock { locked = false }) kept) all
  serves_made wanted said (sees_lock id lock found) = grown kept kept (same_grows kept) all
  serves_made wanted said makes_event =
      grown kept (record kept { events = kept.events ++ record { is_set = false; waiters = [] } ∷ [] })
      (le_refl _, let e = length-append kept.events (record { is_set = false; waiters = [] } ∷ []) in omega (arith, e), le_refl _) all
  serves_made wanted said (sets id event found unset) =
      grown kept (set_event id (record event { is_set = true }) kept) (event_grows id (record event { is_set = true }) kept) all
  serves_made wanted said (stays_set id event found set) = grown kept kept (same_grows kept) all
  serves_made wanted said (clears id event found) =
      grown kept (set_event id (record event { is_set = false }) kept) (event_grows id (record event { is_set = false }) kept) all
  serves_made wanted said (sees_event id event found) = grown kept kept (same_grows kept) all
  serves_made wanted said (goes_by id event found set) = grown kept (set_event id event kept) (event_grows id event kept) all
  serves_made wanted said (waits_event id event found unset) =
      last_made kept said.call.state (Awaits id (next_future p)) refl (event_grows id (record event { waiters = event.waiters ++ next_future p ∷ [] }) kept)
      (within_set kept.events id event (record event { waiters = event.waiters ++ next_future p ∷ [] }) found) all
  serves_made wanted said (makes_queue most) =
      grown kept (record kept { queues = kept.queues ++ record { size = most; values = []; getters = []; putters = [] } ∷ [] })
      (le_refl _, le_refl _, let e = length-append kept.queues (record { size = most; values = []; getters = []; putters = [] } ∷ []) in omega (arith, e)) all
  serves_made wanted said (puts id value queue found open_) = grown kept said.call.state (queue_grows id _ kept) all
  serves_made wanted said (waits_put id value queue found full) =
      last_made kept said.call.state (Puts id value (next_future p)) refl (queue_grows id _ kept) (within_set kept.queues id queue _ found) all
  serves_made wanted said (gets id value values queue found held) = grown kept said.call.state (queue_grows id _ kept) all
  serves_made wanted said (waits_get id queue found empty) =
      last_made kept said.call.state (Gets id (next_future p)) refl (queue_grows id _ kept) (within_set kept.queues id queue _ found) all
  serves_made wanted said (sees_size id queue found) = grown kept kept (same_grows kept) all

  -- ---- after a wait
  pub resumes_made : (key place : ℕ) (it : Waiting) (input : Input) (said : ExtraSaid Synced) → Resumes p kept key place it input said
      → AreMade said.call.state
  resumes_made key place it input said (gets_lock id on value lock found) = over_made place kept said.call.state refl (lock_grows id _ kept) all
  resumes_made key place it input said (leaves_lock id on exception lock found) = over_made place kept said.call.state refl (lock_grows id _ kept) all
  resumes_made key place it input said (sees_set id on value event found) = over_made place kept said.call.state refl (event_grows id _ kept) all
  resumes_made key place it input said (leaves_event id on exception event found) = over_made place kept said.call.state refl (event_grows id _ kept) all
  resumes_made key place it input said (puts_now id on value sent queue found open_) = over_made place kept said.call.state refl (queue_grows id _ kept) all
  resumes_made key place it input said (waits_put_again id on value sent queue found full) =
      again_made place kept said.call.state (Puts id value (next_future p)) refl (queue_grows id _ kept) (within_set kept.queues id queue _ found) all
  resumes_made key place it input said (leaves_put id on value exception queue found) =
      over_made place kept said.call.state refl (queue_grows id _ kept) all
  resumes_made key place it input said (gets_now id on value sent values queue found held) =
      over_made place kept said.call.state refl (queue_grows id _ kept) all
  resumes_made key place it input said (waits_get_again id on sent queue found empty) =
      again_made place kept said.call.state (Gets id (next_future p)) refl (queue_grows id _ kept) (within_set kept.queues id queue _ found) all
  resumes_made key place it input said (leaves_get id on exception queue found) = over_made place kept said.call.state refl (queue_grows id _ kept) all

  -- ---- one of the cases
  found_is : {A : Type 0} (P : ExtraSaid Synced → Type 0) (xs : List A) (id : ℕ) (input : Input) (next : A → ExtraSaid Synced) → id < length xs
      → ((x : A) → slice_get xs id ≡ Some x → P (next x)) → P (named (slice_get xs id) input next kept)
  found_is {A} P xs id input next within each = at (slice_get xs id) refl
    where
      at : (o : Option A) → slice_get xs id ≡ o → P (named o input next kept)
      at None e = absurd (none_some (slice_get xs id) (found_within xs id within).0 e (found_within xs id within).1)
      at (Some x) e = each x e

  pub resumes_is : (key place : ℕ) (it : Waiting) (input : Input) → WasMadeIn kept it
      → Resumes p kept key place it input (woken (Some it) key place input p kept)
  resumes_is key place (Acquires id on) input made =
      found_is (Resumes p kept key place (Acquires id on) input) kept.locks id input (λ lock. acquired place id on input lock kept) made
      (λ lock found. acquired_is p kept key place id on input lock found)
  resumes_is key place (Awaits id on) input made =
      found_is (Resumes p kept key place (Awaits id on) input) kept.events id input (λ event. waited place id on input event kept) made
      (λ event found. waited_is p kept key place id on input event found)
  resumes_is key place (Puts id value on) input made =
      found_is (Resumes p kept key place (Puts id value on) input) kept.queues id input (λ queue. putting key place id on value input queue p kept) made
      (λ queue found. putting_is p kept key place id on value input queue found)
  resumes_is key place (Gets id on) input made =
      found_is (Resumes p kept key place (Gets id on) input) kept.queues id input (λ queue. getting key place id on input queue p kept) made
      (λ queue found. getting_is p kept key place id on input queue found)

  pub waiting_made : (place : ℕ) (it : Waiting) → waiting_at place kept ≡ Some it → WasMadeIn kept it
  waiting_made place it e = (each_found (λ entry. WasMadeIn kept entry.1) (is_place place) kept.waiting it e all).1

-- ---- each try
pub try_made : (it : Try) (kept : Synced) → AreMade kept → AreMade (said_of it kept).call.state
try_made (Asks code arguments l) kept all = at (wanted_of code arguments)
  where
    drawn : (wanted : Wanted) (b : Bool) → AreMade (ExtraSaid.call (if b then served wanted l.parts kept else refuses out_of_range kept)).state
    drawn wanted true = serves_made l.parts kept all wanted (served wanted l.parts kept) (serves_is l.parts kept wanted)
    drawn wanted false = all

    at : (o : Option (Option Wanted)) → AreMade (asked_for code o l.parts kept).call.state
    at None = all
    at (Some None) = all
    at (Some (Some wanted)) = drawn wanted (can_draw sync_part kept.drawn 1)
try_made (GoesOn key input l) kept all = at (waiting_at (place_of sync_part key) kept) refl
  where
    at : (o : Option Waiting) → waiting_at (place_of sync_part key) kept ≡ o
        → AreMade (woken o key (place_of sync_part key) input l.parts kept).call.state
    at None e = all
    at (Some it) e =
        resumes_made l.parts kept all key (place_of sync_part key) it input _
        (resumes_is l.parts kept all key (place_of sync_part key) it input (waiting_made l.parts kept all (place_of sync_part key) it e))
