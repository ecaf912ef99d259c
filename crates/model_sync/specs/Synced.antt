-- What locks, events and queues keep. A waiter is a future of its own, in a list. Source: `locks.py`; `queues.py`.
use Rattle.std.specs.Prelude.{ℕ, ◌+◌, ◌==◌, ℤ, pos, negsuc, Bool, not, List, [], ◌∷◌, ◌++◌, Option, Some, None, filter, slice_get}
use Rattle.std.specs.List.{flat_map}
use Rattle.std.specs.Map.{lookup, remove_entry, set_value}
use Rattle.model_value.specs.Value.{Value, Nothing, Exc}
use Rattle.model_value.specs.declared.outcome.Outcome.TheVariants.{Value as Returned}
use Rattle.model_loop.specs.Futures.{next_future}
use Rattle.model_loop.specs.Parts.{Parts}
use Rattle.model_machine.specs.Extra.{ExtraAnswer, Answers, Raises, Waits, ExtraSaid, ExtraStep, Keeping, Settles}
use Rattle.model_reach.specs.Part.{key_at, was_drawn}

pub record Lock : Type 0 where
  pub locked : Bool
  pub waiters : List ℕ

pub record Event : Type 0 where
  pub is_set : Bool
  pub waiters : List ℕ

-- at most so many values; a size at most 0 is no limit
pub record Queue : Type 0 where
  pub size : ℤ
  pub values : List Value
  pub getters : List ℕ
  pub putters : List ℕ

-- a request that waits, with its future
pub data Waiting : Type 0 where
  Acquires : (lock on : ℕ) → Waiting
  Awaits : (event on : ℕ) → Waiting
  Puts : (queue : ℕ) (value : Value) (on : ℕ) → Waiting
  Gets : (queue on : ℕ) → Waiting

-- the part's number, of which its keys are
abbrev pub sync_part : ℕ
sync_part = 1

-- How many keys were drawn; each request that waits, in order of asking, with the place of its key; and locks, events and queues,
-- each numbered in order of making.
pub record Synced : Type 0 where
  pub drawn : ℕ
  pub waiting : List (ℕ × Waiting)
  pub locks : List Lock
  pub events : List Event
  pub queues : List Queue

abbrev pub none_synced : Synced
none_synced = record { drawn = 0; waiting = []; locks = []; events = []; queues = [] }

-- ---- keys
abbrev pub is_place : (place other : ℕ) → Bool
is_place place other = other == place

-- the request that waits under the key at this place
abbrev pub waiting_at : (place : ℕ) → Synced → Option Waiting
waiting_at place kept = lookup (is_place place) kept.waiting

-- the key of the request that is asked
abbrev pub next_key : Synced → ℕ
next_key kept = key_at sync_part kept.drawn

-- it is drawn, for a request that is answered at once
abbrev pub draw : Synced → Synced
draw kept = record kept { drawn = kept.drawn + 1 }

-- or for one that waits
abbrev pub wait_last : Waiting → Synced → Synced
wait_last it kept = record kept { drawn = kept.drawn + 1; waiting = kept.waiting ++ (kept.drawn, it) ∷ [] }

-- a request that was woken waits again, under the same key
abbrev pub wait_again : (place : ℕ) → Waiting → Synced → Synced
wait_again place it kept = record kept { waiting = set_value (is_place place) kept.waiting it }

-- or waits no more
abbrev pub wait_over : (place : ℕ) → Synced → Synced
wait_over place kept = record kept { waiting = remove_entry (is_place place) kept.waiting }

-- ---- what a request comes to
-- what is kept then, the steps, and the answer
abbrev pub says : Synced → List ExtraStep → ExtraAnswer → ExtraSaid Synced
says kept steps answer = record { call = record { state = kept; steps = steps }; answer = answer }

-- it is answered as it is asked
abbrev pub answers : Value → List ExtraStep → Synced → ExtraSaid Synced
answers value steps kept = says (draw kept) steps (Answers value)

abbrev pub raises : Exc → Synced → ExtraSaid Synced
raises exception kept = says (draw kept) [] (Raises exception)

-- A try: what becomes of the lock, event or queue, the steps, and the answer where it goes through. Where it doesn't, the task
-- waits on a future that the try makes.
pub record Tried (A : Type 0) : Type 0 where
  pub now : A
  pub steps : List ExtraStep
  pub answer : Option Value

-- at the first try, as the request is asked; `put` puts the lock, event or queue back
abbrev pub tried_first : {A : Type 0} → (put : A → Synced → Synced) → Waiting → Tried A → Parts → Synced → ExtraSaid Synced
tried_first put waiting it p kept =
    elim it.answer [
      | Some value ↦ says (put it.now (draw kept)) it.steps (Answers value)
      | None ↦ says (put it.now (wait_last waiting kept)) it.steps (Waits (next_future p) (next_key kept))
    ]

-- at one after a wait, under the key of that place
abbrev pub tried_again : {A : Type 0} → (key place : ℕ) → (put : A → Synced → Synced) → Waiting → Tried A → Parts → Synced
    → ExtraSaid Synced
tried_again key place put waiting it p kept =
    elim it.answer [
      | Some value ↦ says (put it.now (wait_over place kept)) it.steps (Answers value)
      | None ↦ says (put it.now (wait_again place waiting kept)) it.steps (Waits (next_future p) key)
    ]

-- what this number names among so many, which were numbered from 0
abbrev pub numbered : {A : Type 0} → List A → ℤ → Option A
numbered all (pos id) = slice_get all id
numbered all (negsuc before) = None

abbrev pub number_of : ℤ → ℕ
number_of (pos id) = id
number_of (negsuc before) = 0

-- ---- waiters
-- a waiter's future gets this, unless it is done
abbrev pub wakes : ℕ → ExtraStep
wakes waiter = Settles waiter (Returned Nothing)

abbrev pub without : ℕ → List ℕ → List ℕ
without on waiters = filter (λ other. not (other == on)) waiters

-- the first is woken
abbrev pub wake_first : List ℕ → List ExtraStep
wake_first [] = []
wake_first (waiter ∷ waiters) = wakes waiter ∷ []

-- ---- what is kept
abbrev pub on_of : Waiting → ℕ
on_of (Acquires lock on) = on
on_of (Awaits event on) = on
on_of (Puts queue value on) = on
on_of (Gets queue on) = on

abbrev pub values_of : Waiting → List Value
values_of (Puts queue value on) = value ∷ []
values_of _ = []

abbrev pub sync_keeps : Synced → Keeping
sync_keeps kept =
    record {
      tasks = [];
      futures = [];
      own =
          flat_map (λ entry. on_of entry.1 ∷ []) kept.waiting ++ (flat_map (λ lock. lock.waiters) kept.locks
          ++ (flat_map (λ event. event.waiters) kept.events ++ flat_map (λ queue. queue.getters ++ queue.putters) kept.queues));
      tags = [];
      values = flat_map (λ entry. values_of entry.1) kept.waiting ++ flat_map (λ queue. queue.values) kept.queues;
      has_key = was_drawn sync_part kept.drawn;
    }
