-- What users of events and queues rely on, of a state of a run: no wakeup is lost. `A`, `C` and `D` are what the other parts keep,
-- whatever these are.
use Rattle.std.specs.Prelude.{◌≡◌, ℕ, ◌==◌, ◌-◌, ◌≤◌, ℤ, pos, negsuc, Bool, true, false, ◌&&◌, List, Some, None, filter, is_some, length, slice_get}
use Rattle.std.specs.List.{AllByRecursion as Each}
use Rattle.model_loop.specs.Futures.{future_outcome}
use Rattle.model_loop.specs.Parts.{Parts}
use Rattle.model_machine.specs.State.{State}
use Rattle.model_reach.specs.Reach.{Parted}
use Rattle.model_sync.specs.Queues.{got_value}
use Rattle.model_sync.specs.Synced.{Event, Gets, Puts, Queue, Synced, Waiting, on_of}

-- ---- events
-- Where one is set, everybody who waits for it was woken, so each one's future is done.
abbrev pub AreWoken : Parts → Synced → Type 0
AreWoken p kept =
    (id : ℕ) (event : Event) → slice_get kept.events id ≡ Some event → event.is_set ≡ true
    → Each (λ waiter. is_some (future_outcome p waiter) ≡ true) event.waiters

-- ---- queues
abbrev pub gets_from : (queue : ℕ) → Waiting → Bool
gets_from queue (Gets id on) = id == queue
gets_from queue _ = false

abbrev pub puts_into : (queue : ℕ) → Waiting → Bool
puts_into queue (Puts id value on) = id == queue
puts_into queue _ = false

-- how many of a kind were woken, and have yet to go on
abbrev pub is_woken : (Waiting → Bool) → Parts → ℕ × Waiting → Bool
is_woken kind p entry = kind entry.1 && got_value (future_outcome p (on_of entry.1))

abbrev pub woken_of : (Waiting → Bool) → Parts → List (ℕ × Waiting) → ℕ
woken_of kind p waiting = length (filter (is_woken kind p) waiting)

-- a queue without a size has no place that anybody waits for
abbrev pub places_free : (size : ℤ) → (held : ℕ) → ℕ
places_free (pos size) held = size - held
places_free (negsuc before) held = 0

-- this many are woken where this waiter isn't
abbrev pub AreWokenFirst : (Waiting → Bool) → Parts → List (ℕ × Waiting) → ℕ → ℕ → Type 0
AreWokenFirst kind p waiting many waiter = future_outcome p waiter ≡ None → many ≤ woken_of kind p waiting

-- Where somebody waits to get who wasn't woken, at least as many were woken, and have yet to go on, as the queue holds values; and so
-- it is of those who wait to put, and of places that are free.
pub record KeepsTurns (p : Parts) (waiting : List (ℕ × Waiting)) (id : ℕ) (queue : Queue) : Type 0 where
  pub getters : Each (AreWokenFirst (gets_from id) p waiting (length queue.values)) queue.getters
  pub putters : Each (AreWokenFirst (puts_into id) p waiting (places_free queue.size (length queue.values))) queue.putters

abbrev pub AllKeepTurns : Parts → Synced → Type 0
AllKeepTurns p kept = (id : ℕ) (queue : Queue) → slice_get kept.queues id ≡ Some queue → KeepsTurns p kept.waiting id queue

pub record LosesNoWakeup {A C D : Type 0} (s : State (Parted A Synced C D)) : Type 0 where
  pub events : AreWoken s.loop.parts s.extra.sync
  pub queues : AllKeepTurns s.loop.parts s.extra.sync
