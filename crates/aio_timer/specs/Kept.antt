-- How the timers that live are kept.
use Rattle.std.specs.Prelude.{◌≡◌, ◌⊎◌, ℕ, ◌+◌, ◌<◌, ◌≤◌, ◌==◌, ◌&&◌, Bool, true, false, not, List, [], ◌∷◌, Option, Some, None, if◌then◌else◌}
use Rattle.std.specs.BinaryHeap.{IsHeap, heap_items}
use Rattle.std.specs.List.{All, AllByRecursion, Contains, filter, filter_map}
use Rattle.std.specs.Ordering.{nat_cmp, ordering_then}
use Rattle.std.specs.declared.cmp.Ordering.{Ordering}
use Rattle.std.specs.declared.cmp.Reverse.{Reverse}
use Rattle.slab.specs.Slab.{Slab, get}
use Rattle.model_loop.specs.Parts.{Timer}
use Rattle.aio_timer.specs.declared.live.Live.{Live}
use Rattle.aio_timer.specs.declared.live.TimerHandle.{TimerHandle}
use Rattle.aio_timer.specs.declared.live.TimerId.{TimerId}
use Rattle.aio_timer.specs.declared.place.Place.{Place}
use Rattle.aio_timer.specs.Schedule.{timer, placed_after, without}

-- what a slot has
abbrev pub Entry : Type 0
Entry = TimerId × TimerHandle

abbrev pub timer_of : Entry → Timer
timer_of entry = timer entry.0 entry.1.action

abbrev pub is_numbered : ℕ → Option Entry → Bool
is_numbered number None = false
is_numbered number (Some entry) = entry.0.number == number

abbrev pub has : TimerId → Option Entry → Bool
has id None = false
has id (Some entry) = (entry.0.number == id.number) && (entry.0.when == id.when)

-- ---- by number
-- the timer of a number, if a slot has it
abbrev pub timer_if : ℕ → Option Entry → Option Timer
timer_if number None = None
timer_if number (Some entry) = if entry.0.number == number then Some (timer_of entry) else None

-- the timers that live, in order of scheduling
abbrev pub waiting : Slab Entry → List (ℕ × ℕ) → List Timer
waiting entries = filter_map (λ (pair : ℕ × ℕ). timer_if pair.0 (get entries pair.1))

-- one after the other placed among others
abbrev pub sorted_onto : List Timer → List Timer → List Timer
sorted_onto placed [] = placed
sorted_onto placed (timer ∷ timers) = sorted_onto (placed_after timer placed) timers

abbrev pub timers_of : Live → List Timer
timers_of live = sorted_onto [] (waiting live.entries live.numbers.items)

-- numbers rise, and none is below the first number
abbrev pub AreRising : ℕ → List (ℕ × ℕ) → Type 0
AreRising first [] = Unit {0}
AreRising first (pair ∷ pairs) = (first ≤ pair.0) × AreRising (pair.0 + 1) pairs

abbrev pub NoneAt : ℕ → List (ℕ × ℕ) → Type 0
NoneAt number pairs = (slot : ℕ) → Contains pairs (number, slot) → ⊥

-- the slots of timers that are over may have left
abbrev pub IsThinned : Slab Entry → List (ℕ × ℕ) → List (ℕ × ℕ) → Type 0
IsThinned entries old new =
    (new ≡ old) ⊎ (new ≡ filter (λ (pair : ℕ × ℕ). is_numbered pair.0 (get entries pair.1)) old)

-- ---- by deadline
abbrev pub place_cmp : Place → Place → Ordering
place_cmp a b = ordering_then (nat_cmp a.when b.when) (ordering_then (nat_cmp a.number b.number) (nat_cmp a.slot b.slot))

-- the earliest is the greatest
abbrev pub later_cmp : Reverse Place → Reverse Place → Ordering
later_cmp a b = place_cmp b.0 a.0

-- whether the timer of a place lives
abbrev pub stands : Slab Entry → Reverse Place → Bool
stands entries place = has (record { number = place.0.number; when = place.0.when }) (get entries place.0.slot)

abbrev pub begins_dead : Slab Entry → List (Reverse Place) → Bool
begins_dead entries [] = false
begins_dead entries (place ∷ places) = not (stands entries place)

abbrev pub KeepsStanding : Slab Entry → List (Reverse Place) → List (Reverse Place) → Type 0
KeepsStanding entries old new = (place : Reverse Place) → stands entries place ≡ true → Contains old place → Contains new place

-- only dead places left, and none comes first
pub record IsSettled (entries : Slab Entry) (old new : List (Reverse Place)) : Type 0 where
  pub heap : IsHeap later_cmp new
  pub first : begins_dead entries new ≡ false
  pub kept : KeepsStanding entries old new

-- ---- both
abbrev pub place_of : TimerId → ℕ → Reverse Place
place_of id slot = record { 0 = record { when = id.when; number = id.number; slot = slot } }

pub record IsKept (live : Live) : Type 0 where
  pub heap : IsHeap later_cmp (heap_items live.places)
  pub first : begins_dead live.entries (heap_items live.places) ≡ false
  pub rising : AreRising 0 live.numbers.items
  pub below : AllByRecursion (λ (pair : ℕ × ℕ). pair.0 < live.next) live.numbers.items
  pub numbered : (slot : ℕ) (entry : Entry) → get live.entries slot ≡ Some entry → Contains live.numbers.items (entry.0.number, slot)
  pub placed : (slot : ℕ) (entry : Entry) → get live.entries slot ≡ Some entry → Contains (heap_items live.places) (place_of entry.0 slot)

-- only room changes
pub record IsSame (old new : Live) : Type 0 where
  pub slots : new.entries.slots ≡ old.entries.slots
  pub places : heap_items new.places ≡ heap_items old.places
  pub numbers : new.numbers.items ≡ old.numbers.items
  pub next : new.next ≡ old.next

-- what the first place says
pub record IsFirst (live : Live) (place : Place) : Type 0 where
  pub entry : Entry
  pub there : get live.entries place.slot ≡ Some entry
  pub when : entry.0.when ≡ place.when
  pub rest : timers_of live ≡ timer_of entry ∷ without entry.0 (timers_of live)
  pub least : All (λ (timer : Timer). place.when ≤ timer.when) (timers_of live)
