-- What a cancel request did with a future, and with a task that it came to.
use Rattle.std.specs.Prelude.{◌≡◌, ℕ, ◌⊎◌, Bool, true, false, List, [], Option, Some, None, slice_get, Contains}
use Rattle.model_value.specs.declared.outcome.Outcome.TheVariants.{Cancelled}
use Rattle.model_loop.specs.Parts.{FutureKind, Many, Future, Parts}
use Rattle.model_loop.specs.Futures.{future_outcome, is_pending, made_before}
use Rattle.model_loop.specs.Tasks.{must_cancel_of, waiter_of}
use Rattle.model_loop.specs.Cancel.{has_seen}
use Rattle.model_loop.specs.Owning.{owner_of}

abbrev pub asked_in : FutureKind → Bool
asked_in (Many members asked) = asked
asked_in _ = false

abbrev pub asked_at : Option Future → Bool
asked_at None = false
asked_at (Some future) = asked_in future.kind

-- whether a future that stands for several keeps that its cancel was asked for
abbrev pub was_asked : Parts → ℕ → Bool
was_asked p id = asked_at (slice_get p.futures id)

abbrev pub members_in : FutureKind → List ℕ
members_in (Many members asked) = members
members_in _ = []

abbrev pub members_at : Option Future → List ℕ
members_at None = []
members_at (Some future) = members_in future.kind

-- the futures for which one stands that stands for several
abbrev pub members_of : Parts → ℕ → List ℕ
members_of p id = made_before id (members_at (slice_get p.futures id))

-- A request reached a future that was pending before it. `old` and `new` are the parts before and after the request, and
-- `seen` are the tasks that it visited.
pub data WasReached : (old new : Parts) (seen : List ℕ) → ℕ → Type 0 where
  -- it is cancelled now
  ended : {old new : Parts} {seen : List ℕ} {on : ℕ} → is_pending old on ≡ true
      → future_outcome new on ≡ Some Cancelled → WasReached old new seen on
  -- it is the own future of a task that the request visited
  visited : {old new : Parts} {seen : List ℕ} {on task : ℕ} → is_pending old on ≡ true
      → owner_of old on ≡ Some task → has_seen seen task ≡ true → WasReached old new seen on
  -- it stands for several, of which the request reached one, and keeps that it was asked
  asked : {old new : Parts} {seen : List ℕ} {on member : ℕ} → is_pending old on ≡ true
      → Contains (members_of old on) member → WasReached old new seen member → was_asked new on ≡ true
      → WasReached old new seen on

-- The cancel waits for the task's next step, or the request reached what the task waits for.
abbrev pub RequestGoesOn : (old new : Parts) (seen : List ℕ) → ℕ → Type 0
RequestGoesOn old new seen task =
    (must_cancel_of new task ≡ true) ⊎ ((on : ℕ) × (waiter_of old task ≡ Some on) × WasReached old new seen on)
