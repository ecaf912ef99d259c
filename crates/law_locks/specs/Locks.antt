-- What users of a lock rely on, and what that needs of the loop.
use Rattle.std.specs.Prelude.{◌≡◌, ◌⊎◌, ℕ, ◌<◌, ◌≤◌, Bool, true, false, ◌&&◌, List, [], ◌∷◌, ◌++◌, Option, Some, None, is_some, slice_get}
use Rattle.std.specs.List.{AllByRecursion as Each, list_any}
use Rattle.model_value.specs.Input.{Input}
use Rattle.model_value.specs.Value.{Nothing, Outcome, Truth, Value}
use Rattle.model_value.specs.declared.input.Input.TheVariants.{Send, Throw}
use Rattle.model_value.specs.declared.outcome.Outcome.TheVariants.{Cancelled}
use Rattle.model_loop.specs.Futures.{future_outcome, next_future}
use Rattle.model_loop.specs.Parts.{Parts}
use Rattle.model_loop.specs.Tasks.{is_cancelled}
use Rattle.model_machine.specs.Extra as extra
use Rattle.model_machine.specs.Extra.{ExtraAnswer, made_by_all}
use Rattle.model_reach.specs.Part.{place_of}
use Rattle.model_sync.specs.Queues.{got_value}
use Rattle.model_sync.specs.Serving.{Acquire, Release, Wanted}
use Rattle.model_sync.specs.Synced.{Acquires, Lock, Synced, sync_part, waiting_at}
use Rattle.law_apart.specs.Apart.{StaysOrIsCancelled}
use Rattle.law_locks.specs.Queues.{is_number}
use Rattle.law_locks.specs.Tries.{Asks, GoesOn, Reply, Try, loop_of, said_of}

-- ---- its requests
abbrev pub is_truth : Value → Bool
is_truth (Truth truth) = truth
is_truth _ = false

abbrev pub is_nothing : Value → Bool
is_nothing Nothing = true
is_nothing _ = false

-- an answer that passes a test
abbrev pub answers_as : (Value → Bool) → ExtraAnswer → Bool
answers_as test (extra.Answers value) = test value
answers_as test (extra.Raises exception) = false
answers_as test (extra.Waits on key) = false
answers_as test (extra.Asks code bytes key) = false

abbrev pub acquired_by : (lock : ℕ) → Wanted → ExtraAnswer → Bool
acquired_by lock (Acquire id) answer = answers_as is_truth answer && is_number lock id
acquired_by lock _ answer = false

abbrev pub released_by : (lock : ℕ) → Wanted → ExtraAnswer → Bool
released_by lock (Release id) answer = answers_as is_nothing answer && is_number lock id
released_by lock _ answer = false

-- an acquire of this lock that answered True, and a release of it that answered None
abbrev pub has_acquired : (lock : ℕ) → Reply → Bool
has_acquired lock reply = acquired_by lock reply.wanted reply.answer

abbrev pub has_released : (lock : ℕ) → Reply → Bool
has_released lock reply = released_by lock reply.wanted reply.answer

-- ---- what users rely on
-- between two acquires of one lock that answered True stands a release of it that answered None
abbrev pub IsReleasedBetween : List Reply → Type 0
IsReleasedBetween replies =
    (lock : ℕ) (before between after : List Reply) (first second : Reply) → replies ≡ before ++ first ∷ (between ++ second ∷ after)
    → has_acquired lock first ≡ true → has_acquired lock second ≡ true → list_any (has_released lock) between ≡ true

-- acquires answer True in order of asking
abbrev pub AnswersInOrder : List Reply → Type 0
AnswersInOrder replies =
    (lock : ℕ) (before between after : List Reply) (first second : Reply) → replies ≡ before ++ first ∷ (between ++ second ∷ after)
    → has_acquired lock first ≡ true → has_acquired lock second ≡ true → first.number < second.number

-- No wakeup is lost: where a lock is unlocked and somebody waits, the first who does was woken, so its future is done.
abbrev pub IsWakeupKept : Parts → Synced → Type 0
IsWakeupKept p kept =
    (id waiter : ℕ) (others : List ℕ) (lock : Lock) → slice_get kept.locks id ≡ Some lock → lock.locked ≡ false → lock.waiters ≡ waiter ∷ others
    → is_some (future_outcome p waiter) ≡ true

pub record LocksKeep (replies : List Reply) (p : Parts) (kept : Synced) : Type 0 where
  pub released : IsReleasedBetween replies
  pub in_order : AnswersInOrder replies
  pub wakeups : IsWakeupKept p kept

-- ---- what that needs of the loop
-- Between two tries nobody settles the future of one who waits for a lock, but by a cancel.
pub record LeavesWaiters (kept : Synced) (p q : Parts) : Type 0 where
  pub made : next_future p ≤ next_future q
  pub waiters : (id : ℕ) (lock : Lock) → slice_get kept.locks id ≡ Some lock → Each (StaysOrIsCancelled p q) lock.waiters

-- A task that waited hears that its future has a value, or of a cancel.
abbrev pub HearsOf : Input → Option Outcome → Type 0
HearsOf (Send value) outcome = got_value outcome ≡ true
HearsOf (Throw exception) outcome = is_cancelled exception ≡ true

abbrev pub Hears : Try → Synced → Type 0
Hears (Asks code arguments l) kept = Unit {0}
Hears (GoesOn key input l) kept =
    (id on : ℕ) → waiting_at (place_of sync_part key) kept ≡ Some (Acquires id on) → HearsOf input (future_outcome l.parts on)

-- So it is from these parts on through all tries, up to those.
abbrev pub IsHeeded : Parts → Synced → List Try → Parts → Type 0
IsHeeded p kept [] q = LeavesWaiters kept p q
IsHeeded p kept (it ∷ tries) q =
    LeavesWaiters kept p (loop_of it).parts × Hears it kept
    × IsHeeded (made_by_all (said_of it kept).call.steps (loop_of it)).parts (said_of it kept).call.state tries q
