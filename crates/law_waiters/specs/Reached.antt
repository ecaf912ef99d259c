-- What a cancel request does at a task that waits in a gather, in a wait or in a shield.
use Rattle.std.specs.Prelude.{◌≡◌, ◌≤◌, ℕ, true, false, List, [], ◌∷◌, ◌++◌, Option, Some, None, cond, length, slice_get}
use Rattle.model_value.specs.declared.outcome.Outcome.TheVariants.{Cancelled}
use Rattle.model_loop.specs.Cancel.{CancelRequest, answers, cancel_with, has_seen, keep_asked, or_must_cancel}
use Rattle.model_loop.specs.Cancelling.{CancelsEach, IsPendingAs}
use Rattle.model_loop.specs.Futures.{is_pending, made_before, settle}
use Rattle.model_loop.specs.Numbered.{IsNumbered, occurrences}
use Rattle.model_loop.specs.Parts.{OfTask, Parts}
use Rattle.model_loop.specs.Tasks.{future_of, raise_count, waiter_of}
use Rattle.model_reach.specs.Part.{place_of, was_drawn}
use Rattle.model_reach.specs.Reach.{Parted}
use Rattle.model_gather.specs.Gathered.{Drawn, Gathered, Gathering, Gathers, Shields, Waiting, Waits, distinct, gather_part, none_gathered}

-- what is kept under a key
abbrev pub entry_under : Gathered → (key : ℕ) → Option Drawn
entry_under kept key =
    cond (was_drawn gather_part (length kept.drawn) key) (slice_get kept.drawn (place_of gather_part key)) None

-- A request that has visited the tasks `seen`, of which this is none, comes to a task that lives and waits for this pending future.
pub record ComesFirst (p : Parts) (task on : ℕ) (seen : List ℕ) : Type 0 where
  pub lives : IsPendingAs p (future_of p task) (OfTask task)
  pub unseen : has_seen seen task ≡ false
  pub waits : waiter_of p task ≡ Some on
  pub pending : is_pending p on ≡ true

-- The task counts it. From there it goes to each of these futures, once, in order, by what a request does at a future, and so does
-- nothing at one that is done. Where one of them answered true, the gather keeps that it was asked; where none did, the cancel waits
-- for the task's next step.
pub record GoesToEach (members : List ℕ) (outer task : ℕ) (seen : List ℕ) (p : Parts) : Type 0 where
  pub each : CancelRequest
  pub goes : CancelsEach members (seen ++ task ∷ []) (raise_count task p) each
  pub once : (id : ℕ) → occurrences id members ≤ 1
  pub is : cancel_with (future_of p task) seen p ≡ or_must_cancel task (keep_asked outer each)

-- The task counts it, and the future of its own for which it waits is cancelled. No other future changes, and no other task is visited.
pub record GoesNoFurther (on task : ℕ) (seen : List ℕ) (p : Parts) : Type 0 where
  pub is : cancel_with (future_of p task) seen p ≡ answers true (seen ++ task ∷ []) (settle on Cancelled (raise_count task p))
  pub others : (other : ℕ) → (on ≡ other → ⊥)
      → slice_get (cancel_with (future_of p task) seen p).parts.futures other ≡ slice_get p.futures other

-- From a task that waits in a gather it goes to each member; from one that waits in a wait or a shield to none.
pub record CancelsGoOn (kept : Gathered) (p : Parts) : Type 0 where
  pub gathers : (key : ℕ) (it : Gathering) → entry_under kept key ≡ Some (Gathers it)
      → (task : ℕ) (seen : List ℕ) → ComesFirst p task it.outer seen
      → GoesToEach (made_before it.outer (distinct it.awaited)) it.outer task seen p
  -- where futures are numbered in order of making, as in every sound state, these are all of its members
  pub members : (key : ℕ) (it : Gathering) → entry_under kept key ≡ Some (Gathers it) → IsNumbered p
      → made_before it.outer (distinct it.awaited) ≡ distinct it.awaited
  pub waits : (key : ℕ) (it : Waiting) → entry_under kept key ≡ Some (Waits it)
      → (task : ℕ) (seen : List ℕ) → ComesFirst p task it.on seen → GoesNoFurther it.on task seen p
  pub shields : (key on : ℕ) → entry_under kept key ≡ Some (Shields on)
      → (task : ℕ) (seen : List ℕ) → ComesFirst p task on seen → GoesNoFurther on task seen p

-- ---- beside other parts
-- nothing was asked of it; the other parts begin so
abbrev pub first_parted : {B C D : Type 0} → (sync : B) (exec : C) (dgram : D) → Parted Gathered B C D
first_parted sync exec dgram = record { gather = none_gathered; sync = sync; exec = exec; dgram = dgram }
