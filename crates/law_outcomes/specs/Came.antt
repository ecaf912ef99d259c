-- What the futures of gathers, waits and shields have come to, and from what.
use Rattle.std.specs.Prelude.{◌≡◌, ℕ, true, false, Option, Some, None, slice_get}
use Rattle.std.specs.List.{AllByRecursion as Each}
use Rattle.model_value.specs.declared.outcome.Outcome.TheVariants.{Cancelled}
use Rattle.model_value.specs.Value.{Outcome}
use Rattle.model_loop.specs.Futures.{future_outcome}
use Rattle.model_loop.specs.Parts.{Parts}
use Rattle.model_reach.specs.Part.{key_at, place_of}
use Rattle.model_gather.specs.Gathered.{Drawn, FirstCompleted, FirstException, Gathered, Gathering, Gathers, Rings, Shields, Tells, Waiting, Waits, futures_of}
use Rattle.model_gather.specs.Gathered.{gather_part, resolved}
use Rattle.model_gather.specs.Gather.{is_value, items_of, result_of}
use Rattle.model_gather.specs.Wait.{is_failure}
use Rattle.law_runs.specs.Allowed.{IsAmong}
use Rattle.law_waiters.specs.Answers.{MayGoOn}
use Rattle.law_waiters.specs.Reached.{entry_under}
use Rattle.law_waiters.specs.Timed.{is_key}
use Rattle.law_members.specs.Handles.{coming}
use Rattle.law_members.specs.Members.{IsDone}

-- ---- a gather
-- this one is done, with a value where exceptions are raised
abbrev pub HasGoneOn : Parts → Gathering → ℕ → Type 0
HasGoneOn p it member = (outcome : Outcome) × ((future_outcome p member ≡ Some outcome) × MayGoOn outcome it)

pub data GatherCame (p : Parts) (it : Gathering) : Option Outcome → Type 0 where
  still_waits : GatherCame p it None
  -- exceptions are raised, and one that it gathers failed or was cancelled: so does the gather
  raises : (member : ℕ) (outcome : Outcome) → IsAmong it.awaited member → future_outcome p member ≡ Some outcome → it.as_items ≡ false
      → is_value outcome ≡ false → GatherCame p it (Some outcome)
  -- all are done, with values where exceptions are raised: what each argument came to, in order, unless that is too heavy or too deep
  answers : Each (HasGoneOn p it) it.awaited → GatherCame p it (Some (result_of (items_of p it.awaited)))
  -- a cancel was asked for
  is_cancelled : GatherCame p it (Some Cancelled)

-- ---- a wait
-- Why it went on; `entry` gives what each key was drawn for.
pub data WaitIsOver (entry : ℕ → Option Drawn) (p : Parts) (place : ℕ) (it : Waiting) : Type 0 where
  all_are_done : Each (IsDone p) (futures_of it.arguments) → WaitIsOver entry p place it
  one_is_done : (member : ℕ) → IsAmong (futures_of it.arguments) member → it.mode ≡ FirstCompleted → IsDone p member → WaitIsOver entry p place it
  one_has_failed : (member : ℕ) (outcome : Outcome) → IsAmong (futures_of it.arguments) member → it.mode ≡ FirstException
      → future_outcome p member ≡ Some outcome → is_failure outcome ≡ true → WaitIsOver entry p place it
  -- its timer's handle isn't to come any more
  time_is_over : (timer : ℕ) → entry timer ≡ Some (Rings place) → coming (is_key (key_at gather_part timer)) p ≡ 0
      → WaitIsOver entry p place it

pub data WaitCame (entry : ℕ → Option Drawn) (p : Parts) (place : ℕ) (it : Waiting) : Option Outcome → Type 0 where
  still_waits : WaitCame entry p place it None
  goes_on : WaitIsOver entry p place it → WaitCame entry p place it (Some resolved)
  is_cancelled : WaitCame entry p place it (Some Cancelled)

-- ---- a shield
pub data ShieldCame (p : Parts) (inner : ℕ) : Option Outcome → Type 0 where
  still_waits : ShieldCame p inner None
  passes : (outcome : Outcome) → future_outcome p inner ≡ Some outcome → ShieldCame p inner (Some outcome)
  is_cancelled : ShieldCame p inner (Some Cancelled)

-- ---- all of them
pub record FuturesCame (kept : Gathered) (p : Parts) : Type 0 where
  pub gathers : (key : ℕ) (it : Gathering) → entry_under kept key ≡ Some (Gathers it) → GatherCame p it (future_outcome p it.outer)
  pub waits : (key : ℕ) (it : Waiting) → entry_under kept key ≡ Some (Waits it)
      → WaitCame (slice_get kept.drawn) p (place_of gather_part key) it (future_outcome p it.on)
  -- the handle of what it shields has a key of its own
  pub shields : (key on : ℕ) → entry_under kept key ≡ Some (Shields on)
      → (handle inner : ℕ) → slice_get kept.drawn handle ≡ Some (Tells (place_of gather_part key) inner) → ShieldCame p inner (future_outcome p on)
  -- where none is left to count, all are done
  pub counted : (key : ℕ) (it : Gathering) → entry_under kept key ≡ Some (Gathers it) → it.left ≡ 0 → Each (IsDone p) it.awaited
  pub waited : (key : ℕ) (it : Waiting) → entry_under kept key ≡ Some (Waits it) → it.left ≡ 0 → Each (IsDone p) (futures_of it.arguments)
