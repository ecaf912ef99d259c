-- What a wait_for asks of its task: its cancel once, where its time was over before its task went on; and it takes that back once,
-- where its task went on after that.
use Rattle.std.specs.Prelude.{◌≡◌, ◌==◌, ℕ, ℤ, Bool, true, false, List, Option, Some, slice_get}
use Rattle.std.specs.List.{AllByRecursion as Each, count_by}
use Rattle.model_value.specs.Action.{Action}
use Rattle.model_value.specs.declared.action.Action.TheVariants as action
use Rattle.model_value.specs.Input.{Input}
use Rattle.model_value.specs.Value.{Value}
use Rattle.model_loop.specs.Balance.{asks, takes}
use Rattle.model_loop.specs.Ledger.{Origin, ByExtra, LedgerEntry}
use Rattle.model_loop.specs.Ways.{one_if}
use Rattle.model_reach.specs.Part.{key_at}
use Rattle.model_machine.specs.Extra as extra
use Rattle.model_machine.specs.Extra.{Cancels, CallsLater, CallsSoon, Extra, ExtraAnswer, ExtraStep, Registers, Uncancels}
use Rattle.model_machine.specs.State.{State}
use Rattle.model_reach.specs.Reach.{Part, part_of_key}
use Rattle.model_gather.specs.Gathered.{Drawn, Expired, Expiring, Finished, Gathered, Timed, TimedState, WaitsFor, gather_part}

abbrev pub is_by_key : ℕ → Origin → Bool
is_by_key key (ByExtra other) = other == key
is_by_key key _ = false

-- a handle of what is added, by its key
abbrev pub is_key : ℕ → Action → Bool
is_key key (action.Extra other) = other == key
is_key key _ = false

-- its time was over before its task went on, whether that has gone on since or not
abbrev pub was_expiring : TimedState → Bool
was_expiring Timed = false
was_expiring Expiring = true
was_expiring Expired = true
was_expiring Finished = false

abbrev pub went_on_after : TimedState → Bool
went_on_after Timed = false
went_on_after Expiring = false
went_on_after Expired = true
went_on_after Finished = false

-- how often what stands at a place asked, and took back
abbrev pub asked_of : Option Drawn → ℕ
asked_of (Some (WaitsFor it)) = one_if (was_expiring it.state)
asked_of _ = 0

abbrev pub took_of : Option Drawn → ℕ
took_of (Some (WaitsFor it)) = one_if (went_on_after it.state)
took_of _ = 0

-- In the name of each key that was drawn: no other request asks for a cancel.
pub record AsksOnce (kept : Gathered) (ledger : List LedgerEntry) : Type 0 where
  pub asked : (place : ℕ)
      → count_by (asks (is_by_key (key_at gather_part place))) ledger ≡ asked_of (slice_get kept.drawn place)
  pub took : (place : ℕ)
      → count_by (takes (is_by_key (key_at gather_part place))) ledger ≡ took_of (slice_get kept.drawn place)

-- ---- beside other parts, each of which keeps to its own keys
abbrev pub IsStepOf : Part → ExtraStep → Type 0
IsStepOf part (Registers future key) = part_of_key key ≡ part
IsStepOf part (CallsSoon key) = part_of_key key ≡ part
IsStepOf part (CallsLater when key) = part_of_key key ≡ part
IsStepOf part (Cancels key future) = part_of_key key ≡ part
IsStepOf part (Uncancels key task) = part_of_key key ≡ part
IsStepOf part _ = Unit {0}

abbrev pub WaitsAsPart : Part → ExtraAnswer → Type 0
WaitsAsPart part (extra.Waits on key) = part_of_key key ≡ part
WaitsAsPart part (extra.Asks code bytes key) = part_of_key key ≡ part
WaitsAsPart part _ = Unit {0}

-- its handles, its requests and what it asks of tasks stand under keys of this part
pub record KeepsToKeys {P : Type 0} (part : Part) (added : Extra P) : Type 0 where
  pub ask : (task : ℕ) (code : ℤ) (arguments : List Value) (s : State P)
      → Each (IsStepOf part) (added.ask task code arguments s).call.steps × WaitsAsPart part (added.ask task code arguments s).answer
  pub wake : (key : ℕ) (input : Input) (s : State P) → part_of_key key ≡ part
      → Each (IsStepOf part) (added.wake key input s).call.steps × WaitsAsPart part (added.wake key input s).answer
  pub act : (key : ℕ) (s : State P) → part_of_key key ≡ part → Each (IsStepOf part) (added.act key s).steps
  pub item : (code : ℤ) (bytes : List ℕ) (s : State P) → Each (IsStepOf part) (added.item code bytes s).steps
