-- What goes on with each call of what is added, and with all else that the machine does, holds of every state of every run: what it
-- owes. It is told by what is kept, by the loop, and by the requests of what is added at which tasks stand.
use Rattle.std.specs.Prelude.{◌≡◌, ◌⊎◌, ℕ, ℤ, Bool, true, false, List, ◌∷◌, Some}
use Rattle.model_value.specs.declared.action.Action.TheVariants as action
use Rattle.model_value.specs.declared.request.Request.TheVariants as request
use Rattle.model_value.specs.Input.{Input}
use Rattle.model_value.specs.Request.{Request}
use Rattle.model_value.specs.Value.{Outcome, Value}
use Rattle.model_wire.specs.declared.event.Event.TheVariants as event
use Rattle.model_loop.specs.Ledger.{Origin, ByExtra}
use Rattle.model_loop.specs.Loop.{Loop}
use Rattle.model_loop.specs.Parts.{Handle, Parts}
use Rattle.model_machine.specs.Extra as extra
use Rattle.model_machine.specs.Extra.{Extra, ExtraAnswer, called}
use Rattle.model_machine.specs.Replies.{ended}
use Rattle.model_machine.specs.Sound.{StandsUnder, is_extra}
use Rattle.model_machine.specs.State.{ResumePoint, Serving, State, noted, unbooked_in}
use Rattle.law_changes.specs.Changes.{PartsChange, CallsSoon, CallsLater, Registers, LeavesPending, LoopChange, OfParts, AsksCancel, TakesBack, made_of_loop}
use Rattle.law_changes.specs.Reaches.{Reaches}

-- ---- all else
abbrev pub is_extra_request : Request → Bool
is_extra_request (request.Extra code arguments) = true
is_extra_request _ = false

abbrev pub serves_none : ResumePoint → Bool
serves_none (Serving key) = false
serves_none _ = true

abbrev pub is_by_extra : Origin → Bool
is_by_extra (ByExtra key) = true
is_by_extra _ = false

-- no handle of what is added is made; the first one is taken out
abbrev pub MayBeside : PartsChange → Parts → Type 0
MayBeside (CallsSoon it) p = is_extra it ≡ false
MayBeside (CallsLater when it) p = is_extra it ≡ false
MayBeside (Registers future it) p = is_extra it ≡ false
MayBeside (LeavesPending rest) p = (handle : Handle) × (p.pending ≡ handle ∷ rest)
MayBeside _ p = Unit {0}

-- nor asks what is added for a cancel, or takes one back
abbrev pub MayInLoop : LoopChange → Loop → Type 0
MayInLoop (OfParts change) l = MayBeside change l.parts
MayInLoop (AsksCancel by future) l = is_by_extra by ≡ false
MayInLoop (TakesBack by task) l = is_by_extra by ≡ false
MayInLoop _ l = Unit {0}

-- What is kept stays, the loop goes on by such changes, and no task comes to stand at a request of what is added.
pub record Beside {S : Type 0} (s t : State S) : Type 0 where
  pub kept : t.extra ≡ s.extra
  pub loop : Reaches made_of_loop MayInLoop s.loop t.loop
  pub stands : (task key : ℕ) → StandsUnder t.generators task key → StandsUnder s.generators task key

-- the same, but that this task comes to stand at the request under this key
pub record StoodAt {S : Type 0} (task key : ℕ) (s t : State S) : Type 0 where
  pub kept : t.extra ≡ s.extra
  pub loop : Reaches made_of_loop MayInLoop s.loop t.loop
  pub stands : (other stood : ℕ) → StandsUnder t.generators other stood
      → StandsUnder s.generators other stood ⊎ ((other ≡ task) × (stood ≡ key))

-- a handle of what is added was first, and runs
abbrev pub runs : {S : Type 0} → (key : ℕ) → List Handle → State S → State S
runs key rest s = noted (event.Ran (action.Extra key)) (unbooked_in (λ p. record p { pending = rest }) s)

-- ---- what it owes
-- `Holds` between calls, `Called` after a call that was answered so, and `Woken` where the request under this key, of this task, is
-- woken next.
pub record Walks {S : Type 0} (added : Extra S) (Holds : State S → Type 0) (Called : (task : ℕ) → ExtraAnswer → State S → Type 0)
    (Woken : (task key : ℕ) → State S → Type 0) : Type 0 where
  pub beside : (s t : State S) → Beside s t → Holds s → Holds t
  -- a task asks
  pub asks : (task : ℕ) (code : ℤ) (arguments : List Value) (s : State S) → Holds s
      → Called task (added.ask task code arguments s).answer (called (added.ask task code arguments s).call s)
  -- its task stood at the request, and at none any more
  pub stood : (task key : ℕ) (s t : State S) → StandsUnder s.generators task key → Beside s t
      → ((other : ℕ) → StandsUnder t.generators task other → ⊥) → Holds s → Woken task key t
  -- what it would wait for is done
  pub done : (task on key : ℕ) (outcome : Outcome) (s : State S) → ended s on ≡ Some outcome → Called task (extra.Waits on key) s
      → Woken task key s
  -- the outside answered
  pub hears : (task key : ℕ) (code : ℤ) (bytes : List ℕ) (s t : State S) → Beside s t → Called task (extra.Asks code bytes key) s
      → Woken task key t
  pub wakes : (task key : ℕ) (input : Input) (s : State S) → Woken task key s
      → Called task (added.wake key input s).answer (called (added.wake key input s).call s)
  pub woken : (task key : ℕ) (s : State S) → Woken task key s → Holds s
  pub over : (task : ℕ) (answer : ExtraAnswer) (s : State S) → Called task answer s → Holds s
  pub waits : (task on key : ℕ) (s t : State S) → StoodAt task key s t → Called task (extra.Waits on key) s → Holds t
  pub acts : (key : ℕ) (handle : Handle) (rest : List Handle) (s : State S) → s.loop.parts.pending ≡ handle ∷ rest
      → handle.dead ≡ false → handle.action ≡ action.Extra key → Holds s
      → Holds (called (added.act key (runs key rest s)) (runs key rest s))
  pub news : (code : ℤ) (bytes : List ℕ) (s : State S) → Holds s → Holds (called (added.item code bytes s) s)
