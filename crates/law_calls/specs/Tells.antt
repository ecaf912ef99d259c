-- What goes on with each call of what is added holds of every state of every run: what that says, and what it owes. It is told by
-- what is kept and by the events.
use Rattle.std.specs.Prelude.{◌≡◌, ◌⊎◌, ℕ, zero, suc, ℤ, true, false, List, [], ◌∷◌, ◌++◌}
use Rattle.model_value.specs.declared.action.Action.TheVariants as action
use Rattle.model_value.specs.Input.{Input}
use Rattle.model_value.specs.Value.{Value}
use Rattle.model_wire.specs.declared.call.Call.TheVariants as call
use Rattle.model_wire.specs.declared.event.Event.TheVariants as event
use Rattle.model_wire.specs.Call.{Answer}
use Rattle.model_wire.specs.Event.{Event}
use Rattle.model_wire.specs.Fits.{fits}
use Rattle.model_wire.specs.Trace.{End}
use Rattle.model_machine.specs.Extra as extra
use Rattle.model_machine.specs.Extra.{Extra, ExtraAnswer, asks_outside}
use Rattle.model_machine.specs.Mids.{mids}
use Rattle.model_machine.specs.Replies.{RequestReply, Answers, Raises, Suspends, Halts, input_by}
use Rattle.model_machine.specs.State.{State}
use Rattle.model_machine.specs.Turn.{turn}
use Rattle.model_machine.specs.Went.{Went, Goes, Stops}
use Rattle.law_reach.specs.Reaches.{IsRunaway, IsUnmet}
use Rattle.law_calls.specs.Told.{IsAskedBy, IsWoken, asks_last, told_after}

abbrev pub In : {S : Type 0} → (S → List Event → Type 0) → State S → Type 0
In Holds s = Holds s.extra s.events

-- Where a call has no answer that fits, or a task runs away, the run is over in the middle of something, and nothing is said.
abbrev pub IsCut : End → Type 0
IsCut how = IsUnmet how ⊎ IsRunaway how

abbrev pub LeavesTo : {S : Type 0} → (S → List Event → Type 0) → Went S → Type 0
LeavesTo Holds (Goes now) = In Holds now
LeavesTo Holds (Stops how last) = IsCut how ⊎ In Holds last

abbrev pub LeavesBy : {S : Type 0} → (S → List Event → Type 0) → RequestReply S → Type 0
LeavesBy Holds (Answers value now) = In Holds now
LeavesBy Holds (Raises fault now) = In Holds now
LeavesBy Holds (Suspends now) = In Holds now
LeavesBy Holds (Halts how last) = IsCut how ⊎ In Holds last

abbrev pub AreAllIn : {S : Type 0} → (S → List Event → Type 0) → List (State S) → Type 0
AreAllIn Holds [] = Unit {0}
AreAllIn Holds (s ∷ states) = In Holds s × AreAllIn Holds states

abbrev pub AfterTurn : {S : Type 0} → (S → List Event → Type 0) → (State S → Type 0) → Went S → Type 0
AfterTurn Holds goes_on (Goes now) = goes_on now
AfterTurn Holds goes_on (Stops how last) = IsCut how ⊎ In Holds last

-- Every state of so many turns: where each begins, between its callbacks, and where the run ends.
abbrev pub IsRunIn : {S : Type 0} → (S → List Event → Type 0) → (limit : ℕ) → Extra S → (turns : ℕ) → State S → Type 0
IsRunIn Holds limit added zero s = In Holds s
IsRunIn Holds limit added (suc turns) s =
    In Holds s × AreAllIn Holds (mids limit added s) × AfterTurn Holds (IsRunIn Holds limit added turns) (turn limit added s)

-- ---- what it owes
-- none of these is of what is added, and no answer for it comes next
abbrev pub IsUntold : List Event → Type 0
IsUntold more = (told_after false more ≡ []) × (asks_last false more ≡ false)

-- `Holds` between calls, and `Called` after a call whose answer isn't served yet. It goes on with all that isn't of what is added, and
-- with each of its calls.
pub record Tells {S : Type 0} (limit : ℕ) (added : Extra S) (Holds : S → List Event → Type 0)
    (Called : (task : ℕ) → ExtraAnswer → S → List Event → Type 0) : Type 0 where
  pub beside : (kept : S) (events more : List Event) → IsUntold more → Holds kept events → Holds kept (events ++ more)
  pub asks : (task : ℕ) (code : ℤ) (arguments : List Value) (s : State S) → IsAskedBy limit added task code arguments s → In Holds s
      → Called task (added.ask task code arguments s).answer (added.ask task code arguments s).call.state s.events
  pub wakes : (task key : ℕ) (input : Input) (s : State S) → IsWoken task input s → In Holds s
      → Called task (added.wake key input s).answer (added.wake key input s).call.state s.events
  pub hears : (task key : ℕ) (code : ℤ) (bytes : List ℕ) (answer : Answer) (s : State S) (before : List Event)
      → fits (call.Extra code bytes) answer ≡ true
      → s.events ≡ before ++ event.Called (call.Extra code bytes) ∷ event.Got answer ∷ []
      → Called task (extra.Asks code bytes key) s.extra before
      → Called task (added.wake key (input_by answer) s).answer (added.wake key (input_by answer) s).call.state s.events
  pub over : (task : ℕ) (answer : ExtraAnswer) (kept : S) (events : List Event) → asks_outside answer ≡ false
      → Called task answer kept events → Holds kept events
  pub acts : (key : ℕ) (s : State S) (before : List Event) → s.events ≡ before ++ event.Ran (action.Extra key) ∷ []
      → Holds s.extra before → Holds (added.act key s).state s.events
  pub news : (code : ℤ) (bytes : List ℕ) (s : State S) (before : List Event)
      → s.events ≡ before ++ event.Ran (action.ExtraItem code bytes) ∷ [] → Holds s.extra before
      → Holds (added.item code bytes s).state s.events
