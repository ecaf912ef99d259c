-- Small changes of the machine's state. Whatever the machine does is a row of them.
use Rattle.std.specs.Prelude.{◌≡◌, ℕ, ℤ, Bool, true, false, List, [], ◌∷◌, ◌++◌, Option, Some, None}
use Rattle.model_value.specs.Action.{Action}
use Rattle.model_value.specs.declared.action.Action.TheVariants as action
use Rattle.model_value.specs.Input.{Input}
use Rattle.model_value.specs.Value.{Value}
use Rattle.model_wire.specs.declared.event.Event.TheVariants as event
use Rattle.model_wire.specs.Call.{Answer, Call}
use Rattle.model_wire.specs.Journal.{Entry, Answered}
use Rattle.model_stream.specs.Streams.{Streams}
use Rattle.model_machine.specs.Extra.{AsksNothing, Extra, ExtraCall}
use Rattle.model_machine.specs.Sound.{IsClosed}
use Rattle.model_machine.specs.State.{ResumePoint, State, in_loop, noted, resumed, stands, with_coroutine, with_streams}
use Rattle.law_changes.specs.Changes.{LoopChange, MayInLoop, made_of_loop}
use Rattle.law_cases.specs.Trees.{is_aside, is_select}

pub data StateChange (S : Type 0) : Type 0 where
  OfLoop : (change : LoopChange) → StateChange S
  -- a task says something
  Says : (task : ℕ) (text : List ℕ) → StateChange S
  MakesCoroutine : (coroutine : ℕ) (arguments : List Value) → StateChange S
  SetsResumePoint : (resume_point : ResumePoint) (task : ℕ) → StateChange S
  Resumes : (fresh : Bool) (task : ℕ) (input : Input) → StateChange S
  -- a script's future, under its number among all
  NamesFuture : (future : ℕ) → StateChange S
  EndsMain : StateChange S
  ChangesExtra : (extra : S) → StateChange S
  ChangesStreams : (streams : Streams) → StateChange S
  -- a handle runs
  Runs : (it : Action) → StateChange S
  -- the outside is asked and answers, which leaves these answers
  Hears : (call : Call) (answer : Answer) (left : List Entry) → StateChange S
  -- the outside is asked and has no answer: the run ends
  Calls : (call : Call) → StateChange S

abbrev pub made : {S : Type 0} → StateChange S → State S → State S
made (OfLoop change) s = in_loop (made_of_loop change) s
made (Says task text) s = noted (event.Said task text) s
made (MakesCoroutine coroutine arguments) s = with_coroutine coroutine arguments s
made (SetsResumePoint resume_point task) s = stands resume_point task s
made (Resumes fresh task input) s = resumed fresh task input s
made (NamesFuture future) s = record s { futures = s.futures ++ future ∷ [] }
made EndsMain s = record s { main_done = true }
made (ChangesExtra extra) s = record s { extra = extra }
made (ChangesStreams streams) s = with_streams streams s
made (Runs it) s = noted (event.Ran it) s
made (Hears call answer left) s = noted (event.Got answer) (record (noted (event.Called call) s) { answers = left })
made (Calls call) s = noted (event.Called call) s

-- ---- what only happens where something is open or can be opened
abbrev pub IsOpen : {S : Type 0} → State S → Type 0
IsOpen s = IsClosed s → ⊥

-- The outside may be asked in the middle of a step: something is open or can be opened, or what is added asks.
abbrev pub MayAsk : {S : Type 0} → Extra S → State S → Type 0
MayAsk added s = IsClosed s → AsksNothing added → ⊥

-- A call that no connection and no child makes is one of what is added.
abbrev pub IsAskedAside : {S : Type 0} → Extra S → Call → Type 0
IsAskedAside added call = is_aside call ≡ true → AsksNothing added → ⊥

-- A call in the middle of a step, which is no select, and the answer that was next.
pub record IsHeard {S : Type 0} (added : Extra S) (call : Call) (answer : Answer) (left : List Entry) (s : State S) : Type 0 where
  pub may_ask : MayAsk added s
  pub other : is_select call ≡ false
  pub aside : IsAskedAside added call
  pub answered : s.answers ≡ Answered answer ∷ left

pub record IsUnheard {S : Type 0} (added : Extra S) (call : Call) (s : State S) : Type 0 where
  pub may_ask : MayAsk added s
  pub other : is_select call ≡ false
  pub aside : IsAskedAside added call

-- ---- calls of what is added
pub data ExtraCause : Type 0 where
  -- a task asks
  ByAsk : (task : ℕ) (code : ℤ) (arguments : List Value) → ExtraCause
  -- a task's request is woken
  ByWake : (task key : ℕ) (input : Input) → ExtraCause
  -- a handle of its own runs
  ByAct : (key : ℕ) → ExtraCause
  -- there are news of the outside
  ByItem : (code : ℤ) (bytes : List ℕ) → ExtraCause

abbrev pub call_by : {S : Type 0} → Extra S → ExtraCause → State S → ExtraCall S
call_by added (ByAsk task code arguments) s = (added.ask task code arguments s).call
call_by added (ByWake task key input) s = (added.wake key input s).call
call_by added (ByAct key) s = added.act key s
call_by added (ByItem code bytes) s = added.item code bytes s

-- requests are a task's in its own step, and handles and news run in no task's
abbrev pub IsCauseOf : (runner : Option ℕ) → ExtraCause → Type 0
IsCauseOf runner (ByAsk task code arguments) = runner ≡ Some task
IsCauseOf runner (ByWake task key input) = runner ≡ Some task
IsCauseOf runner (ByAct key) = runner ≡ None
IsCauseOf runner (ByItem code bytes) = runner ≡ None

-- what it keeps is changed by a call of it alone
pub record IsCaused {S : Type 0} (added : Extra S) (runner : Option ℕ) (extra : S) (s : State S) : Type 0 where
  pub cause : ExtraCause
  pub by : IsCauseOf runner cause
  pub is : extra ≡ (call_by added cause s).state

-- What may change while a request is answered: no coroutine is resumed then. A task speaks in its own step alone.
abbrev pub MayInAnswer : {S : Type 0} → Extra S → (runner : Option ℕ) → StateChange S → State S → Type 0
MayInAnswer added runner (OfLoop change) s = MayInLoop runner change s.loop
MayInAnswer added runner (Says task text) s = runner ≡ Some task
MayInAnswer added runner (SetsResumePoint resume_point task) s = runner ≡ Some task
MayInAnswer added runner (Resumes fresh task input) s = ⊥
MayInAnswer added runner EndsMain s = ⊥
MayInAnswer added runner (ChangesExtra extra) s = IsCaused added runner extra s
MayInAnswer added runner (ChangesStreams streams) s = IsOpen s
MayInAnswer added runner (Runs it) s = ⊥
MayInAnswer added runner (Hears call answer left) s = IsHeard added call answer left s
MayInAnswer added runner (Calls call) s = IsUnheard added call s
MayInAnswer added runner _ s = Unit {0}

-- whose step an action is
abbrev pub runner_of : Action → Option ℕ
runner_of (action.Step task) = Some task
runner_of (action.StepInCycle task cycle) = Some task
runner_of (action.Wakeup task) = Some task
runner_of _ = None

-- what may change in a callback
abbrev pub MayInCallback : {S : Type 0} → Extra S → (runner : Option ℕ) → StateChange S → State S → Type 0
MayInCallback added runner (Resumes fresh task input) s = runner ≡ Some task
MayInCallback added runner EndsMain s = Unit {0}
MayInCallback added runner (Runs it) s = runner_of it ≡ runner
MayInCallback added runner change s = MayInAnswer added runner change s

-- what may change in a turn, once its select was answered
abbrev pub MayInTurn : {S : Type 0} → Extra S → StateChange S → State S → Type 0
MayInTurn added (ChangesExtra extra) s = (runner : Option ℕ) × IsCaused added runner extra s
MayInTurn added (ChangesStreams streams) s = IsOpen s
MayInTurn added (Hears call answer left) s = IsHeard added call answer left s
MayInTurn added (Calls call) s = IsUnheard added call s
MayInTurn added _ s = Unit {0}

-- and in a run
abbrev pub MayInRun : {S : Type 0} → StateChange S → State S → Type 0
MayInRun (ChangesStreams streams) s = IsOpen s
MayInRun (Hears call answer left) s = s.answers ≡ Answered answer ∷ left
MayInRun _ s = Unit {0}
