-- What a run makes of what is added: its calls, one after another, with what it asked the outside in between and what it was
-- answered; and the events that are of it.
use Rattle.std.specs.Prelude.{◌≡◌, ◌⊎◌, ℕ, ℤ, Bool, true, false, cond, List, [], ◌∷◌, ◌++◌, Option, Some, None}
use Rattle.model_value.specs.declared.action.Action.TheVariants as action
use Rattle.model_value.specs.declared.request.Request.TheVariants as request
use Rattle.model_value.specs.Action.{Action}
use Rattle.model_value.specs.Input.{Input}
use Rattle.model_value.specs.Value.{Outcome, Value}
use Rattle.model_says.specs.Endings as says
use Rattle.model_wire.specs.declared.call.Call.TheVariants as call
use Rattle.model_wire.specs.declared.event.Event.TheVariants as event
use Rattle.model_wire.specs.Call.{Call, Answer}
use Rattle.model_wire.specs.Event.{Event}
use Rattle.model_wire.specs.Fits.{fits}
use Rattle.model_loop.specs.Futures.{future_outcome}
use Rattle.model_loop.specs.Ways.{steps}
use Rattle.model_machine.specs.Arguments.{as_int, as_list}
use Rattle.model_machine.specs.Extra as extra
use Rattle.model_machine.specs.Extra.{Extra, ExtraAnswer, ExtraSaid}
use Rattle.model_machine.specs.Outcomes.{input_of}
use Rattle.model_machine.specs.Replies.{input_by}
use Rattle.model_machine.specs.State.{State}
use Rattle.model_machine.specs.Step.{says_of}
use Rattle.law_changes.specs.Reaches.{Reaches}

-- ---- the events that are of what is added
-- its handles, and news for it
abbrev pub is_of_extra : Action → Bool
is_of_extra (action.Extra key) = true
is_of_extra (action.ExtraItem code bytes) = true
is_of_extra _ = false

abbrev pub is_extra_call : Call → Bool
is_extra_call (call.Extra code bytes) = true
is_extra_call _ = false

-- Its handles, its news, its calls and their answers, in order. `asks`: the event before was a call of it.
abbrev pub told_after : (asks : Bool) → List Event → List Event
told_after asks [] = []
told_after asks (event.Called it ∷ events) =
    cond (is_extra_call it) (event.Called it ∷ told_after true events) (told_after false events)
told_after asks (event.Got answer ∷ events) = cond asks (event.Got answer ∷ told_after false events) (told_after false events)
told_after asks (event.Ran it ∷ events) = cond (is_of_extra it) (event.Ran it ∷ told_after false events) (told_after false events)
told_after asks (event.Said task text ∷ events) = told_after false events

-- whether the last of them is a call of it, so that its answer comes next
abbrev pub asks_last : (asks : Bool) → List Event → Bool
asks_last asks [] = asks
asks_last asks (event.Called it ∷ events) = asks_last (is_extra_call it) events
asks_last asks (event.Got answer ∷ events) = asks_last false events
asks_last asks (event.Ran it ∷ events) = asks_last false events
asks_last asks (event.Said task text ∷ events) = asks_last false events

-- ---- what happens of it
-- what the outside was asked, for the request of a task under a key
pub record Question : Type 0 where
  pub task : ℕ
  pub key : ℕ
  pub code : ℤ
  pub bytes : List ℕ

-- what it keeps, what it asked the outside and wasn't answered yet, and what was told of it
pub record Told (S : Type 0) : Type 0 where
  pub extra : S
  pub asked : Option Question
  pub events : List Event

-- each in the state of the machine in which it is called
pub data Happening (S : Type 0) : Type 0 where
  -- a task asks, with this code and these arguments
  Asks : (task : ℕ) (code : ℤ) (arguments : List Value) (s : State S) → Happening S
  -- what the task of a request waited for is done
  Wakes : (task key : ℕ) (input : Input) (s : State S) → Happening S
  -- the outside answered what it was asked
  Hears : (question : Question) (answer : Answer) (s : State S) → Happening S
  -- a handle of its own runs
  Acts : (key : ℕ) (s : State S) → Happening S
  -- there are news of the outside
  HasNews : (code : ℤ) (bytes : List ℕ) (s : State S) → Happening S

abbrev pub question_by : (task : ℕ) → ExtraAnswer → Option Question
question_by task (extra.Answers value) = None
question_by task (extra.Raises exception) = None
question_by task (extra.Waits on key) = None
question_by task (extra.Asks code bytes key) = Some (record { task = task; key = key; code = code; bytes = bytes })

abbrev pub called_by : ExtraAnswer → List Event
called_by (extra.Answers value) = []
called_by (extra.Raises exception) = []
called_by (extra.Waits on key) = []
called_by (extra.Asks code bytes key) = event.Called (call.Extra code bytes) ∷ []

-- after a request was served so
abbrev pub said_by : {S : Type 0} → (task : ℕ) → ExtraSaid S → List Event → Told S
said_by task said events =
    record { extra = said.call.state; asked = question_by task said.answer; events = events ++ called_by said.answer }

abbrev pub happens : {S : Type 0} → Extra S → Happening S → Told S → Told S
happens added (Asks task code arguments s) told = said_by task (added.ask task code arguments s) told.events
happens added (Wakes task key input s) told = said_by task (added.wake key input s) told.events
happens added (Hears question answer s) told =
    said_by question.task (added.wake question.key (input_by answer) s) (told.events ++ event.Got answer ∷ [])
happens added (Acts key s) told =
    record { extra = (added.act key s).state; asked = None; events = told.events ++ event.Ran (action.Extra key) ∷ [] }
happens added (HasNews code bytes s) told =
    record {
      extra = (added.item code bytes s).state;
      asked = None;
      events = told.events ++ event.Ran (action.ExtraItem code bytes) ∷ [];
    }

-- a task's coroutine says this request, with a number and a list
pub record IsAskedBy {S : Type 0} (limit : ℕ) (added : Extra S) (task : ℕ) (code : ℤ) (arguments : List Value) (s : State S) : Type 0 where
  pub number : Value
  pub list : Value
  pub says : says_of limit added task s ≡ says.Asks (request.Extra number list)
  pub is_code : as_int number ≡ Some code
  pub are_arguments : as_list list ≡ Some arguments

-- A task's step began: the last event is that of it.
pub record HasBegun (task : ℕ) (events : List Event) : Type 0 where
  pub before : List Event
  pub it : Action
  pub ends : events ≡ before ++ event.Ran it ∷ []
  pub steps : steps task it ≡ true

-- The wait of a request is over: its task's step began with what it came to, or what it would wait for is done.
pub record IsDone {S : Type 0} (input : Input) (s : State S) : Type 0 where
  pub on : ℕ
  pub outcome : Outcome
  pub ended : future_outcome s.loop.parts on ≡ Some outcome
  pub heard : input ≡ input_of outcome

abbrev pub IsWoken : {S : Type 0} → (task : ℕ) → Input → State S → Type 0
IsWoken task input s = HasBegun task s.events ⊎ IsDone input s

-- Each call finds what the call before left. Where the outside was asked nothing else happens than that it answers, and what fits.
abbrev pub MayHappen : {S : Type 0} → (limit : ℕ) → Extra S → Happening S → Told S → Type 0
MayHappen limit added (Asks task code arguments s) told =
    (s.extra ≡ told.extra) × (told.asked ≡ None) × IsAskedBy limit added task code arguments s
MayHappen limit added (Wakes task key input s) told = (s.extra ≡ told.extra) × (told.asked ≡ None) × IsWoken task input s
MayHappen limit added (Hears question answer s) told =
    (s.extra ≡ told.extra) × (told.asked ≡ Some question) × (fits (call.Extra question.code question.bytes) answer ≡ true)
MayHappen limit added (Acts key s) told = (s.extra ≡ told.extra) × (told.asked ≡ None)
MayHappen limit added (HasNews code bytes s) told = (s.extra ≡ told.extra) × (told.asked ≡ None)

-- one after another
abbrev pub IsHistory : {S : Type 0} → (limit : ℕ) → Extra S → Told S → Told S → Type 0
IsHistory limit added = Reaches (happens added) (MayHappen limit added)

-- nothing has happened so far
abbrev pub first_told : {S : Type 0} → S → Told S
first_told state = record { extra = state; asked = None; events = [] }

-- What it keeps came by its calls, in order, from these on; and what they told are the events that are of it.
pub record HasHappened {S : Type 0} (limit : ℕ) (added : Extra S) (first : Told S) (kept : S) (events : List Event) : Type 0 where
  pub last : Told S
  pub history : IsHistory limit added first last
  pub keeps : last.extra ≡ kept
  pub asked : last.asked ≡ None
  pub told : last.events ≡ told_after false events
  pub whole : asks_last false events ≡ false

-- and so after a call, whose answer isn't served yet
pub record HasCalled {S : Type 0} (limit : ℕ) (added : Extra S) (first : Told S) (task : ℕ) (answer : ExtraAnswer) (kept : S)
    (events : List Event) : Type 0 where
  pub last : Told S
  pub history : IsHistory limit added first last
  pub keeps : last.extra ≡ kept
  pub asked : last.asked ≡ question_by task answer
  pub told : last.events ≡ told_after false events ++ called_by answer
  pub whole : asks_last false events ≡ false
