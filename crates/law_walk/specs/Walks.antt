-- What holds of every state of every run: what that says, and what it owes. It is told by the streams, the events and the
-- loop's parts, and goes on with each small thing that the machine does.
use Rattle.std.specs.Prelude.{◌≡◌, ◌⊎◌, ℕ, zero, suc, ℤ, Bool, true, false, List, [], ◌∷◌, ◌++◌, Option, length, nat_lt}
use Rattle.model_value.specs.declared.action.Action.TheVariants as action
use Rattle.model_value.specs.Action.{Action}
use Rattle.model_wire.specs.declared.call.Call.TheVariants as call
use Rattle.model_wire.specs.declared.event.Event.TheVariants as event
use Rattle.model_wire.specs.declared.event.Handed.{Handed}
use Rattle.model_wire.specs.Call.{Call, Answer}
use Rattle.model_wire.specs.Event.{Event}
use Rattle.model_wire.specs.Fits.{fits}
use Rattle.model_loop.specs.Loop.{Loop}
use Rattle.model_loop.specs.Parts.{Handle, Parts}
use Rattle.model_stream.specs.declared.answers.ChildWait.{ChildWait}
use Rattle.model_stream.specs.declared.answers.Wrote.{Wrote}
use Rattle.model_stream.specs.declared.put.Limited.{Limited}
use Rattle.model_stream.specs.Reading.{ReadOp}
use Rattle.model_stream.specs.Receivers.{AllGot, StreamGot}
use Rattle.model_stream.specs.Requests.{StreamReader, write, drain, limits, write_eof, close, drop_connect, read, read_all, give_up_read}
use Rattle.model_stream.specs.Requests.{wait, kill}
use Rattle.model_stream.specs.Senders.{Drain}
use Rattle.model_stream.specs.Streams.{Streams, act, listen, connect, launch, close_server}
use Rattle.model_machine.specs.Does.{changed}
use Rattle.model_machine.specs.Extra.{Extra}
use Rattle.model_machine.specs.Mids.{mids}
use Rattle.model_machine.specs.Outside.{select, watched}
use Rattle.model_machine.specs.Replies.{RequestReply, Answers, Raises, Suspends, Halts}
use Rattle.model_machine.specs.State.{State}
use Rattle.model_machine.specs.Turn.{turn, woken_by}
use Rattle.model_machine.specs.Went.{Went, Goes, Stops}
pub use Rattle.law_cases.specs.Trees.{is_aside}
use Rattle.law_changes.specs.Changes.{PartsChange, CallsSoon, CallsLater, Registers, LeavesPending, LoopChange, OfParts, made_of_parts}
use Rattle.law_reach.specs.Reaches.{IsUnmet}
use Rattle.law_stream.specs.Ways.{Move, Did, Heard, Always, told_by}

-- ---- what holds of a state, told by its streams, its events and the loop's parts
abbrev pub In : {S : Type 0} → (Streams → List Event → Parts → Type 0) → State S → Type 0
In Holds s = Holds s.streams s.events s.loop.parts

-- Where a call in the middle of something has no answer that fits, the run is over with that half done, and nothing is said.
-- What holds where the run ends may be less than what holds where it goes on.
abbrev pub LeavesTo : {S : Type 0} → (Tells Holds : Streams → List Event → Parts → Type 0) → Went S → Type 0
LeavesTo Tells Holds (Goes now) = In Holds now
LeavesTo Tells Holds (Stops how last) = IsUnmet how ⊎ In Tells last

abbrev pub WentLeaves : {S : Type 0} → (Streams → List Event → Parts → Type 0) → Went S → Type 0
WentLeaves Holds = LeavesTo Holds Holds

abbrev pub LeavesBy : {S : Type 0} → (Tells Holds : Streams → List Event → Parts → Type 0) → RequestReply S → Type 0
LeavesBy Tells Holds (Answers value now) = In Holds now
LeavesBy Tells Holds (Raises fault now) = In Holds now
LeavesBy Tells Holds (Suspends now) = In Holds now
LeavesBy Tells Holds (Halts how last) = IsUnmet how ⊎ In Tells last

abbrev pub AreAllIn : {S : Type 0} → (Streams → List Event → Parts → Type 0) → List (State S) → Type 0
AreAllIn Holds [] = Unit {0}
AreAllIn Holds (s ∷ states) = In Holds s × AreAllIn Holds states

-- what comes after a turn, if the run goes on
abbrev pub AfterTurn : {S : Type 0} → (Streams → List Event → Parts → Type 0) → (State S → Type 0) → Went S → Type 0
AfterTurn Holds goes_on (Goes now) = goes_on now
AfterTurn Holds goes_on (Stops how last) = IsUnmet how ⊎ In Holds last

-- Every state of so many turns: where each begins, between its callbacks, and where the run ends.
abbrev pub IsRunIn : {S : Type 0} → (Streams → List Event → Parts → Type 0) → (limit : ℕ) → Extra S → (turns : ℕ) → State S → Type 0
IsRunIn Holds limit added zero s = In Holds s
IsRunIn Holds limit added (suc turns) s =
    In Holds s × AreAllIn Holds (mids limit added s) × AfterTurn Holds (IsRunIn Holds limit added turns) (turn limit added s)

-- ---- what the loop does of itself
-- what it schedules, and what is added does: steps of tasks, ends of sleeps, and what is told of tasks, timeouts and main
abbrev pub is_of_loop : Action → Bool
is_of_loop (action.Step task) = true
is_of_loop (action.StepInCycle task cycle) = true
is_of_loop (action.Wakeup task) = true
is_of_loop (action.SleepDone task future) = true
is_of_loop (action.GroupDone group task) = true
is_of_loop (action.Fires timeout) = true
is_of_loop action.MainDone = true
is_of_loop (action.HandlerDone conn task) = true
is_of_loop (action.Extra key) = true
is_of_loop _ = false

-- a change of the parts by which it schedules that alone; a handle that is taken out is told of apart
abbrev pub MayOfParts : PartsChange → Parts → Type 0
MayOfParts (CallsSoon it) p = is_of_loop it ≡ true
MayOfParts (CallsLater when it) p = is_of_loop it ≡ true
MayOfParts (Registers future it) p = is_of_loop it ≡ true
MayOfParts (LeavesPending rest) p = ⊥
MayOfParts _ p = Unit {0}

abbrev pub MayOfLoop : LoopChange → Loop → Type 0
MayOfLoop (OfParts change) l = MayOfParts change l.parts
MayOfLoop _ l = Unit {0}

-- What relates parts to those that come after, step by step, and holds of each such change: so it holds of whatever the loop
-- does of itself.
pub record GoesOn (After : Parts → Parts → Type 0) : Type 0 where
  pub same : (p : Parts) → After p p
  pub next : (p q r : Parts) → After p q → After q r → After p r
  pub change : (change : PartsChange) (p : Parts) → MayOfParts change p → After p (made_of_parts change p)

-- ---- what happens beside: what a task says, and a call of a turn or of what is added, with its answer
pub data IsAside : List Event → Type 0 where
  says : (task : ℕ) (text : List ℕ) → IsAside (event.Said task text ∷ [])
  hears : (it : Call) (came : Answer) → is_aside it ≡ true → IsAside (event.Called it ∷ event.Got came ∷ [])

-- the parts after these moves
abbrev pub made_on : List Move → Parts → Parts
made_on [] p = p
made_on (Did change ∷ moves) p = made_on moves (changed change p)
made_on (Heard it came ∷ moves) p = made_on moves p

-- ---- trees
-- What does something to streams: a request, or whatever else goes on with all of them; a callback that does nothing else; and a
-- task's step in which a connection that is still being made is given up.
pub data Doer : Type 0 where
  Anyone : Doer
  Runs : (it : Action) → Doer
  GivesUp : (conn : ℕ) → Doer

-- a callback that does nothing but what `act` does to streams
abbrev pub acts_alone : Action → Bool
acts_alone (action.StartRead conn) = true
acts_alone (action.Lost conn broken) = true
acts_alone (action.HandlerDone conn task) = true
acts_alone (action.ReadableServer server) = true
acts_alone (action.Readable conn) = true
acts_alone (action.Writable conn) = true
acts_alone (action.Up conn) = true
acts_alone (action.Down conn) = true
acts_alone (action.WritableChild child) = true
acts_alone (action.ChildItem child told) = true
acts_alone (action.LostChild child broken) = true
acts_alone _ = false

-- a step of a task
abbrev pub is_step : Action → Bool
is_step (action.Step task) = true
is_step (action.StepInCycle task cycle) = true
is_step (action.Wakeup task) = true
is_step _ = false

-- events of which the last is that one began
pub record EndsInStep (events : List Event) : Type 0 where
  pub front : List Event
  pub it : Action
  pub ends : events ≡ front ++ event.Ran it ∷ []
  pub step : is_step it ≡ true

-- What holds of streams before and after, however what is done to them goes, by fitting answers: with each callback, with what
-- opens one, and with each request on what was opened. What is dropped is a connection that is still being made.
pub record AreTrees (Keeps : Doer → Streams → List Move → Streams → Type 0) : Type 0 where
  pub acts : (next : ℕ) (returned : Bool) (it : Action) (s : Streams) → Always (Keeps (Runs it) s) (act next returned it s)
  pub listens : (port handler : ℕ) (s : Streams)
      → Always {A = Streams × Option ℕ} (λ moves done. Keeps Anyone s moves done.0) (listen port handler s)
  pub closes_server : (id : ℕ) (s : Streams) → Always (Keeps Anyone s) (close_server id s)
  pub connects : (port next : ℕ) (s : Streams)
      → Always {A = Streams × Option (ℕ × ℕ)} (λ moves done. Keeps Anyone s moves done.0) (connect port next s)
  pub launches : (words : List (List ℕ)) (next : ℕ) (s : Streams)
      → Always {A = Streams × Option ℕ} (λ moves done. Keeps Anyone s moves done.0) (launch words next s)
  pub writes : (whom : Handed) (piece : List ℕ) (s : Streams)
      → Always {A = Streams × Wrote} (λ moves done. Keeps Anyone s moves done.0) (write whom piece s)
  pub ends : (id : ℕ) (s : Streams) → Always (Keeps Anyone s) (write_eof id s)
  pub drains : (yielded : Bool) (next : ℕ) (whom : Handed) (s : Streams)
      → Always {A = Streams × Drain} (λ moves done. Keeps Anyone s moves done.0) (drain yielded next whom s)
  pub limits_keep : (high low : Option ℤ) (whom : Handed) (s : Streams)
      → Always {A = Streams × Limited} (λ moves done. Keeps Anyone s moves done.0) (limits high low whom s)
  pub closes : (whom : Handed) (s : Streams) → Always (Keeps Anyone s) (close whom s)
  pub drops : (id : ℕ) (s : Streams) → Always (Keeps (GivesUp id) s) (drop_connect id s)
  pub reads : (next : ℕ) (op : ReadOp) (from : StreamReader) (s : Streams)
      → Always {A = Streams × StreamGot} (λ moves done. Keeps Anyone s moves done.0) (read next op from s)
  pub reads_all : (next : ℕ) (from : StreamReader) (s : Streams)
      → Always {A = Streams × AllGot} (λ moves done. Keeps Anyone s moves done.0) (read_all next from s)
  pub gives_up : (on : ℕ) (from : StreamReader) (s : Streams) → Keeps Anyone s [] (give_up_read on from s)
  pub waits : (next id : ℕ) (s : Streams)
      → Always {A = Streams × ChildWait} (λ moves done. Keeps Anyone s moves done.0) (wait next id s)
  pub kills : (id : ℕ) (s : Streams) → Always (Keeps Anyone s) (kill id s)

-- ---- what holds of streams, events and the loop's parts
-- It goes on with what happens beside, with what the loop does of itself and with trees; and it tells this, where the run ends.
pub record IsHere (After : Parts → Parts → Type 0) (Keeps : Doer → Streams → List Move → Streams → Type 0)
    (Tells Holds : Streams → List Event → Parts → Type 0) : Type 0 where
  pub tells : (s : Streams) (events : List Event) (p : Parts) → Holds s events p → Tells s events p
  pub beside : (s : Streams) (events more : List Event) (p : Parts) → IsAside more → Holds s events p → Holds s (events ++ more) p
  pub loops : (s : Streams) (events : List Event) (p q : Parts) → After p q → Holds s events p → Holds s events q
  pub tree : (s : Streams) (events : List Event) (p : Parts) (moves : List Move) (after : Streams) → Keeps Anyone s moves after
      → Holds s events p → Holds after (events ++ told_by moves) (made_on moves p)
  pub drops : (conn : ℕ) (s : Streams) (events : List Event) (p : Parts) (moves : List Move) (after : Streams) → EndsInStep events
      → Keeps (GivesUp conn) s moves after → Holds s events p → Holds after (events ++ told_by moves) (made_on moves p)

-- What holds within a turn goes by its bar, and by how many handles may run still; between turns by 0 and 0.
pub record Walks (After : Parts → Parts → Type 0) (Keeps : Doer → Streams → List Move → Streams → Type 0)
    (Tells : Streams → List Event → Parts → Type 0) (Holds : (bar left : ℕ) → Streams → List Event → Parts → Type 0) : Type 0 where
  pub goes_on : GoesOn After
  pub trees : AreTrees Keeps
  pub here : (bar left : ℕ) → IsHere After Keeps Tells (Holds bar left)
  -- the select of a turn is answered
  pub wakes : (s : Streams) (events : List Event) (p : Parts) (time : Option ℕ) (extra : Bool) (came : Answer)
      → fits (select time (watched s extra)) came ≡ true → Holds 0 0 s events p
      → Holds (woken_by came p).next_stamp (length (woken_by came p).pending) s
      (events ++ event.Called (select time (watched s extra)) ∷ event.Got came ∷ []) (woken_by came p)
  -- the first handle is taken out: a dead one, one that does more than to streams alone, and one that does that alone
  pub taken : (bar left : ℕ) (s : Streams) (events : List Event) (p : Parts) (handle : Handle) (rest : List Handle)
      → p.pending ≡ handle ∷ rest → handle.dead ≡ true → Holds bar (suc left) s events p
      → Holds bar left s events (record p { pending = rest })
  pub runs : (bar left : ℕ) (s : Streams) (events : List Event) (p : Parts) (handle : Handle) (rest : List Handle) (it : Action)
      → p.pending ≡ handle ∷ rest → handle.dead ≡ false → handle.action ≡ it → acts_alone it ≡ false
      → Holds bar (suc left) s events p → Holds bar left s (events ++ event.Ran it ∷ []) (record p { pending = rest })
  pub acts : (bar left : ℕ) (s : Streams) (events : List Event) (p : Parts) (handle : Handle) (rest : List Handle) (it : Action)
      (moves : List Move) (after : Streams) → p.pending ≡ handle ∷ rest → handle.dead ≡ false → handle.action ≡ it
      → Keeps (Runs it) s moves after → Holds bar (suc left) s events p
      → Holds bar left after ((events ++ event.Ran it ∷ []) ++ told_by moves) (made_on moves (record p { pending = rest }))
  -- no more handles run: none is pending, the first was appended behind the bar, and as many ran as may
  pub empty : (bar left : ℕ) (s : Streams) (events : List Event) (p : Parts) → p.pending ≡ [] → Holds bar (suc left) s events p
      → Holds 0 0 s events p
  pub stops : (bar left : ℕ) (s : Streams) (events : List Event) (p : Parts) (handle : Handle) (rest : List Handle)
      → p.pending ≡ handle ∷ rest → nat_lt handle.stamp bar ≡ false → Holds bar (suc left) s events p → Holds 0 0 s events p
  pub ends : (bar : ℕ) (s : Streams) (events : List Event) (p : Parts) → Holds bar 0 s events p → Holds 0 0 s events p

-- ---- what happened stays
-- the events begin with these
abbrev pub BeginWith : List Event → Streams → List Event → Parts → Type 0
BeginWith first s events p = (more : List Event) × (events ≡ first ++ more)
