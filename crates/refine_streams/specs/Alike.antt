-- Trees that go the same way, and what a call of streams tells where memory is refused in it: events are only added.
use Rattle.std.specs.Prelude.{◌≡◌, List}
use Rattle.model_wire.specs.Call.{Answer}
use Rattle.model_wire.specs.Event.{Event}
use Rattle.model_wire.specs.Trace.{End}
use Rattle.model_stream.specs.Doing.{Doing, Ends, Changes, Asks}
use Rattle.model_stream.specs.Streams.{Streams, Written}
use Rattle.model_machine.specs.State.{State}
use Rattle.aio_extra.specs.Added.{Added}
use Rattle.aio_body.specs.Asking.{EventsGrow, Piece}

-- They make the same changes and ask the same, in the same order, whatever is answered. What they end with may differ.
abbrev pub AreAlike : {A : Type 0} → Doing A → Doing A → Type 0
AreAlike (Ends first) (Ends second) = Unit {0}
AreAlike (Changes change rest) (Changes other left) = (change ≡ other) × AreAlike rest left
AreAlike (Asks call rest) (Asks other left) = (call ≡ other) × ((answer : Answer) → AreAlike (rest answer) (left answer))
AreAlike _ _ = ⊥

-- What was written so far decides nothing: streams keep it for what is told of them alone.
abbrev pub ForgetsWritten : {A : Type 0} → (Streams → Doing A) → Type 0
ForgetsWritten tree = (s : Streams) (written : List Written) → AreAlike (tree s) (tree (record s { written = written }))

-- A piece leaves a state, and begins with what the events of that one begin with. The end of a run leaves its last state.
pub record LeavesState {X At M R : Type 0} {a : Added X} (p : Piece a At M R) : Type 0 where
  pub left : M → State a.Kept
  pub halts : (end : End) (last : State a.Kept) → left (p.ends end last) ≡ last
  pub begins : (events : List Event) (it : M) → EventsGrow events (left it).events → p.begins events it

-- what comes next only adds events
abbrev pub AddsEvents : {S M : Type 0} → (M → State S) → (State S → M) → Type 0
AddsEvents {S} left next = (t : State S) → EventsGrow t.events (left (next t)).events
