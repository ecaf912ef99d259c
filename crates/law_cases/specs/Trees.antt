-- What a tree of streams does to the loop: the handles that it appends are of streams, it asks nothing that a turn or what is
-- added asks, the futures that it settles are its own, with no value of a script's but a connection that is there, and those that
-- are kept then were its own or made in it, each as often as before, or once.
use Rattle.std.specs.Prelude.{◌≡◌, ◌⊎◌, ℕ, ◌+◌, ◌≤◌, ◌<◌, Bool, true, false, ◌&&◌, Option, Some, None, length, nat_le, nat_lt, if◌then◌else◌}
use Rattle.model_value.specs.declared.action.Action.TheVariants as action
use Rattle.model_value.specs.declared.outcome.Outcome.TheVariants.{Value as Returned, Failed}
use Rattle.model_value.specs.Action.{Action}
use Rattle.model_value.specs.Value.{Nothing, Int, Conn, Outcome}
use Rattle.model_wire.specs.declared.call.Call.TheVariants as call
use Rattle.model_wire.specs.Call.{Call, Answer}
use Rattle.model_stream.specs.declared.answers.ChildWait.{ChildWait}
use Rattle.model_stream.specs.declared.answers.ChildWait.TheVariants as wait_as
use Rattle.model_stream.specs.declared.answers.Drain.TheVariants as drain_as
use Rattle.model_stream.specs.declared.answers.StreamGot.TheVariants as got_as
use Rattle.model_stream.specs.Doing.{Doing, Ends, Changes, Asks, MakeFuture, CallSoon, Settle}
use Rattle.model_stream.specs.Receivers.{StreamGot, AllGot}
use Rattle.model_stream.specs.Senders.{Drain}
use Rattle.model_stream.specs.Streams.{Streams}
use Rattle.model_stream.specs.Kept.{StreamsKeep, times_asked, times_kept}

-- a callback of a listener, a connection or a child
abbrev pub is_of_streams : Action → Bool
is_of_streams (action.Made conn) = true
is_of_streams (action.StartRead conn) = true
is_of_streams (action.Lost conn broken) = true
is_of_streams (action.HandlerDone conn task) = true
is_of_streams (action.ReadableServer server) = true
is_of_streams (action.Readable conn) = true
is_of_streams (action.Writable conn) = true
is_of_streams (action.Up conn) = true
is_of_streams (action.Down conn) = true
is_of_streams (action.WritableChild child) = true
is_of_streams (action.ChildItem child told) = true
is_of_streams (action.LostChild child broken) = true
is_of_streams _ = false

abbrev pub is_select : Call → Bool
is_select (call.Select wait watch) = true
is_select _ = false

-- a call of a turn, or of what is added: no tree asks it
abbrev pub is_aside : Call → Bool
is_aside (call.Select wait watched) = true
is_aside (call.Extra code bytes) = true
is_aside _ = false

-- an outcome that is no value of a script's, or one of so many connections
abbrev pub names_opened : (connections : ℕ) → Outcome → Bool
names_opened connections (Returned Nothing) = true
names_opened connections (Returned (Int number)) = true
names_opened connections (Returned (Conn id)) = nat_lt id connections
names_opened connections (Failed fault) = true
names_opened connections _ = false

-- ---- what there was before: `own` tells the futures that were kept, and how many connections there were
pub record Owned : Type 0 where
  pub has : ℕ → Bool
  pub connections : ℕ

abbrev pub IsOwn : (own : Owned) → ℕ → Type 0
IsOwn own future = own.has future ≡ true

-- numbered from `first` on, and below `next`
abbrev pub IsMade : (first next : ℕ) → ℕ → Type 0
IsMade first next future = (first ≤ future) × (future < next)

abbrev pub IsKnown : (own : Owned) → (first next : ℕ) → ℕ → Type 0
IsKnown own first next future = IsOwn own future ⊎ IsMade first next future

-- ---- a tree, where the future that is made next has the number `next`; `Left` is of what it ends with
abbrev pub Keeping : {A : Type 0} → (Left : (next : ℕ) → A → Type 0) → (own : Owned) → (next : ℕ) → Doing A → Type 0
Keeping Left own next (Ends result) = Left next result
Keeping Left own next (Changes MakeFuture rest) = Keeping Left own (next + 1) rest
Keeping Left own next (Changes (CallSoon it) rest) = (is_of_streams it ≡ true) × Keeping Left own next rest
Keeping Left own next (Changes (Settle future outcome) rest) =
    (IsOwn own future × (names_opened own.connections outcome ≡ true)) × Keeping Left own next rest
Keeping Left own next (Asks asked rest) = (is_aside asked ≡ false) × ((answer : Answer) → Keeping Left own next (rest answer))

-- ---- what a tree ends with: streams
-- once, if it was made in it
abbrev pub made_in : (first next future : ℕ) → ℕ
made_in first next future = if nat_le first future && nat_lt future next then 1 else 0

-- Of the streams from which it began: a future is kept no more often than there, but for those that were made, and what is open
-- there is open still.
pub record KeepsStreams (own : Owned) (first : ℕ) (before : Streams) (next : ℕ) (after : Streams) : Type 0 where
  pub kept : StreamsKeep (IsKnown own first next) after
  pub times : (future : ℕ) → times_kept future after ≤ times_kept future before + made_in first next future
  pub asked : (future : ℕ) → times_asked future after ≤ times_asked future before + made_in first next future
  pub servers : length before.servers ≤ length after.servers
  pub connections : length before.connections ≤ length after.connections
  pub children : length before.children ≤ length after.children

-- and an answer: a future that it waits on was made in it
abbrev pub AnswersStreams : {R : Type 0} → (Waits : (ℕ → Type 0) → R → Type 0) → (own : Owned) → (first : ℕ) → (before : Streams)
    → (next : ℕ) → Streams × R → Type 0
AnswersStreams Waits own first before next done = KeepsStreams own first before next done.0 × Waits (IsMade first next) done.1

abbrev pub WaitsNever : {R : Type 0} → (ℕ → Type 0) → R → Type 0
WaitsNever P answer = Unit {0}

abbrev pub DrainWaits : (ℕ → Type 0) → Drain → Type 0
DrainWaits P (drain_as.Waits on) = P on
DrainWaits P drain_as.Goes = Unit {0}
DrainWaits P drain_as.Yields = Unit {0}
DrainWaits P (drain_as.Raises fault) = Unit {0}

abbrev pub ReadWaits : (ℕ → Type 0) → StreamGot → Type 0
ReadWaits P (got_as.Waits on) = P on
ReadWaits P (got_as.Bytes bytes) = Unit {0}
ReadWaits P (got_as.Raises fault) = Unit {0}

abbrev pub AllWaits : (ℕ → Type 0) → AllGot → Type 0
AllWaits P said = ReadWaits P said.got

abbrev pub ExitWaits : (ℕ → Type 0) → ChildWait → Type 0
ExitWaits P (wait_as.Waits on) = P on
ExitWaits P (wait_as.Code code) = Unit {0}

-- a connect: the connection's number, which is there then, and the future that it waits on
abbrev pub ConnectWaits : (connections : ℕ) → (ℕ → Type 0) → Option (ℕ × ℕ) → Type 0
ConnectWaits connections P None = Unit {0}
ConnectWaits connections P (Some begun) = (begun.0 < connections) × P begun.1

abbrev pub ConnectsStreams : (own : Owned) → (first : ℕ) → (before : Streams) → (next : ℕ) → Streams × Option (ℕ × ℕ) → Type 0
ConnectsStreams own first before next done =
    KeepsStreams own first before next done.0 × ConnectWaits (length done.0.connections) (IsMade first next) done.1

-- what is opened: its number, which one of so many has then
abbrev pub IsOneOf : (count : ℕ) → Option ℕ → Type 0
IsOneOf count None = Unit {0}
IsOneOf count (Some id) = id < count

abbrev pub OpensStreams : (count : Streams → ℕ) → (own : Owned) → (first : ℕ) → (before : Streams) → (next : ℕ) → Streams × Option ℕ → Type 0
OpensStreams count own first before next done = KeepsStreams own first before next done.0 × IsOneOf (count done.0) done.1
