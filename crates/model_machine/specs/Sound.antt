-- A sound state of the machine, between any two callbacks of a run: its loop is sound, and each task stands where its tape
-- says that it does.
use Rattle.std.specs.Prelude.{◌≡◌, ℕ, ◌<◌, ◌≤◌, ◌⊎◌, Bool, true, false, not, ◌&&◌, ◌==◌, List, [], ◌∷◌, Option, Some, None, length, nat_lt}
use Rattle.std.specs.Prelude.{slice_get, slice_index_or}
use Rattle.std.specs.List.{AllByRecursion as Each, count_by, list_all, list_any}
use Rattle.model_value.specs.declared.action.Action.TheVariants.{SleepDone, Step, Extra as OfExtra}
use Rattle.model_value.specs.declared.input.Input.TheVariants.{Send, Throw}
use Rattle.model_value.specs.declared.outcome.Outcome.TheVariants.{Value as Returned}
use Rattle.model_value.specs.declared.request.Request.TheVariants as request
use Rattle.model_value.specs.Action.{Action}
use Rattle.model_value.specs.Equality.{equal}
use Rattle.model_value.specs.Input.{Input}
use Rattle.model_value.specs.Request.{Request}
use Rattle.model_value.specs.Value.{Value, Nothing, Truth, Int, Text, Bytes, Items, Fut, Task, Group, Timeout, Conn, Server, Child, Errs, Exception}
use Rattle.model_value.specs.Value.{Values, no_values, value_then}
use Rattle.model_says.specs.Blocks.{open_blocks}
use Rattle.model_says.specs.Endings.{Asks, Exchange}
use Rattle.model_says.specs.Says.{exchanges_along, step_limit}
use Rattle.model_wire.specs.declared.event.Handed.{Handed}
use Rattle.model_wire.specs.declared.event.Handed.TheVariants as to
use Rattle.model_loop.specs.Entries.{entries}
use Rattle.model_loop.specs.Futures.{future_outcome, next_future}
use Rattle.model_loop.specs.Groups.{group_of, next_group}
use Rattle.model_loop.specs.Loop.{Loop, TimeoutState, Active, Expiring}
use Rattle.model_loop.specs.Owning.{is_main_done, is_plain, own_future, owner_of}
use Rattle.model_loop.specs.Parts.{Future, Handle, Parts, Plain, Timer}
use Rattle.model_loop.specs.Sound.{IsSound}
use Rattle.model_loop.specs.Tasks.{future_of, lives, next_task}
use Rattle.model_loop.specs.Timeouts.{next_timeout, timeout_of}
use Rattle.model_loop.specs.Totals.{callbacks_of, pending_where}
use Rattle.model_loop.specs.Ways.{is_running}
use Rattle.model_stream.specs.Kept.{StreamsKeep, times_kept}
use Rattle.model_stream.specs.Requests.{StreamReader, OfConn, OfChild}
use Rattle.model_stream.specs.Streams.{Streams, no_streams}
use Rattle.model_machine.specs.Extra.{Extra, Keeping}
use Rattle.model_machine.specs.State.{ResumePoint, Asked, Sleeping, Leaving, Serving, Connecting, Yielding, Reading, ReadingAll, Generator, State}
use Rattle.model_machine.specs.State.{generator, generator_of}
use Rattle.model_machine.specs.Step.{says_of}
use Rattle.model_machine.specs.Told.{told_in}

-- ---- tasks and their tapes
-- whether a task that waits at this request may stand so
abbrev pub stands_at : ResumePoint → Request → Bool
stands_at Asked request.Pause = true
stands_at Asked (request.Await x) = true
stands_at Asked (request.Sleep delay) = true
stands_at (Sleeping tag) (request.Sleep delay) = true
stands_at (Leaving id) (request.GroupExit (Group group) raised) = group == id
stands_at (Serving key) (request.Extra code arguments) = true
stands_at (Connecting conn) (request.Connect port) = true
stands_at Asked (request.WaitClosed stream) = true
stands_at Asked (request.Drain stream) = true
stands_at Asked (request.WaitChild child) = true
stands_at (Yielding whom) (request.Drain stream) = true
stands_at (Reading from op on) (request.Read stream count) = true
stands_at (Reading from op on) (request.ReadExactly stream count) = true
stands_at (Reading from op on) (request.ReadUntil stream separator) = true
stands_at (Reading from op on) (request.ReadLine stream) = true
stands_at (ReadingAll from taken on) (request.Read stream count) = true
stands_at _ _ = false

-- a task's first step is pending
pub record IsUnbegun (p : Parts) (task : ℕ) : Type 0 where
  pub place : ℕ
  pub handle : Handle
  pub found : slice_get p.pending place ≡ Some handle
  pub live : handle.dead ≡ false
  pub steps : handle.action ≡ Step task

-- what it asks, and how it stands there
pub record IsAsking {S : Type 0} (added : Extra S) (s : State S) (task : ℕ) : Type 0 where
  pub asked : Request
  pub says : says_of step_limit added task s ≡ Asks asked
  pub stands : stands_at (generator_of task s).resume_point asked ≡ true

-- what is called when main is done is registered on main's future alone, and pending only then
pub record IsMainTold (p : Parts) : Type 0 where
  pub made : 0 < next_task p
  pub there : future_of p 0 < next_future p
  pub registered : (id : ℕ) → 0 < count_by is_main_done (callbacks_of p id) → id ≡ future_of p 0
  pub pending : 0 < pending_where is_main_done p.pending → lives p 0 ≡ false

-- ---- what tasks stand at
-- whether an action ends a sleep of the task
abbrev pub ends_sleep_of : ℕ → Action → Bool
ends_sleep_of task (SleepDone other future) = other == task
ends_sleep_of task _ = false

-- what a sleep's tag still names resolves that sleep
pub record NamesItsSleep (p : Parts) (task tag : ℕ) : Type 0 where
  pub below : tag < p.next_tag
  pub pending : (place : ℕ) (handle : Handle) → slice_get p.pending place ≡ Some handle → handle.tag ≡ tag
      → handle.dead ≡ false → ends_sleep_of task handle.action ≡ true
  pub in_time : (place : ℕ) (timer : Timer) → slice_get p.timers place ≡ Some timer → timer.tag ≡ tag
      → ends_sleep_of task timer.action ≡ true

-- a group whose exit has begun and hasn't ended
abbrev pub IsLeft : {S : Type 0} → State S → (group : ℕ) → Type 0
IsLeft s id = ((group_of s.loop id).exiting && not (group_of s.loop id).ended) ≡ true

-- what a standing names was opened
abbrev pub IsOpenedWriter : Streams → Handed → Type 0
IsOpenedWriter s (to.Conn id) = id < length s.connections
IsOpenedWriter s (to.Child id) = id < length s.children

abbrev pub IsOpenedReader : Streams → StreamReader → Type 0
IsOpenedReader s (OfConn id) = id < length s.connections
IsOpenedReader s (OfChild pipe id) = id < length s.children

abbrev pub IsOpenedAt : Streams → ResumePoint → Type 0
IsOpenedAt s Asked = Unit {0}
IsOpenedAt s (Sleeping tag) = Unit {0}
IsOpenedAt s (Leaving group) = Unit {0}
IsOpenedAt s (Serving key) = Unit {0}
IsOpenedAt s (Connecting conn) = conn < length s.connections
IsOpenedAt s (Yielding whom) = IsOpenedWriter s whom
IsOpenedAt s (Reading from op on) = IsOpenedReader s from
IsOpenedAt s (ReadingAll from taken on) = IsOpenedReader s from

pub record StandsRightly {S : Type 0} (s : State S) (task : ℕ) : Type 0 where
  pub sleeping : (tag : ℕ) → (generator_of task s).resume_point ≡ Sleeping tag → NamesItsSleep s.loop.parts task tag
  pub leaving : (id : ℕ) → (generator_of task s).resume_point ≡ Leaving id → (group_of s.loop id).parent ≡ task
  pub leaving_now : (id : ℕ) → (generator_of task s).resume_point ≡ Leaving id → IsLeft s id
  pub opened : IsOpenedAt s.streams (generator_of task s).resume_point

-- ---- open blocks
abbrev pub is_open : TimeoutState → Bool
is_open Active = true
is_open Expiring = true
is_open _ = false

-- the open blocks of a task's tape, and what was answered along it
abbrev pub blocks_of : {S : Type 0} → State S → (task : ℕ) → List Value
blocks_of s task = let it = generator_of task s in open_blocks s.program it.coroutine it.arguments it.tape

abbrev pub exchanges_of : {S : Type 0} → State S → (task : ℕ) → List Exchange
exchanges_of s task = let it = generator_of task s in exchanges_along s.program it.coroutine it.arguments it.tape

-- whether this block is open on a task's tape
abbrev pub has_open : {S : Type 0} → State S → (task : ℕ) → Value → Bool
has_open s task block = list_any (equal block) (blocks_of s task)

-- an entry that is answered by a value is answered by a timeout, or by a group
abbrev pub names_block : Request → Input → Bool
names_block (request.TimeoutEnter delay) (Send (Timeout id)) = true
names_block (request.TimeoutEnter delay) (Send value) = false
names_block request.GroupEnter (Send (Group id)) = true
names_block request.GroupEnter (Send value) = false
names_block _ _ = true

-- such a block is the task's
abbrev pub IsBlockOf : Loop → (task : ℕ) → Value → Type 0
IsBlockOf l task (Timeout id) = (id < length l.timeouts) × ((timeout_of l id).task ≡ task)
IsBlockOf l task (Group id) = (id < length l.groups) × ((group_of l id).parent ≡ task)
IsBlockOf l task _ = ⊥

-- each once
abbrev pub AreBlocksOf : Loop → (task : ℕ) → List Value → Type 0
AreBlocksOf l task [] = Unit {0}
AreBlocksOf l task (block ∷ blocks) = IsBlockOf l task block × (list_any (equal block) blocks ≡ false) × AreBlocksOf l task blocks

-- A timeout is active or expiring exactly while its block is open, and a group is entered and hasn't ended.
pub record AreBlocksOpen {S : Type 0} (s : State S) : Type 0 where
  pub timeouts : (id : ℕ) → id < length s.loop.timeouts
      → is_open (timeout_of s.loop id).state ≡ has_open s (timeout_of s.loop id).task (Timeout id)
  pub groups : (id : ℕ) → id < length s.loop.groups
      → ((group_of s.loop id).entered && not (group_of s.loop id).ended) ≡ has_open s (group_of s.loop id).parent (Group id)
  pub entered : (task : ℕ) → list_all (λ exchange. names_block exchange.request exchange.answer) (exchanges_of s task) ≡ true
  pub own : (task : ℕ) → AreBlocksOf s.loop task (blocks_of s task)

-- ---- values
-- How many of each kind were made. Each kind is numbered from 0; those of a child's standard error are the child's.
pub record Ids : Type 0 where
  pub tasks : ℕ
  -- of `future()`
  pub futures : ℕ
  pub timeouts : ℕ
  pub groups : ℕ
  pub servers : ℕ
  pub connections : ℕ
  pub children : ℕ

abbrev pub ids_of : {S : Type 0} → State S → Ids
ids_of s =
    record {
      tasks = next_task s.loop.parts;
      futures = length s.futures;
      timeouts = next_timeout s.loop;
      groups = next_group s.loop;
      servers = length s.streams.servers;
      connections = length s.streams.connections;
      children = length s.streams.children;
    }

-- where so many were made, each that a value names was
abbrev mutual
  pub names_made : Ids → Value → Bool
  names_made ids Nothing = true
  names_made ids (Truth truth) = true
  names_made ids (Int number) = true
  names_made ids (Text bytes) = true
  names_made ids (Bytes bytes) = true
  names_made ids (Items items) = all_made ids items
  names_made ids (Fut id) = nat_lt id ids.futures
  names_made ids (Task id) = nat_lt id ids.tasks
  names_made ids (Group id) = nat_lt id ids.groups
  names_made ids (Timeout id) = nat_lt id ids.timeouts
  names_made ids (Conn id) = nat_lt id ids.connections
  names_made ids (Server id) = nat_lt id ids.servers
  names_made ids (Child id) = nat_lt id ids.children
  names_made ids (Errs id) = nat_lt id ids.children
  names_made ids (Exception exception) = true

  pub all_made : Ids → Values → Bool
  all_made ids no_values = true
  all_made ids (value_then value others) = names_made ids value && all_made ids others

abbrev pub sends_made : Ids → Input → Bool
sends_made ids (Send value) = names_made ids value
sends_made ids (Throw exception) = true

-- Whatever arguments, tapes and outcomes name was made. So no script has a value that names what wasn't.
pub record AreIdsMade {S : Type 0} (s : State S) : Type 0 where
  pub arguments : (task : ℕ) → list_all (names_made (ids_of s)) (generator_of task s).arguments ≡ true
  pub tape : (task : ℕ) → list_all (λ entry. sends_made (ids_of s) entry.input) (generator_of task s).tape ≡ true
  pub outcomes : (id : ℕ) (value : Value) → future_outcome s.loop.parts id ≡ Some (Returned value)
      → names_made (ids_of s) value ≡ true

-- ---- futures of `future()`
-- each is a plain one, which it alone names, and which no connection or child keeps
pub record AreScriptsFutures {S : Type 0} (s : State S) : Type 0 where
  pub plain : (place id : ℕ) → slice_get s.futures place ≡ Some id
      → (future : Future) × (slice_get s.loop.parts.futures id ≡ Some future) × (future.kind ≡ Plain)
  pub once : (place other id : ℕ) → slice_get s.futures place ≡ Some id → slice_get s.futures other ≡ Some id → place ≡ other
  pub apart : (place id : ℕ) → slice_get s.futures place ≡ Some id → times_kept id s.streams ≡ 0

-- ---- what is added
-- a future of `future()`, of which these are all, or a task's own
abbrev pub IsAwaitable : (futures : List ℕ) → Parts → ℕ → Type 0
IsAwaitable futures p id = ((place : ℕ) × (slice_get futures place ≡ Some id)) ⊎ ((task : ℕ) × (own_future p task ≡ Some id))

-- it was made, and is no task's
abbrev pub IsOwned : Parts → ℕ → Type 0
IsOwned p id = (id < next_future p) × (owner_of p id ≡ None)

-- none of these
abbrev pub IsNoneOf : List ℕ → ℕ → Type 0
IsNoneOf ids id = (place : ℕ) → slice_get ids place ≡ Some id → ⊥

abbrev pub is_extra : Action → Bool
is_extra (OfExtra key) = true
is_extra _ = false

-- what has a tag and is no handle of what is added
abbrev pub no_extra_as : ℕ → ℕ → Action → Bool
no_extra_as tag other it = (other == tag) && not (is_extra it)

-- it was given, and what has it is a handle of what is added
abbrev pub IsTagOwned : Parts → ℕ → Type 0
IsTagOwned p tag = (tag < p.next_tag) × (entries (no_extra_as tag) p ≡ 0)

-- What is added keeps what was made: futures that scripts may await, others of its own, which are no task's and no script's, and
-- tags of its own handles; and what its values name was. `futures` are those of `future()`.
pub record AreKept (ids : Ids) (keeping : Keeping) (futures : List ℕ) (p : Parts) : Type 0 where
  pub tasks : Each (λ task. task < next_task p) keeping.tasks
  pub awaitable : Each (IsAwaitable futures p) keeping.futures
  pub own : Each (IsOwned p) keeping.own
  pub apart : Each (IsNoneOf futures) keeping.own
  pub tags : Each (IsTagOwned p) keeping.tags
  pub values : list_all (names_made ids) keeping.values ≡ true

-- the task stands at a request under this key
abbrev pub StandsUnder : List Generator → (task key : ℕ) → Type 0
StandsUnder generators task key = (slice_index_or generators task (generator 0 [])).resume_point ≡ Serving key

-- no task does
abbrev pub IsFree : List Generator → (key : ℕ) → Type 0
IsFree generators key = (task : ℕ) → StandsUnder generators task key → ⊥

-- each key under which a task stands is one that is kept, and is no other task's
pub record AreKeysKept (has_key : ℕ → Bool) (generators : List Generator) : Type 0 where
  pub known : (task key : ℕ) → StandsUnder generators task key → has_key key ≡ true
  pub once : (task other key : ℕ) → StandsUnder generators task key → StandsUnder generators other key → task ≡ other

-- ---- streams
-- nothing is open, and nothing can be opened
abbrev pub IsClosed : {S : Type 0} → State S → Type 0
IsClosed s = s.streams ≡ no_streams 0

-- each future that a connection or a child keeps was made, and is a plain one
abbrev pub AreStreamsFutures : {S : Type 0} → State S → Type 0
AreStreamsFutures s = StreamsKeep (λ future. is_plain s.loop.parts future ≡ true) s.streams

-- and it is kept once, by one of them
abbrev pub AreKeptOnce : {S : Type 0} → State S → Type 0
AreKeptOnce s = (future : ℕ) → times_kept future s.streams ≤ 1

-- ---- all of it
-- A state that is sound while this task runs, but for what the excused task asks and stands at. Of its blocks it says `Blocks`.
pub record IsSoundOver {S : Type 0} (Blocks : Type 0) (running excused : Option ℕ) (added : Extra S) (s : State S) : Type 0 where
  pub loop : IsSound running (told_in s.events) s.loop
  pub generators : length s.generators ≡ next_task s.loop.parts
  pub asking : (task : ℕ) → lives s.loop.parts task ≡ true → is_running excused task ≡ false → IsAsking added s task
  pub unbegun : (task : ℕ) → lives s.loop.parts task ≡ true → is_running excused task ≡ false → (generator_of task s).tape ≡ []
      → IsUnbegun s.loop.parts task
  pub main_over : s.main_done ≡ true → lives s.loop.parts 0 ≡ false
  pub main_told : IsMainTold s.loop.parts
  pub resume_point : (task : ℕ) → lives s.loop.parts task ≡ true → is_running excused task ≡ false → StandsRightly s task
  -- a group whose exit has begun and hasn't ended is the one at whose exit its parent stands
  pub exits : (id : ℕ) → IsLeft s id → is_running excused (group_of s.loop id).parent ≡ false
      → (generator_of (group_of s.loop id).parent s).resume_point ≡ Leaving id
  pub blocks : Blocks
  pub streams : AreStreamsFutures s
  pub kept_once : AreKeptOnce s
  pub futures : AreScriptsFutures s
  pub made : AreIdsMade s
  pub kept : AreKept (ids_of s) (added.keeps s.extra) s.futures s.loop.parts
  pub keys : AreKeysKept (added.keeps s.extra).has_key s.generators

-- all of its blocks
abbrev pub IsSoundBut : {S : Type 0} → (running excused : Option ℕ) → Extra S → State S → Type 0
IsSoundBut running excused added s = IsSoundOver (AreBlocksOpen s) running excused added s

-- between two callbacks: no task runs, and none is excused
abbrev pub IsStateSound : {S : Type 0} → Extra S → State S → Type 0
IsStateSound added s = IsSoundBut None None added s
