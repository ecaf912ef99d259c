-- All listeners, connections and children of a run, each kind numbered from 0 in order of making; and how each callback
-- changes them, and what opens one.
use Rattle.std.specs.Prelude.{ℕ, zero, suc, ◌+◌, Bool, true, false, if◌then◌else◌, List, [], ◌∷◌, ◌++◌, Option, Some, None, length, nat_lt, slice_get}
use Rattle.std.specs.Prelude.{slice_set}
use Rattle.model_value.specs.declared.action.Action.TheVariants as action
use Rattle.model_value.specs.Action.{Action}
use Rattle.model_wire.specs.declared.call.Call.TheVariants as call
use Rattle.model_wire.specs.declared.event.Handed.{Handed}
use Rattle.model_wire.specs.Call.{Answer}
use Rattle.model_stream.specs.Answers.{is_child, is_conn, is_done}
use Rattle.model_stream.specs.Children.{Child, new_child, feed_more, tell_child, lose_child}
use Rattle.model_stream.specs.Connections.{Connection, connecting, accepted, start_read, readable, writable, up, down, lose, handler_done}
use Rattle.model_stream.specs.Doing.{Doing, Ends, Changes, Asks, MakeFuture, CallSoon, Part, and_then, asks}
use Rattle.model_stream.specs.Listeners.{Server}

-- what was opened
pub data Opened : Type 0 where
  OpenedServer : (id : ℕ) → Opened
  OpenedConn : (id : ℕ) → Opened
  OpenedChild : (id : ℕ) → Opened

-- a piece that was written to a connection or to a child's standard input
pub record Written : Type 0 where
  pub to : Handed
  pub piece : List ℕ

-- `opened` is in order of opening. `written` is all that was written so far, in order, and neither refused, empty nor
-- dropped. `most` is how many of each kind can be numbered.
pub record Streams : Type 0 where
  pub servers : List Server
  pub connections : List Connection
  pub children : List Child
  pub opened : List Opened
  pub written : List Written
  pub most : ℕ

-- nothing was opened so far, and `most` of each kind can be numbered
abbrev pub no_streams : (most : ℕ) → Streams
no_streams most = record { servers = []; connections = []; children = []; opened = []; written = []; most = most }

-- whether one more can be numbered
abbrev pub may_listen : Streams → Bool
may_listen s = nat_lt (length s.servers) s.most

abbrev pub may_connect : Streams → Bool
may_connect s = nat_lt (length s.connections) s.most

abbrev pub may_launch : Streams → Bool
may_launch s = nat_lt (length s.children) s.most

-- ---- one of them changes; a number that none has changes nothing
abbrev pub its_connections : Part Streams (List Connection)
its_connections = record { get = λ s. s.connections; put = λ connections s. record s { connections = connections } }

abbrev pub its_children : Part Streams (List Child)
its_children = record { get = λ s. s.children; put = λ children s. record s { children = children } }

abbrev pub on_one : {A : Type 0} → Part Streams (List A) → (id : ℕ) → (A → Doing A) → Streams → Doing Streams
on_one kind id change s =
    elim (slice_get (kind.get s) id) [
      | None ↦ Ends s
      | Some one ↦ and_then (change one) (λ after. Ends (kind.put (slice_set (kind.get s) id after) s))
    ]

-- ---- listeners
-- a connection is made, with the next number
abbrev pub add_connection : Connection → Streams → Streams
add_connection c s =
    record s {
      connections = s.connections ++ c ∷ [];
      opened = s.opened ++ OpenedConn (length s.connections) ∷ [];
    }

-- how many connections one readable listener accepts at most
abbrev pub most_accepts : ℕ
most_accepts = 100

-- an accepted connection is made, and begins to read, soon; `next` is the number of its closed future
abbrev pub accept : (handler next : ℕ) → Streams → Doing Streams
accept handler next s =
    let id = length s.connections in
    Changes MakeFuture
    (Changes (CallSoon (action.Made id))
    (Changes (CallSoon (action.StartRead id)) (Ends (add_connection (accepted next handler) s))))

-- It accepts until another answer comes.
abbrev pub accept_most : (more server handler next : ℕ) → Streams → Doing Streams
accept_most zero server handler next s = Ends s
accept_most (suc more) server handler next s =
    if may_connect s
    then Asks (call.Accept server) (λ came.
    if is_conn came then and_then (accept handler next s) (accept_most more server handler (next + 1)) else Ends s)
    else Ends s

-- `readable` of a listener that is open
abbrev pub readable_server : (next : ℕ) → ℕ → Streams → Doing Streams
readable_server next id s =
    elim (slice_get s.servers id) [
      | None ↦ Ends s
      | Some server ↦ if server.is_open then accept_most most_accepts id server.handler next s else Ends s
    ]

-- a listener is made, with the next number
abbrev pub add_server : Server → Streams → Streams
add_server server s =
    record s { servers = s.servers ++ server ∷ []; opened = s.opened ++ OpenedServer (length s.servers) ∷ [] }

abbrev pub listened : (handler : ℕ) → Streams → Answer → Doing (Streams × Option ℕ)
listened handler s came =
    if is_done came
    then Ends (add_server (record { handler = handler; is_open = true }) s, Some (length s.servers))
    else Ends (s, None)

-- `listen`: the listener's number, or none where it is refused
abbrev pub listen : (port handler : ℕ) → Streams → Doing (Streams × Option ℕ)
listen port handler s = Asks (call.Listen port) (listened handler s)

abbrev pub closed_server : Server → Server
closed_server server = record server { is_open = false }

-- a listener is closed once
abbrev pub close_server : ℕ → Streams → Doing Streams
close_server id s =
    elim (slice_get s.servers id) [
      | None ↦ Ends s
      | Some server ↦ if server.is_open
          then asks (call.CloseServer id) (Ends (record s { servers = slice_set s.servers id (closed_server server) }))
          else Ends s
    ]

-- ---- connections and children that a request makes
-- `Connecting`: the connection's number, and the future that the connect waits on
abbrev pub begun : (next : ℕ) → Streams → Answer → Doing (Streams × Option (ℕ × ℕ))
begun next s came =
    if is_conn came
    then Changes MakeFuture
    (Changes MakeFuture
    (Ends (add_connection (connecting next (next + 1)) s, Some (length s.connections, next + 1))))
    else Ends (s, None)

-- `connect`, or none where it is refused. The closed future has the next number, and the connect's own the one after.
abbrev pub connect : (port next : ℕ) → Streams → Doing (Streams × Option (ℕ × ℕ))
connect port next s = Asks (call.Connect port) (begun next s)

-- a child is made, with the next number
abbrev pub add_child : Child → Streams → Streams
add_child p s =
    record s { children = s.children ++ p ∷ []; opened = s.opened ++ OpenedChild (length s.children) ∷ [] }

abbrev pub launched : (next : ℕ) → Streams → Answer → Doing (Streams × Option ℕ)
launched next s came =
    if is_child came
    then Changes MakeFuture (Ends (add_child (new_child next) s, Some (length s.children)))
    else Ends (s, None)

-- `launch`: the child's number, or none where it is refused
abbrev pub launch : (words : List (List ℕ)) (next : ℕ) → Streams → Doing (Streams × Option ℕ)
launch words next s = Asks (call.Launch words) (launched next s)

-- ---- callbacks
-- What a callback of a listener, a connection or a child does. `next` is the number of the future that is made next;
-- `returned` says of a handler that is done that it neither failed nor was cancelled.
abbrev pub act : (next : ℕ) (returned : Bool) → Action → Streams → Doing Streams
act next returned (action.ReadableServer id) s = readable_server next id s
act next returned (action.StartRead id) s = on_one its_connections id (λ c. Ends (start_read c)) s
act next returned (action.Readable id) s = on_one its_connections id (readable id) s
act next returned (action.Writable id) s = on_one its_connections id (writable id) s
act next returned (action.Up id) s = on_one its_connections id (up id) s
act next returned (action.Down id) s = on_one its_connections id (down id) s
act next returned (action.Lost id broken) s = on_one its_connections id (lose id broken) s
act next returned (action.HandlerDone id task) s = on_one its_connections id (handler_done id returned) s
act next returned (action.WritableChild id) s = on_one its_children id (feed_more id) s
act next returned (action.ChildItem id item) s = on_one its_children id (tell_child id item) s
act next returned (action.LostChild id broken) s = on_one its_children id (lose_child id broken) s
-- `made` starts a handler, which is the machine's
act next returned (action.Made id) s = Ends s
-- the others are the loop's
act next returned (action.Step task) s = Ends s
act next returned (action.StepInCycle task cycle) s = Ends s
act next returned (action.Wakeup task) s = Ends s
act next returned (action.SleepDone task future) s = Ends s
act next returned (action.GroupDone group task) s = Ends s
act next returned (action.Fires timeout) s = Ends s
act next returned action.MainDone s = Ends s
act next returned (action.ExtraItem code bytes) s = Ends s
act next returned (action.Extra key) s = Ends s

-- `made`: the coroutine that handles a connection that was accepted, which is then started
abbrev pub handler_of : (id : ℕ) → Streams → Option ℕ
handler_of id s = elim (slice_get s.connections id) [ None ↦ None | Some c ↦ c.handler ]
