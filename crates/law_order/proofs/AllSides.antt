-- Whatever is done among all that is open keeps the order of each.
use Rattle.std.proofs.Common.{◌≡◌, ℕ, zero, suc, ◌+◌, ℤ, pos, Bool, true, cond, List, [], ◌∷◌, ◌++◌, Option, Some, None, length, slice_get, slice_set}
use Rattle.std.proofs.Common.{refl}
use Rattle.model_pump.specs.declared.stream.Stream.{Stream}
use Rattle.model_pump.specs.declared.stream.Stream.TheVariants as stream
use Rattle.model_value.specs.declared.action.Action.TheVariants as action
use Rattle.model_value.specs.Action.{Action}
use Rattle.model_wire.specs.declared.call.Call.TheVariants as call
use Rattle.model_wire.specs.declared.event.Handed.{Handed}
use Rattle.model_wire.specs.declared.event.Handed.TheVariants as to
use Rattle.model_wire.specs.Call.{Answer}
use Rattle.model_stream.specs.declared.answers.ChildWait.{ChildWait}
use Rattle.model_stream.specs.declared.answers.ChildWait.TheVariants as wait_as
use Rattle.model_stream.specs.declared.answers.Drain.TheVariants as drain_as
use Rattle.model_stream.specs.declared.answers.StreamGot.TheVariants as got_as
use Rattle.model_stream.specs.declared.put.Limited.{Limited}
use Rattle.model_stream.specs.declared.put.Limited.TheVariants as limited
use Rattle.model_stream.specs.Answers.{is_child, is_conn, is_done}
use Rattle.model_stream.specs.Children as child
use Rattle.model_stream.specs.Children.{Child, its_pipe, new_child, feed_more, tell_child, lose_child}
use Rattle.model_stream.specs.Connections as connection
use Rattle.model_stream.specs.Connections.{Connection, connecting, accepted, its_receiver, start_read, readable, writable, up, down, lose, handler_done}
use Rattle.model_stream.specs.Doing.{Doing, Ends, Changes, MakeFuture, CallSoon, and_then, asks, asked_on}
use Rattle.model_stream.specs.History.{is_same}
use Rattle.model_stream.specs.Listeners.{Server}
use Rattle.model_stream.specs.Reading.{ReadOp}
use Rattle.model_stream.specs.Receivers as receiver
use Rattle.model_stream.specs.Receivers.{Receiver, StreamGot, AllGot}
use Rattle.model_stream.specs.Requests.{StreamReader, OfConn, OfChild, asked_one, drain, limits, write_eof, close}
use Rattle.model_stream.specs.Requests.{drop_connect, read, read_all, give_up_read, wait, kill}
use Rattle.model_stream.specs.Senders.{Drain}
use Rattle.model_stream.specs.Streams.{Streams, act, add_connection, add_child, add_server, accept, accept_most, most_accepts, may_connect}
use Rattle.model_stream.specs.Streams.{its_connections, its_children, on_one, listen, connect, launch, close_server, closed_server}
use Rattle.law_stream.specs.SoundSenders.{IsSoundSender}
use Rattle.law_stream.specs.Ways.{Did, Heard, Always}
use Rattle.law_stream.proofs.Along.{always_if, always_into, always_map}
use Rattle.law_stream.specs.ChildSteps as children
use Rattle.law_stream.proofs.Quiet.{AllQuiet}
use Rattle.law_stream.proofs.SoundConnections.{conn_drains, conn_ends, conn_limits, conn_readable, conn_writable}
use Rattle.law_order.specs.Fronts.{Continues, KeepsFrontBy, Loses, MayGiveUp, Way, way_of}
use Rattle.law_order.specs.Sides.{AreKept, AreKeptBy, KeepsAll, KeepsAllBy, KeepsAllWith, standing_of}
use Rattle.law_order.proofs.Among.{always_all, each_child, each_conn, kept_both, kept_by, kept_still, now_child, now_conn, opened_child}
use Rattle.law_order.proofs.Among.{opened_conn, stands_same}
use Rattle.law_order.proofs.Among.{still_child, still_conn}
use Rattle.law_order.proofs.Framed as framed
use Rattle.law_order.proofs.Mildly as mildly
use Rattle.law_order.specs.Frames.{IsApart, IsFramed}
use Rattle.law_order.proofs.Framing.{apart_start}
use Rattle.law_order.proofs.OwnOrder.{always_back, child_close_front, child_lose_front, child_mild, close_front, conn_mild, down_front, drop_front}
use Rattle.law_order.proofs.OwnOrder.{handled_front, lose_front, pipe_front, start_front, take_front, tell_front, up_front}

-- nothing is handed in no moves
no_moves : (whom : Handed) → IsApart whom []
no_moves whom = apart_start whom

pub unchanged : (s : Streams) → AreKept s [] s
unchanged s = kept_still Continues s s [] refl (λ whom. refl) no_moves

unchanged_by : (way : Way) (s : Streams) → AreKeptBy way s [] s
unchanged_by way s = kept_still way s s [] refl (λ whom. refl) no_moves

-- ---- of each, along every way
gather : {X : Type 0} (way : Way) (s : Streams) (now : X → Streams) (b : Handed → Bool) (doing : Doing X) → ((x : X) → (now x).written ≡ s.written)
    → ((whom : Handed) → IsSoundSender (standing_of whom s)
    → Always (λ moves x. KeepsFrontBy way whom (cond (b whom) [] []) (standing_of whom s) moves (standing_of whom (now x))) doing)
    → Always (λ moves x. AreKeptBy way s moves (now x)) doing
gather {X} way s now b doing same each =
    always_map
    (λ moves (x : X). (whom : Handed) → IsSoundSender (standing_of whom s)
    → KeepsFrontBy way whom (cond (b whom) [] []) (standing_of whom s) moves (standing_of whom (now x)))
    (λ moves x. AreKeptBy way s moves (now x)) doing (λ moves x h. kept_by way s (now x) moves b (same x) h)
    (always_all (λ (whom : Handed) moves (x : X). IsSoundSender (standing_of whom s)
    → KeepsFrontBy way whom (cond (b whom) [] []) (standing_of whom s) moves (standing_of whom (now x))) doing
    (λ whom.
    always_all (λ (sound : IsSoundSender (standing_of whom s)) moves (x : X).
    KeepsFrontBy way whom (cond (b whom) [] []) (standing_of whom s) moves (standing_of whom (now x))) doing (each whom)))

module _ (id : ℕ) (s : Streams) where
  module _ (way : Way) where
    conn_ends_by : (change : Connection → Doing Connection)
        → ((c : Connection) → IsSoundSender c.sender → Always (λ moves after. KeepsFrontBy way (to.Conn id) [] c.sender moves after.sender) (change c))
        → ((c : Connection) → IsFramed (to.Conn id) (change c)) → KeepsAllBy way s (on_one its_connections id change s)
    conn_ends_by change here framed_all = at (slice_get s.connections id) refl
      where
        at : (found : Option Connection) → slice_get s.connections id ≡ found
            → KeepsAllBy way s (elim found [
              | None ↦ Ends s
              | Some one ↦ and_then (change one) (λ after. Ends (now_conn s id after))
            ])
        at None e = unchanged_by way s
        at (Some c) e =
            always_into (AreKeptBy way s) (now_conn s id) (change c)
            (gather way s (now_conn s id) (λ whom. is_same whom (to.Conn id)) (change c) (λ after. refl)
            (each_conn way s id [] (change c) (λ after. after) c e (here c) (framed_all c)))

    child_ends_by : (change : Child → Doing Child)
        → ((p : Child) → IsSoundSender p.stdin → Always (λ moves after. KeepsFrontBy way (to.Child id) [] p.stdin moves after.stdin) (change p))
        → ((p : Child) → IsFramed (to.Child id) (change p)) → KeepsAllBy way s (on_one its_children id change s)
    child_ends_by change here framed_all = at (slice_get s.children id) refl
      where
        at : (found : Option Child) → slice_get s.children id ≡ found
            → KeepsAllBy way s (elim found [
              | None ↦ Ends s
              | Some one ↦ and_then (change one) (λ after. Ends (now_child s id after))
            ])
        at None e = unchanged_by way s
        at (Some p) e =
            always_into (AreKeptBy way s) (now_child s id) (change p)
            (gather way s (now_child s id) (λ whom. is_same whom (to.Child id)) (change p) (λ after. refl)
            (each_child way s id [] (change p) (λ after. after) p e (here p) (framed_all p)))

  -- where it goes on
  conn_changes : (change : Connection → Doing Connection)
      → ((c : Connection) → IsSoundSender c.sender → Always (λ moves after. KeepsFrontBy Continues (to.Conn id) [] c.sender moves after.sender) (change c))
      → ((c : Connection) → IsFramed (to.Conn id) (change c)) → KeepsAll s (on_one its_connections id change s)
  conn_changes change here framed_all = conn_ends_by Continues change here framed_all

  child_changes : (change : Child → Doing Child)
      → ((p : Child) → IsSoundSender p.stdin → Always (λ moves after. KeepsFrontBy Continues (to.Child id) [] p.stdin moves after.stdin) (change p))
      → ((p : Child) → IsFramed (to.Child id) (change p)) → KeepsAll s (on_one its_children id change s)
  child_changes change here framed_all = child_ends_by Continues change here framed_all

  module _ {R : Type 0} (other : R) where
    conn_answers : (change : Connection → Doing (Connection × R))
        → ((c : Connection) → IsSoundSender c.sender
        → Always (λ moves (done : Connection × R). KeepsFrontBy Continues (to.Conn id) [] c.sender moves done.0.sender) (change c))
        → ((c : Connection) → IsFramed (to.Conn id) (change c)) → KeepsAllWith {R = R} s (asked_one its_connections other id change s)
    conn_answers change here framed_all = at (slice_get s.connections id) refl
      where
        at : (found : Option Connection) → slice_get s.connections id ≡ found
            → KeepsAllWith {R = R} s (elim found [
              | None ↦ Ends (s, other)
              | Some one ↦ and_then (change one) (λ done. Ends (now_conn s id done.0, done.1))
            ])
        at None e = unchanged s
        at (Some c) e =
            always_into (λ moves (done : Streams × R). AreKept s moves done.0) (λ (done : Connection × R). (now_conn s id done.0, done.1)) (change c)
            (gather {X = Connection × R} Continues s (λ done. now_conn s id done.0) (λ whom. is_same whom (to.Conn id)) (change c) (λ done. refl)
            (each_conn {X = Connection × R} Continues s id [] (change c) (λ done. done.0) c e (here c) (framed_all c)))

    child_answers : (change : Child → Doing (Child × R))
        → ((p : Child) → IsSoundSender p.stdin
        → Always (λ moves (done : Child × R). KeepsFrontBy Continues (to.Child id) [] p.stdin moves done.0.stdin) (change p))
        → ((p : Child) → IsFramed (to.Child id) (change p)) → KeepsAllWith {R = R} s (asked_one its_children other id change s)
    child_answers change here framed_all = at (slice_get s.children id) refl
      where
        at : (found : Option Child) → slice_get s.children id ≡ found
            → KeepsAllWith {R = R} s (elim found [
              | None ↦ Ends (s, other)
              | Some one ↦ and_then (change one) (λ done. Ends (now_child s id done.0, done.1))
            ])
        at None e = unchanged s
        at (Some p) e =
            always_into (λ moves (done : Streams × R). AreKept s moves done.0) (λ (done : Child × R). (now_child s id done.0, done.1)) (change p)
            (gather {X = Child × R} Continues s (λ done. now_child s id done.0) (λ whom. is_same whom (to.Child id)) (change p) (λ done. refl)
            (each_child {X = Child × R} Continues s id [] (change p) (λ done. done.0) p e (here p) (framed_all p)))

-- ---- what opens one
listen_none : (port : ℕ) (came : Answer) (whom : Handed) → IsApart whom (Heard (call.Listen port) came ∷ [])
listen_none port came (to.Conn id) = record { hands = refl; loses = refl; closes = refl }
listen_none port came (to.Child id) = record { hands = refl; loses = refl; closes = refl }

server_none : (id : ℕ) (came : Answer) (whom : Handed) → IsApart whom (Heard (call.CloseServer id) came ∷ [])
server_none id came (to.Conn other) = record { hands = refl; loses = refl; closes = refl }
server_none id came (to.Child other) = record { hands = refl; loses = refl; closes = refl }

accept_none : (id : ℕ) (came : Answer) (whom : Handed) → IsApart whom (Heard (call.Accept id) came ∷ [])
accept_none id came (to.Conn other) = record { hands = refl; loses = refl; closes = refl }
accept_none id came (to.Child other) = record { hands = refl; loses = refl; closes = refl }

connect_none : (port : ℕ) (came : Answer) (whom : Handed) → IsApart whom (Heard (call.Connect port) came ∷ [])
connect_none port came (to.Conn id) = record { hands = refl; loses = refl; closes = refl }
connect_none port came (to.Child id) = record { hands = refl; loses = refl; closes = refl }

launch_none : (words : List (List ℕ)) (came : Answer) (whom : Handed) → IsApart whom (Heard (call.Launch words) came ∷ [])
launch_none words came (to.Conn id) = record { hands = refl; loses = refl; closes = refl }
launch_none words came (to.Child id) = record { hands = refl; loses = refl; closes = refl }

-- and where one comes
accepted_none : (id conn : ℕ) (came : Answer) (whom : Handed)
    → IsApart whom (Heard (call.Accept id) came ∷ Did MakeFuture ∷ Did (CallSoon (action.Made conn)) ∷ Did (CallSoon (action.StartRead conn)) ∷ [])
accepted_none id conn came (to.Conn other) = record { hands = refl; loses = refl; closes = refl }
accepted_none id conn came (to.Child other) = record { hands = refl; loses = refl; closes = refl }

connected_none : (port : ℕ) (came : Answer) (whom : Handed) → IsApart whom (Heard (call.Connect port) came ∷ Did MakeFuture ∷ Did MakeFuture ∷ [])
connected_none port came (to.Conn id) = record { hands = refl; loses = refl; closes = refl }
connected_none port came (to.Child id) = record { hands = refl; loses = refl; closes = refl }

launched_none : (words : List (List ℕ)) (came : Answer) (whom : Handed) → IsApart whom (Heard (call.Launch words) came ∷ Did MakeFuture ∷ [])
launched_none words came (to.Conn id) = record { hands = refl; loses = refl; closes = refl }
launched_none words came (to.Child id) = record { hands = refl; loses = refl; closes = refl }

pub listens : (port handler : ℕ) (s : Streams) → KeepsAllWith {R = Option ℕ} s (listen port handler s)
listens port handler s = λ came fit.
    always_if (λ moves (done : Streams × Option ℕ). AreKept s (Heard (call.Listen port) came ∷ moves) done.0) (is_done came)
    (Ends (add_server (record { handler = handler; is_open = true }) s, Some (length s.servers))) (Ends (s, None))
    (λ is.
    let now = add_server (record { handler = handler; is_open = true }) s in
    kept_still Continues s now (Heard (call.Listen port) came ∷ []) refl (stands_same s now refl refl) (listen_none port came))
    (λ is. kept_still Continues s s (Heard (call.Listen port) came ∷ []) refl (λ whom. refl) (listen_none port came))

pub closes_server : (id : ℕ) (s : Streams) → KeepsAll s (close_server id s)
closes_server id s = at (slice_get s.servers id)
  where
    closed : Server → Streams
    closed server = record s { servers = slice_set s.servers id (closed_server server) }

    at : (found : Option Server) → KeepsAll s (elim found [
      | None ↦ Ends s
      | Some server ↦ cond server.is_open (asks (call.CloseServer id) (Ends (closed server))) (Ends s)
    ])
    at None = unchanged s
    at (Some server) =
        always_if (AreKept s) server.is_open (asks (call.CloseServer id) (Ends (closed server))) (Ends s)
        (λ is came fit.
        kept_still Continues s (closed server) (Heard (call.CloseServer id) came ∷ []) refl (stands_same s (closed server) refl refl) (server_none id came))
        (λ is. unchanged s)

pub connects : (port next : ℕ) (s : Streams) → KeepsAllWith {R = Option (ℕ × ℕ)} s (connect port next s)
connects port next s = λ came fit.
    always_if (λ moves (done : Streams × Option (ℕ × ℕ)). AreKept s (Heard (call.Connect port) came ∷ moves) done.0) (is_conn came)
    (Changes MakeFuture (Changes MakeFuture
    (Ends (add_connection (connecting next (next + 1)) s, Some (length s.connections, next + 1))))) (Ends (s, None))
    (λ is.
    opened_conn s (connecting next (next + 1)) next (Heard (call.Connect port) came ∷ Did MakeFuture ∷ Did MakeFuture ∷ []) refl
    (connected_none port came))
    (λ is. kept_still Continues s s (Heard (call.Connect port) came ∷ []) refl (λ whom. refl) (connect_none port came))

pub launches : (words : List (List ℕ)) (next : ℕ) (s : Streams) → KeepsAllWith {R = Option ℕ} s (launch words next s)
launches words next s = λ came fit.
    always_if (λ moves (done : Streams × Option ℕ). AreKept s (Heard (call.Launch words) came ∷ moves) done.0) (is_child came)
    (Changes MakeFuture (Ends (add_child (new_child next) s, Some (length s.children)))) (Ends (s, None))
    (λ is. opened_child s next (Heard (call.Launch words) came ∷ Did MakeFuture ∷ []) (launched_none words came))
    (λ is. kept_still Continues s s (Heard (call.Launch words) came ∷ []) refl (λ whom. refl) (launch_none words came))

accepts : (more server handler next : ℕ) (s : Streams) → KeepsAll s (accept_most more server handler next s)
accepts zero server handler next s = unchanged s
accepts (suc more) server handler next s =
    always_if (AreKept s) (may_connect s) _ (Ends s)
    (λ may came fit.
    always_if (λ moves after. AreKept s (Heard (call.Accept server) came ∷ moves) after) (is_conn came)
    (and_then (accept handler next s) (accept_most more server handler (next + 1))) (Ends s)
    (λ is.
    let now = add_connection (accepted next handler) s in
    let first = Heard (call.Accept server) came ∷ Did MakeFuture ∷ Did (CallSoon (action.Made (length s.connections)))
    ∷ Did (CallSoon (action.StartRead (length s.connections))) ∷ [] in
    always_map (AreKept now) (λ moves after. AreKept s (first ++ moves) after) (accept_most more server handler (next + 1) now)
    (λ moves after rest.
    kept_both s now after first moves
    (opened_conn s (accepted next handler) next first refl (accepted_none server (length s.connections) came)) rest)
    (accepts more server handler (next + 1) now))
    (λ is. kept_still Continues s s (Heard (call.Accept server) came ∷ []) refl (λ whom. refl) (accept_none server came)))
    (λ may. unchanged s)

server_reads : (next id : ℕ) (s : Streams) (found : Option Server) → KeepsAll s (elim found [
  | None ↦ Ends s
  | Some server ↦ cond server.is_open (accept_most most_accepts id server.handler next s) (Ends s)
])
server_reads next id s None = unchanged s
server_reads next id s (Some server) =
    always_if (AreKept s) server.is_open (accept_most most_accepts id server.handler next s) (Ends s)
    (λ is. accepts most_accepts id server.handler next s) (λ is. unchanged s)

-- ---- callbacks
pub acts : (next : ℕ) (returned : Bool) (it : Action) (s : Streams) → KeepsAllBy (way_of it) s (act next returned it s)
acts next returned (action.ReadableServer id) s = server_reads next id s (slice_get s.servers id)
acts next returned (action.StartRead id) s = conn_changes id s (λ c. Ends (start_read c)) (start_front id) (λ c. tt)
acts next returned (action.Readable id) s =
    conn_changes id s (readable id)
    (λ c sound. conn_mild id (λ after. after.sender) c (readable id c) sound (mildly.readable_mild id c) (conn_readable id c sound))
    (framed.readable_framed id)
acts next returned (action.Writable id) s =
    conn_changes id s (writable id)
    (λ c sound. conn_mild id (λ after. after.sender) c (writable id c) sound (mildly.writable_mild id c) (conn_writable id c sound))
    (framed.writable_framed id)
acts next returned (action.Up id) s = conn_changes id s (up id) (up_front id) (framed.up_framed id)
acts next returned (action.Down id) s = conn_ends_by id s (MayGiveUp id) (down id) (down_front id) (framed.down_framed id)
acts next returned (action.Lost id broken) s =
    conn_ends_by id s (Loses (to.Conn id) broken) (lose id broken) (lose_front id broken) (framed.lose_framed id broken)
acts next returned (action.HandlerDone id task) s =
    conn_changes id s (handler_done id returned) (handled_front id returned) (framed.handled_framed id returned)
acts next returned (action.WritableChild id) s =
    child_changes id s (feed_more id)
    (λ p sound. child_mild id children.IsWritable p sound tt refl (λ is. refl) (mildly.feed_mild id p)) (framed.feed_framed id)
acts next returned (action.ChildItem id item) s = child_changes id s (tell_child id item) (tell_front id item) (framed.tell_framed id item)
acts next returned (action.LostChild id broken) s =
    child_ends_by id s (Loses (to.Child id) broken) (lose_child id broken) (child_lose_front id broken) (framed.child_lose_framed id broken)
acts next returned (action.Made id) s = unchanged s
acts next returned (action.Step task) s = unchanged s
acts next returned (action.StepInCycle task cycle) s = unchanged s
acts next returned (action.Wakeup task) s = unchanged s
acts next returned (action.SleepDone task future) s = unchanged s
acts next returned (action.GroupDone group task) s = unchanged s
acts next returned (action.Fires timeout) s = unchanged s
acts next returned action.MainDone s = unchanged s
acts next returned (action.ExtraItem code bytes) s = unchanged s
acts next returned (action.Extra key) s = unchanged s

-- ---- requests
pub drains : (yielded : Bool) (next : ℕ) (whom : Handed) (s : Streams) → KeepsAllWith {R = Drain} s (drain yielded next whom s)
drains yielded next (to.Conn id) s =
    conn_answers id s {R = Drain} drain_as.Goes (connection.drain_of yielded next)
    (λ c sound. conn_mild id {A = Connection × Drain} (λ done. done.0.sender) c (connection.drain_of yielded next c) sound
    (mildly.drain_of_mild id yielded next c) (conn_drains id yielded next c sound)) (framed.drain_of_framed id yielded next)
drains yielded next (to.Child id) s =
    child_answers id s {R = Drain} drain_as.Goes (child.drain_child yielded next)
    (λ p sound. always_back {A = Child × Drain} {B = Child} (λ moves after. KeepsFrontBy Continues (to.Child id) [] p.stdin moves after.stdin) (λ done. done.0)
    (child.drain_child yielded next p)
    (child_mild id (children.Drains yielded next) p sound tt refl (λ is. refl)
    (mildly.mild_into {A = Child × Drain} {B = Child} (λ done. done.0) (child.drain_child yielded next p) (mildly.child_drain_mild id yielded next p))))
    (framed.child_drain_framed id yielded next)

pub limits_keep : (high low : Option ℤ) (whom : Handed) (s : Streams) → KeepsAllWith {R = Limited} s (limits high low whom s)
limits_keep high low (to.Conn id) s =
    conn_answers id s {R = Limited} limited.Set (connection.limits_of high low)
    (λ c sound. conn_mild id {A = Connection × Limited} (λ done. done.0.sender) c (connection.limits_of high low c) sound tt
    (conn_limits id high low c sound)) (λ c. tt)
limits_keep high low (to.Child id) s =
    child_answers id s {R = Limited} limited.Set (child.limits_child high low)
    (λ p sound. always_back {A = Child × Limited} {B = Child} (λ moves after. KeepsFrontBy Continues (to.Child id) [] p.stdin moves after.stdin)
    (λ done. done.0)
    (child.limits_child high low p) (child_mild id (children.SetsLimits high low) p sound tt refl (λ is. refl) tt)) (λ p. tt)

pub ends : (id : ℕ) (s : Streams) → KeepsAll s (write_eof id s)
ends id s =
    conn_changes id s (connection.write_eof id)
    (λ c sound. conn_mild id (λ after. after.sender) c (connection.write_eof id c) sound (mildly.eof_mild id c) (conn_ends id c sound))
    (framed.eof_framed id)

pub closes : (whom : Handed) (s : Streams) → KeepsAll s (close whom s)
closes (to.Conn id) s = conn_changes id s (connection.close id) (close_front id) (framed.close_framed id)
closes (to.Child id) s = child_changes id s (child.close_child id) (child_close_front id) (framed.child_close_framed id)

pub drops : (id : ℕ) (s : Streams) → KeepsAllBy (MayGiveUp id) s (drop_connect id s)
drops id s = conn_ends_by id s (MayGiveUp id) (connection.drop_connect id) (drop_front id) (framed.drop_framed id)

reads_by : {R : Type 0} (other : R) (from : StreamReader) (change : Receiver → Doing (Receiver × R)) → ((r : Receiver) → AllQuiet (change r)) → (s : Streams)
    → KeepsAllWith {R = R} s (elim from [
      | OfConn id ↦ asked_one its_connections other id (asked_on its_receiver change) s
      | OfChild pipe id ↦ asked_one its_children other id (asked_on (its_pipe pipe) change) s
    ])
reads_by {R} other (OfConn id) change quiet s =
    conn_answers id s {R = R} other (asked_on its_receiver change) (take_front id {R = R} change quiet) (framed.conn_asks id {R = R} change quiet)
reads_by {R} other (OfChild pipe id) change quiet s =
    child_answers id s {R = R} other (asked_on (its_pipe pipe) change) (pipe_front id {R = R} pipe change quiet)
    (framed.pipe_asks id {R = R} pipe change quiet)

pub reads : (next : ℕ) (op : ReadOp) (from : StreamReader) (s : Streams) → KeepsAllWith {R = StreamGot} s (read next op from s)
reads next op (OfConn id) s = reads_by {R = StreamGot} (got_as.Bytes []) (OfConn id) (receiver.read next op) (framed.quiet_read next op) s
reads next op (OfChild pipe id) s = reads_by {R = StreamGot} (got_as.Bytes []) (OfChild pipe id) (receiver.read next op) (framed.quiet_read next op) s

pub reads_all : (next : ℕ) (from : StreamReader) (s : Streams) → KeepsAllWith {R = AllGot} s (read_all next from s)
reads_all next (OfConn id) s =
    reads_by {R = AllGot} (record { taken = []; got = got_as.Bytes [] }) (OfConn id) (receiver.read_all next) (framed.quiet_all next) s
reads_all next (OfChild pipe id) s =
    reads_by {R = AllGot} (record { taken = []; got = got_as.Bytes [] }) (OfChild pipe id) (receiver.read_all next) (framed.quiet_all next) s

pub gives_up : (on : ℕ) (from : StreamReader) (s : Streams) → AreKept s [] (give_up_read on from s)
gives_up on (OfConn id) s = at (slice_get s.connections id) refl
  where
    at : (found : Option Connection) → slice_get s.connections id ≡ found → AreKept s [] (elim found [
      | None ↦ s
      | Some c ↦ now_conn s id (record c { receiver = receiver.give_up_read on c.receiver })
    ])
    at None e = unchanged s
    at (Some c) e =
        let after = record c { receiver = receiver.give_up_read on c.receiver } in
        kept_still Continues s (now_conn s id after) [] refl (λ whom. still_conn whom s id c after e refl) no_moves
gives_up on (OfChild pipe id) s = at (slice_get s.children id) refl
  where
    same : (pipe : Stream) (r : Receiver) (p : Child) → ((its_pipe pipe).put r p).stdin ≡ p.stdin
    same stream.Out r p = refl
    same stream.Errs r p = refl

    at : (found : Option Child) → slice_get s.children id ≡ found → AreKept s [] (elim found [
      | None ↦ s
      | Some p ↦ now_child s id ((its_pipe pipe).put (receiver.give_up_read on ((its_pipe pipe).get p)) p)
    ])
    at None e = unchanged s
    at (Some p) e =
        let r = receiver.give_up_read on ((its_pipe pipe).get p) in
        kept_still Continues s (now_child s id ((its_pipe pipe).put r p)) [] refl
        (λ whom. still_child whom s id p ((its_pipe pipe).put r p) e (same pipe r p)) no_moves

pub waits : (next id : ℕ) (s : Streams) → KeepsAllWith {R = ChildWait} s (wait next id s)
waits next id s =
    child_answers id s {R = ChildWait} (wait_as.Code (pos 0)) (child.wait_child next)
    (λ p sound. always_back {A = Child × ChildWait} {B = Child} (λ moves after. KeepsFrontBy Continues (to.Child id) [] p.stdin moves after.stdin)
    (λ done. done.0)
    (child.wait_child next p)
    (child_mild id (children.WaitsFor next) p sound tt refl (λ is. refl)
    (mildly.mild_into {A = Child × ChildWait} {B = Child} (λ done. done.0) (child.wait_child next p) (mildly.child_wait_mild id next p))))
    (framed.child_wait_framed id next)

pub kills : (id : ℕ) (s : Streams) → KeepsAll s (kill id s)
kills id s =
    child_changes id s (child.kill id) (λ p sound. child_mild id children.IsKilled p sound tt refl (λ is. refl) (mildly.kill_mild id p))
    (framed.kill_framed id)
