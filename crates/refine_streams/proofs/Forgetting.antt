-- What was written so far decides nothing of what a tree of streams does.
use Rattle.std.proofs.Common.{ℕ, zero, suc, ◌+◌, Bool, if◌then◌else◌, List, [], ◌∷◌, Option, Some, None, slice_get, slice_set, refl}
use Rattle.model_value.specs.declared.action.Action.TheVariants as action
use Rattle.model_value.specs.Action.{Action}
use Rattle.model_wire.specs.declared.call.Call.TheVariants as call
use Rattle.model_wire.specs.declared.event.Handed.{Handed}
use Rattle.model_wire.specs.declared.event.Handed.TheVariants as to
use Rattle.model_stream.specs.Answers.{is_child, is_conn, is_done}
use Rattle.model_stream.specs.declared.answers.Wrote.{Wrote}
use Rattle.model_stream.specs.declared.answers.Wrote.TheVariants as wrote
use Rattle.model_stream.specs.Children as child
use Rattle.model_stream.specs.Children.{Child, feed_more, lose_child, new_child, tell_child}
use Rattle.model_stream.specs.Connections as connection
use Rattle.model_stream.specs.Connections.{Connection, accepted, connecting, down, handler_done, lose, readable, start_read, up, writable}
use Rattle.model_stream.specs.Doing.{Doing, Ends, and_then, asks}
use Rattle.model_stream.specs.Listeners.{Server}
use Rattle.model_stream.specs.Requests.{asked_one, close, drop_connect, kill, noted, sender_of, write, write_eof, write_unnoted, written_by}
use Rattle.model_stream.specs.Senders.{Sender}
use Rattle.model_stream.specs.Streams.{Streams, Written, accept_most, act, add_connection, close_server, closed_server}
use Rattle.model_stream.specs.Streams.{connect, its_children, its_connections, launch, listen, may_connect, most_accepts, on_one}
use Rattle.model_stream.specs.Streams.{readable_server}
use Rattle.refine_streams.specs.Alike.{AreAlike, ForgetsWritten}
use Rattle.refine_streams.proofs.Alike.{alike_if, alike_then}

-- ---- one of a kind
connection_forgets : (id : ℕ) (change : Connection → Doing Connection) → ForgetsWritten (on_one its_connections id change)
connection_forgets id change s written = at (slice_get s.connections id)
  where
    at : (found : Option Connection)
        → AreAlike {A = Streams} (elim found [
          | None ↦ Ends s
          | Some one ↦ and_then (change one) (λ after. Ends (record s { connections = slice_set s.connections id after }))
        ]) (elim found [
          | None ↦ Ends (record s { written = written })
          | Some one ↦ and_then (change one) (λ after. Ends (record s { connections = slice_set s.connections id after; written = written }))
        ])
    at None = tt
    at (Some one) = alike_then (change one) _ _ (λ after. tt)

child_forgets : (id : ℕ) (change : Child → Doing Child) → ForgetsWritten (on_one its_children id change)
child_forgets id change s written = at (slice_get s.children id)
  where
    at : (found : Option Child)
        → AreAlike {A = Streams} (elim found [
          | None ↦ Ends s
          | Some one ↦ and_then (change one) (λ after. Ends (record s { children = slice_set s.children id after }))
        ]) (elim found [
          | None ↦ Ends (record s { written = written })
          | Some one ↦ and_then (change one) (λ after. Ends (record s { children = slice_set s.children id after; written = written }))
        ])
    at None = tt
    at (Some one) = alike_then (change one) _ _ (λ after. tt)

-- with an answer
asked_connection_forgets : {R : Type 0} (other : R) (id : ℕ) (change : Connection → Doing (Connection × R))
    → ForgetsWritten (asked_one its_connections other id change)
asked_connection_forgets {R} other id change s written = at (slice_get s.connections id)
  where
    at : (found : Option Connection)
        → AreAlike {A = Streams × R} (elim found [
          | None ↦ Ends (s, other)
          | Some one ↦ and_then (change one) (λ done. Ends (record s { connections = slice_set s.connections id done.0 }, done.1))
        ]) (elim found [
          | None ↦ Ends (record s { written = written }, other)
          | Some one ↦ and_then (change one)
              (λ done. Ends (record s { connections = slice_set s.connections id done.0; written = written }, done.1))
        ])
    at None = tt
    at (Some one) = alike_then (change one) _ _ (λ done. tt)

asked_child_forgets : {R : Type 0} (other : R) (id : ℕ) (change : Child → Doing (Child × R))
    → ForgetsWritten (asked_one its_children other id change)
asked_child_forgets {R} other id change s written = at (slice_get s.children id)
  where
    at : (found : Option Child)
        → AreAlike {A = Streams × R} (elim found [
          | None ↦ Ends (s, other)
          | Some one ↦ and_then (change one) (λ done. Ends (record s { children = slice_set s.children id done.0 }, done.1))
        ]) (elim found [
          | None ↦ Ends (record s { written = written }, other)
          | Some one ↦ and_then (change one) (λ done. Ends (record s { children = slice_set s.children id done.0; written = written }, done.1))
        ])
    at None = tt
    at (Some one) = alike_then (change one) _ _ (λ done. tt)

-- ---- what is opened
pub listen_forgets : (port handler : ℕ) → ForgetsWritten (listen port handler)
listen_forgets port handler s written = (refl, λ came. alike_if (is_done came) _ _ _ _ tt tt)

pub connect_forgets : (port next : ℕ) → ForgetsWritten (connect port next)
connect_forgets port next s written = (refl, λ came. alike_if (is_conn came) _ _ _ _ (refl, (refl, tt)) tt)

pub launch_forgets : (words : List (List ℕ)) (next : ℕ) → ForgetsWritten (launch words next)
launch_forgets words next s written = (refl, λ came. alike_if (is_child came) _ _ _ _ (refl, tt) tt)

pub close_server_forgets : (id : ℕ) → ForgetsWritten (close_server id)
close_server_forgets id s written = at (slice_get s.servers id)
  where
    at : (found : Option Server)
        → AreAlike {A = Streams} (elim found [
          | None ↦ Ends s
          | Some server ↦ if server.is_open
              then asks (call.CloseServer id) (Ends (record s { servers = slice_set s.servers id (closed_server server) }))
              else Ends s
        ]) (elim found [
          | None ↦ Ends (record s { written = written })
          | Some server ↦ if server.is_open
              then asks (call.CloseServer id) (Ends (record s { servers = slice_set s.servers id (closed_server server); written = written }))
              else Ends (record s { written = written })
        ])
    at None = tt
    at (Some server) = alike_if server.is_open _ _ _ _ (refl, λ answer. tt) tt

-- ---- requests on what is open
unnoted_forgets : (whom : Handed) (piece : List ℕ) → ForgetsWritten (write_unnoted whom piece)
unnoted_forgets (to.Conn id) piece = asked_connection_forgets wrote.Done id (connection.write_to id piece)
unnoted_forgets (to.Child id) piece = asked_child_forgets wrote.Done id (child.write_child id piece)

-- whatever is noted
noted_forgets : (whom : Handed) (piece note : List ℕ) (s : Streams) (written : List Written)
    → AreAlike (write_unnoted whom piece (noted whom note s)) (write_unnoted whom piece (noted whom note (record s { written = written })))
noted_forgets whom piece [] s written = unnoted_forgets whom piece s written
noted_forgets whom piece (byte ∷ bytes) s written =
    unnoted_forgets whom piece (noted whom (byte ∷ bytes) s) (noted whom (byte ∷ bytes) (record s { written = written })).written

sent_forgets : (whom : Handed) (piece : List ℕ) (s : Streams) (written : List Written) (found : Option Sender)
    → AreAlike {A = Streams × Wrote} (elim found [
      | None ↦ Ends (s, wrote.Done)
      | Some sender ↦ write_unnoted whom piece (noted whom (written_by whom piece sender) s)
    ]) (elim found [
      | None ↦ Ends (record s { written = written }, wrote.Done)
      | Some sender ↦ write_unnoted whom piece (noted whom (written_by whom piece sender) (record s { written = written }))
    ])
sent_forgets whom piece s written None = tt
sent_forgets whom piece s written (Some sender) = noted_forgets whom piece (written_by whom piece sender) s written

pub write_forgets : (whom : Handed) (piece : List ℕ) → ForgetsWritten (write whom piece)
write_forgets (to.Conn id) piece s written = sent_forgets (to.Conn id) piece s written (sender_of (to.Conn id) s)
write_forgets (to.Child id) piece s written = sent_forgets (to.Child id) piece s written (sender_of (to.Child id) s)

pub write_eof_forgets : (id : ℕ) → ForgetsWritten (write_eof id)
write_eof_forgets id = connection_forgets id (connection.write_eof id)

pub close_forgets : (whom : Handed) → ForgetsWritten (close whom)
close_forgets (to.Conn id) = connection_forgets id (connection.close id)
close_forgets (to.Child id) = child_forgets id (child.close_child id)

pub drop_connect_forgets : (id : ℕ) → ForgetsWritten (drop_connect id)
drop_connect_forgets id = connection_forgets id (connection.drop_connect id)

pub kill_forgets : (id : ℕ) → ForgetsWritten (kill id)
kill_forgets id = child_forgets id (child.kill id)

-- ---- callbacks
accepts_forget : (more server handler next : ℕ) → ForgetsWritten (accept_most more server handler next)
accepts_forget zero server handler next s written = tt
accepts_forget (suc more) server handler next s written =
    alike_if (may_connect s) _ _ _ _ (
      refl,
      λ came.
          alike_if (is_conn came) _ _ _ _
          (refl, (refl, (refl, accepts_forget more server handler (next + 1) (add_connection (accepted next handler) s) written))) tt,
    ) tt

server_forgets : (next id : ℕ) → ForgetsWritten (readable_server next id)
server_forgets next id s written = at (slice_get s.servers id)
  where
    at : (found : Option Server)
        → AreAlike {A = Streams} (elim found [
          | None ↦ Ends s
          | Some server ↦ if server.is_open then accept_most most_accepts id server.handler next s else Ends s
        ]) (elim found [
          | None ↦ Ends (record s { written = written })
          | Some server ↦ if server.is_open
              then accept_most most_accepts id server.handler next (record s { written = written })
              else Ends (record s { written = written })
        ])
    at None = tt
    at (Some server) = alike_if server.is_open _ _ _ _ (accepts_forget most_accepts id server.handler next s written) tt

pub act_forgets : (next : ℕ) (returned : Bool) (it : Action) → ForgetsWritten (act next returned it)
act_forgets next returned (action.ReadableServer id) = server_forgets next id
act_forgets next returned (action.StartRead id) = connection_forgets id (λ c. Ends (start_read c))
act_forgets next returned (action.Readable id) = connection_forgets id (readable id)
act_forgets next returned (action.Writable id) = connection_forgets id (writable id)
act_forgets next returned (action.Up id) = connection_forgets id (up id)
act_forgets next returned (action.Down id) = connection_forgets id (down id)
act_forgets next returned (action.Lost id broken) = connection_forgets id (lose id broken)
act_forgets next returned (action.HandlerDone id task) = connection_forgets id (handler_done id returned)
act_forgets next returned (action.WritableChild id) = child_forgets id (feed_more id)
act_forgets next returned (action.ChildItem id item) = child_forgets id (tell_child id item)
act_forgets next returned (action.LostChild id broken) = child_forgets id (lose_child id broken)
act_forgets next returned (action.Made id) = λ s written. tt
act_forgets next returned (action.Step task) = λ s written. tt
act_forgets next returned (action.StepInCycle task cycle) = λ s written. tt
act_forgets next returned (action.Wakeup task) = λ s written. tt
act_forgets next returned (action.SleepDone task future) = λ s written. tt
act_forgets next returned (action.GroupDone group task) = λ s written. tt
act_forgets next returned (action.Fires timeout) = λ s written. tt
act_forgets next returned action.MainDone = λ s written. tt
act_forgets next returned (action.ExtraItem code bytes) = λ s written. tt
act_forgets next returned (action.Extra key) = λ s written. tt
