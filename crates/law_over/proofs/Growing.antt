-- What was opened stays, however a tree ends.
use Rattle.std.proofs.Common.{◌≡◌, ◌∙◌, ℕ, zero, suc, ◌+◌, ℤ, pos, Bool, cond, List, [], ◌∷◌, ◌++◌, Option, Some, None, length, slice_get, slice_set}
use Rattle.std.proofs.Common.{append-nil, refl, sym, ap}
use Rattle.std.proofs.lemmas.List.{append_assoc}
use Rattle.model_pump.specs.declared.stream.Stream.{Stream}
use Rattle.model_value.specs.declared.action.Action.TheVariants as action
use Rattle.model_value.specs.Action.{Action}
use Rattle.model_wire.specs.declared.call.Call.TheVariants as call
use Rattle.model_wire.specs.declared.event.Handed.{Handed}
use Rattle.model_wire.specs.declared.event.Handed.TheVariants as to
use Rattle.model_stream.specs.declared.answers.ChildWait.TheVariants as wait_as
use Rattle.model_stream.specs.declared.answers.Drain.TheVariants as drain_as
use Rattle.model_stream.specs.declared.answers.StreamGot.TheVariants as got_as
use Rattle.model_stream.specs.declared.answers.Wrote.{Wrote}
use Rattle.model_stream.specs.declared.answers.Wrote.TheVariants as wrote
use Rattle.model_stream.specs.declared.put.Limited.TheVariants as limited
use Rattle.model_stream.specs.Answers.{is_child, is_conn, is_done}
use Rattle.model_stream.specs.Children as child
use Rattle.model_stream.specs.Children.{Child, its_pipe}
use Rattle.model_stream.specs.Connections as connection
use Rattle.model_stream.specs.Connections.{Connection, accepted, its_receiver}
use Rattle.model_stream.specs.Doing.{Doing, Ends, Part, and_then, asked_on, asks}
use Rattle.model_stream.specs.Listeners.{Server}
use Rattle.model_stream.specs.Reading.{ReadOp}
use Rattle.model_stream.specs.Receivers as receiver
use Rattle.model_stream.specs.Requests as requests
use Rattle.model_stream.specs.Requests.{StreamReader, OfChild, OfConn, asked_one, noted, sender_of, write_unnoted, written_by}
use Rattle.model_stream.specs.Senders.{Sender}
use Rattle.model_stream.specs.Streams as streams
use Rattle.model_stream.specs.Streams.{Streams, Opened, its_children, its_connections, may_connect, on_one}
use Rattle.law_over.specs.AllEnds.{AllEnds}
use Rattle.law_over.specs.Grown.{Grown, Grows, GrowsWith}
use Rattle.law_over.proofs.Along.{ends_any, ends_if, ends_into, ends_map}

abbrev GrownFirst : {R : Type 0} → Streams → Streams × R → Type 0
GrownFirst s done = Grown s done.0

grown_same : (s after : Streams) → after.opened ≡ s.opened → Grown s after
grown_same s after is = ([], is ∙ sym (append-nil s.opened))

grown_one : (s after : Streams) (one : Opened) → after.opened ≡ s.opened ++ one ∷ [] → Grown s after
grown_one s after one is = (one ∷ [], is)

grown_both : (s between after : Streams) → Grown s between → Grown between after → Grown s after
grown_both s between after first second = (
  first.0 ++ second.0,
  second.1 ∙ ap (λ (xs : List Opened). xs ++ second.0) first.1 ∙ append_assoc s.opened first.0 second.0,
)

-- ---- one of a kind changes
module _ {A : Type 0} (kind : Part Streams (List A)) (stays : (those : List A) (s : Streams) → (kind.put those s).opened ≡ s.opened) (id : ℕ) where
  on_grows : (change : A → Doing A) → Grows (on_one kind id change)
  on_grows change s = by (slice_get (kind.get s) id)
    where
      by : (it : Option A) → AllEnds (Grown s) (elim it [
        | None ↦ Ends s
        | Some one ↦ and_then (change one) (λ after. Ends (kind.put (slice_set (kind.get s) id after) s))
      ])
      by None = grown_same s s refl
      by (Some one) =
          ends_into (Grown s) (λ after. kind.put (slice_set (kind.get s) id after) s) (change one)
          (ends_any (λ after. Grown s (kind.put (slice_set (kind.get s) id after) s)) (change one)
          (λ after. grown_same s (kind.put (slice_set (kind.get s) id after) s) (stays (slice_set (kind.get s) id after) s)))

  asked_grows : {R : Type 0} (other : R) (change : A → Doing (A × R)) → GrowsWith (asked_one kind other id change)
  asked_grows {R} other change s = by (slice_get (kind.get s) id)
    where
      by : (it : Option A) → AllEnds {A = Streams × R} (GrownFirst s) (elim it [
        | None ↦ Ends (s, other)
        | Some one ↦ and_then (change one) (λ done. Ends (kind.put (slice_set (kind.get s) id done.0) s, done.1))
      ])
      by None = grown_same s s refl
      by (Some one) =
          ends_into {A = A × R} {B = Streams × R} (GrownFirst s) (λ done. (kind.put (slice_set (kind.get s) id done.0) s, done.1)) (change one)
          (ends_any (λ done. Grown s (kind.put (slice_set (kind.get s) id done.0) s)) (change one)
          (λ done. grown_same s (kind.put (slice_set (kind.get s) id done.0) s) (stays (slice_set (kind.get s) id done.0) s)))

-- ---- one more
pub grows_listening : (port handler : ℕ) → GrowsWith (streams.listen port handler)
grows_listening port handler s =
    λ came.
    ends_if (GrownFirst {R = Option ℕ} s) (is_done came) _ (Ends (s, None))
    (λ _. (streams.OpenedServer (length s.servers) ∷ [], refl)) (λ _. grown_same s s refl)

pub grows_connecting : (port next : ℕ) → GrowsWith (streams.connect port next)
grows_connecting port next s =
    λ came.
    ends_if (GrownFirst {R = Option (ℕ × ℕ)} s) (is_conn came) _ (Ends (s, None))
    (λ _. (streams.OpenedConn (length s.connections) ∷ [], refl)) (λ _. grown_same s s refl)

pub grows_launching : (words : List (List ℕ)) (next : ℕ) → GrowsWith (streams.launch words next)
grows_launching words next s =
    λ came.
    ends_if (GrownFirst {R = Option ℕ} s) (is_child came) _ (Ends (s, None))
    (λ _. (streams.OpenedChild (length s.children) ∷ [], refl)) (λ _. grown_same s s refl)

grows_accepting : (more server handler next : ℕ) → Grows (streams.accept_most more server handler next)
grows_accepting zero server handler next s = grown_same s s refl
grows_accepting (suc more) server handler next s =
    ends_if (Grown s) (may_connect s) _ (Ends s)
    (λ _ came.
    ends_if (Grown s) (is_conn came) _ (Ends s)
    (λ _.
    let with_one = streams.add_connection (accepted next handler) s in
    ends_map (Grown with_one) (Grown s) (streams.accept_most more server handler (next + 1) with_one)
    (λ after. grown_both s with_one after (streams.OpenedConn (length s.connections) ∷ [], refl))
    (grows_accepting more server handler (next + 1) with_one))
    (λ _. grown_same s s refl))
    (λ _. grown_same s s refl)

grows_readable : (next id : ℕ) → Grows (streams.readable_server next id)
grows_readable next id s = by (slice_get s.servers id)
  where
    by : (it : Option Server) → AllEnds (Grown s) (elim it [
      | None ↦ Ends s
      | Some server ↦ cond server.is_open (streams.accept_most streams.most_accepts id server.handler next s) (Ends s)
    ])
    by None = grown_same s s refl
    by (Some server) =
        ends_if (Grown s) server.is_open _ (Ends s) (λ _. grows_accepting streams.most_accepts id server.handler next s) (λ _. grown_same s s refl)

pub grows_closing : (id : ℕ) → Grows (streams.close_server id)
grows_closing id s = by (slice_get s.servers id)
  where
    by : (it : Option Server) → AllEnds (Grown s) (elim it [
      | None ↦ Ends s
      | Some server ↦ cond server.is_open (asks (call.CloseServer id) (Ends (record s { servers = slice_set s.servers id (streams.closed_server server) })))
          (Ends s)
    ])
    by None = grown_same s s refl
    by (Some server) =
        ends_if (Grown s) server.is_open _ (Ends s)
        (λ _ came. grown_same s (record s { servers = slice_set s.servers id (streams.closed_server server) }) refl) (λ _. grown_same s s refl)

-- ---- callbacks
on_connection : (id : ℕ) (change : Connection → Doing Connection) → Grows (on_one its_connections id change)
on_connection id change = on_grows its_connections (λ those s. refl) id change

on_child : (id : ℕ) (change : Child → Doing Child) → Grows (on_one its_children id change)
on_child id change = on_grows its_children (λ those s. refl) id change

pub grows_acting : (next : ℕ) (returned : Bool) (it : Action) → Grows (streams.act next returned it)
grows_acting next returned (action.ReadableServer id) s = grows_readable next id s
grows_acting next returned (action.StartRead id) s = on_connection id (λ c. Ends (connection.start_read c)) s
grows_acting next returned (action.Readable id) s = on_connection id (connection.readable id) s
grows_acting next returned (action.Writable id) s = on_connection id (connection.writable id) s
grows_acting next returned (action.Up id) s = on_connection id (connection.up id) s
grows_acting next returned (action.Down id) s = on_connection id (connection.down id) s
grows_acting next returned (action.Lost id broken) s = on_connection id (connection.lose id broken) s
grows_acting next returned (action.HandlerDone id task) s = on_connection id (connection.handler_done id returned) s
grows_acting next returned (action.WritableChild id) s = on_child id (child.feed_more id) s
grows_acting next returned (action.ChildItem id item) s = on_child id (child.tell_child id item) s
grows_acting next returned (action.LostChild id broken) s = on_child id (child.lose_child id broken) s
grows_acting next returned (action.Made id) s = grown_same s s refl
grows_acting next returned (action.Step task) s = grown_same s s refl
grows_acting next returned (action.StepInCycle task cycle) s = grown_same s s refl
grows_acting next returned (action.Wakeup task) s = grown_same s s refl
grows_acting next returned (action.SleepDone task future) s = grown_same s s refl
grows_acting next returned (action.GroupDone group task) s = grown_same s s refl
grows_acting next returned (action.Fires timeout) s = grown_same s s refl
grows_acting next returned action.MainDone s = grown_same s s refl
grows_acting next returned (action.ExtraItem code bytes) s = grown_same s s refl
grows_acting next returned (action.Extra key) s = grown_same s s refl

-- ---- requests
asked_connection : {R : Type 0} (id : ℕ) (other : R) (change : Connection → Doing (Connection × R)) → GrowsWith (asked_one its_connections other id change)
asked_connection id other change = asked_grows its_connections (λ those s. refl) id other change

asked_child : {R : Type 0} (id : ℕ) (other : R) (change : Child → Doing (Child × R)) → GrowsWith (asked_one its_children other id change)
asked_child id other change = asked_grows its_children (λ those s. refl) id other change

grows_unnoted : (whom : Handed) (piece : List ℕ) → GrowsWith (write_unnoted whom piece)
grows_unnoted (to.Conn id) piece s = asked_connection id wrote.Done (connection.write_to id piece) s
grows_unnoted (to.Child id) piece s = asked_child id wrote.Done (child.write_child id piece) s

opened_noted : (whom : Handed) (piece : List ℕ) (s : Streams) → (noted whom piece s).opened ≡ s.opened
opened_noted whom [] s = refl
opened_noted whom (byte ∷ bytes) s = refl

pub grows_writing : (whom : Handed) (piece : List ℕ) → GrowsWith (requests.write whom piece)
grows_writing whom piece s = by (sender_of whom s)
  where
    by : (it : Option Sender) → AllEnds {A = Streams × Wrote} (GrownFirst s) (elim it [
      | None ↦ Ends (s, wrote.Done)
      | Some sender ↦ write_unnoted whom piece (noted whom (written_by whom piece sender) s)
    ])
    by None = grown_same s s refl
    by (Some sender) =
        let between = noted whom (written_by whom piece sender) s in
        ends_map {A = Streams × Wrote} (GrownFirst between) (GrownFirst s) (write_unnoted whom piece between)
        (λ done. grown_both s between done.0 (grown_same s between (opened_noted whom (written_by whom piece sender) s)))
        (grows_unnoted whom piece between)

pub grows_draining : (yielded : Bool) (next : ℕ) (whom : Handed) → GrowsWith (requests.drain yielded next whom)
grows_draining yielded next (to.Conn id) s = asked_connection id drain_as.Goes (connection.drain_of yielded next) s
grows_draining yielded next (to.Child id) s = asked_child id drain_as.Goes (child.drain_child yielded next) s

pub grows_limiting : (high low : Option ℤ) (whom : Handed) → GrowsWith (requests.limits high low whom)
grows_limiting high low (to.Conn id) s = asked_connection id limited.Set (connection.limits_of high low) s
grows_limiting high low (to.Child id) s = asked_child id limited.Set (child.limits_child high low) s

pub grows_ending : (id : ℕ) → Grows (requests.write_eof id)
grows_ending id s = on_connection id (connection.write_eof id) s

pub grows_closing_one : (whom : Handed) → Grows (requests.close whom)
grows_closing_one (to.Conn id) s = on_connection id (connection.close id) s
grows_closing_one (to.Child id) s = on_child id (child.close_child id) s

pub grows_dropping : (id : ℕ) → Grows (requests.drop_connect id)
grows_dropping id s = on_connection id (connection.drop_connect id) s

pub grows_reading : (next : ℕ) (op : ReadOp) (from : StreamReader) → GrowsWith (requests.read next op from)
grows_reading next op (OfConn id) s = asked_connection id (got_as.Bytes []) (asked_on its_receiver (receiver.read next op)) s
grows_reading next op (OfChild pipe id) s = asked_child id (got_as.Bytes []) (asked_on (its_pipe pipe) (receiver.read next op)) s

pub grows_reading_all : (next : ℕ) (from : StreamReader) → GrowsWith (requests.read_all next from)
grows_reading_all next (OfConn id) s =
    asked_connection id (record { taken = []; got = got_as.Bytes [] }) (asked_on its_receiver (receiver.read_all next)) s
grows_reading_all next (OfChild pipe id) s =
    asked_child id (record { taken = []; got = got_as.Bytes [] }) (asked_on (its_pipe pipe) (receiver.read_all next)) s

abbrev given : (on : ℕ) → Stream → Child → Child
given on pipe p = (its_pipe pipe).put (receiver.give_up_read on ((its_pipe pipe).get p)) p

pub grows_giving_up : (on : ℕ) (from : StreamReader) (s : Streams) → Grown s (requests.give_up_read on from s)
grows_giving_up on (OfConn id) s = by (slice_get s.connections id)
  where
    by : (it : Option Connection) → Grown s (elim it [
      | None ↦ s
      | Some c ↦ record s { connections = slice_set s.connections id (its_receiver.put (receiver.give_up_read on c.receiver) c) }
    ])
    by None = grown_same s s refl
    by (Some c) = grown_same s (record s { connections = slice_set s.connections id (its_receiver.put (receiver.give_up_read on c.receiver) c) }) refl
grows_giving_up on (OfChild pipe id) s = by (slice_get s.children id)
  where
    by : (it : Option Child) → Grown s (elim it [ None ↦ s | Some p ↦ record s { children = slice_set s.children id (given on pipe p) } ])
    by None = grown_same s s refl
    by (Some p) = grown_same s (record s { children = slice_set s.children id (given on pipe p) }) refl

pub grows_waiting : (next id : ℕ) → GrowsWith (requests.wait next id)
grows_waiting next id s = asked_child id (wait_as.Code (pos 0)) (child.wait_child next) s

pub grows_killing : (id : ℕ) → Grows (requests.kill id)
grows_killing id s = on_child id (child.kill id) s
