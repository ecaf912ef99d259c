-- No callback and no request changes how many of each kind can be numbered.
use Rattle.std.proofs.Common.{◌≡◌, ℕ, zero, suc, ◌+◌, ℤ, pos, Bool, true, false, if◌then◌else◌, List, [], ◌∷◌, Option, Some, None, Ok}
use Rattle.std.proofs.Common.{length, slice_get, slice_set, refl, subst}
use Rattle.model_value.specs.declared.action.Action.TheVariants as action
use Rattle.model_value.specs.Action.{Action}
use Rattle.model_wire.specs.Call.{Answer}
use Rattle.model_wire.specs.declared.call.Call.TheVariants as call
use Rattle.model_wire.specs.declared.event.Handed.{Handed}
use Rattle.model_wire.specs.declared.event.Handed.TheVariants as to
use Rattle.model_stream.specs.declared.answers.ChildWait.TheVariants as wait_as
use Rattle.model_stream.specs.declared.answers.Drain.TheVariants as drain_as
use Rattle.model_stream.specs.declared.answers.StreamGot.TheVariants as got_as
use Rattle.model_stream.specs.declared.answers.Wrote.{Wrote}
use Rattle.model_stream.specs.declared.answers.Wrote.TheVariants as wrote
use Rattle.model_stream.specs.declared.put.Limited.TheVariants as limited
use Rattle.model_stream.specs.Answers.{is_child, is_conn, is_done}
use Rattle.model_stream.specs.Children as child
use Rattle.model_stream.specs.Children.{Child, its_pipe, new_child}
use Rattle.model_stream.specs.Connections as connection
use Rattle.model_stream.specs.Connections.{Connection, accepted, connecting, its_receiver}
use Rattle.model_stream.specs.Doing.{Change, Doing, Ends, Changes, Asks, MakeFuture, Part, and_then, asked_on, asks}
use Rattle.model_stream.specs.Listeners.{Server}
use Rattle.model_stream.specs.Reading.{ReadOp}
use Rattle.model_stream.specs.Receivers as receiver
use Rattle.model_stream.specs.Requests as requests
use Rattle.model_stream.specs.Requests.{OfChild, OfConn, StreamReader, asked_one, give_up_read, noted, sender_of, write_unnoted, written_by}
use Rattle.model_stream.specs.Senders.{Sender}
use Rattle.model_stream.specs.Streams.{Streams, accept, accept_most, act, add_child, add_connection, add_server, close_server, closed_server}
use Rattle.model_stream.specs.Streams.{connect, its_children}
use Rattle.model_stream.specs.Streams.{its_connections, launch, listen, may_connect, most_accepts, on_one, readable_server}
use Rattle.aio_wire.specs.Outside.{Outside}
use Rattle.aio_exchange.specs.Exchanged.{Last, All, Met, Starved}
use Rattle.aio_exchange.specs.Follows.{EndsBy, Follows, Reach}
use Rattle.aio_exchange.specs.Tells.{Tells}
use Rattle.aio_exchange.specs.Ways.{Move, Did, Heard, Leads}

-- ---- what holds of whatever a tree ends with
abbrev pub EndsIn : {A : Type 0} → (A → Type 0) → Doing A → Type 0
EndsIn P (Ends result) = P result
EndsIn P (Changes change rest) = EndsIn P rest
EndsIn P (Asks call rest) = (answer : Answer) → EndsIn P (rest answer)

pub ends_then : {A B : Type 0} (P : B → Type 0) (doing : Doing A) (next : A → Doing B) → ((it : A) → EndsIn P (next it))
    → EndsIn P (and_then doing next)
ends_then P (Ends result) next h = h result
ends_then P (Changes change rest) next h = ends_then P rest next h
ends_then P (Asks call rest) next h = λ answer. ends_then P (rest answer) next h

leads_in : {A : Type 0} (P : A → Type 0) (way : List Move) (doing : Doing A) (result : A) → Leads doing way (Ends result)
    → EndsIn P doing → P result
leads_in P [] doing result leads h = subst (EndsIn P) leads h
leads_in P (Did it ∷ way) (Changes change rest) result leads h = leads_in P way rest result leads.1 h
leads_in P (Heard asked answer ∷ way) (Asks call rest) result leads h = leads_in P way (rest answer) result leads.1 (h answer)
leads_in P (Did it ∷ way) (Ends end) result leads h = absurd leads
leads_in P (Did it ∷ way) (Asks call rest) result leads h = absurd leads
leads_in P (Heard asked answer ∷ way) (Ends end) result leads h = absurd leads
leads_in P (Heard asked answer ∷ way) (Changes change rest) result leads h = absurd leads

module _ {A V : Type 0} (P : A → Type 0) (change : Change → V → V) (doing : Doing A) (h : EndsIn P doing) where
  pub tells_in : (old new : V) (result : A) → Tells change doing old new result → P result
  tells_in old new result told = leads_in P told.way doing result told.leads h

  pub follows_in : {W : Type 0} (o : Outside W) (old new : Reach V W) (result : A) → Follows o change doing old new (Ok result) → P result
  follows_in o old new result f = at f.last f.left f.leads f.ends
    where
      at : (last : Last) (left : Doing A) → Leads doing f.way left → EndsBy last left new.port.events.answers (Ok result) → P result
      at All left leads ends = leads_in P f.way doing result (subst (Leads doing f.way) ends leads) h
      at (Met call said) left leads ends = absurd ends
      at Starved left leads ends = absurd ends

-- ---- as many can be numbered as before
abbrev pub AsMany : (before after : Streams) → Type 0
AsMany before after = after.most ≡ before.most

abbrev pub AsManyWith : {R : Type 0} → (before : Streams) → Streams × R → Type 0
AsManyWith before done = AsMany before done.0

-- of one of a kind
module _ {A : Type 0} (kind : Part Streams (List A)) (keeps : (these : List A) (s : Streams) → AsMany s (kind.put these s)) where
  pub on_one_keeps : (id : ℕ) (change : A → Doing A) (s : Streams) → EndsIn (AsMany s) (on_one kind id change s)
  on_one_keeps id change s = at (slice_get (kind.get s) id)
    where
      at : (it : Option A) → EndsIn (AsMany s) (elim it [
        | None ↦ Ends s
        | Some one ↦ and_then (change one) (λ after. Ends (kind.put (slice_set (kind.get s) id after) s))
      ])
      at None = refl
      at (Some one) =
          ends_then (AsMany s) (change one) (λ after. Ends (kind.put (slice_set (kind.get s) id after) s))
          (λ after. keeps (slice_set (kind.get s) id after) s)

  pub asked_one_keeps : {R : Type 0} (other : R) (id : ℕ) (change : A → Doing (A × R)) (s : Streams)
      → EndsIn (AsManyWith s) (asked_one kind other id change s)
  asked_one_keeps {R} other id change s = at (slice_get (kind.get s) id)
    where
      at : (it : Option A) → EndsIn (AsManyWith {R = R} s) (elim it [
        | None ↦ Ends (s, other)
        | Some one ↦ and_then (change one) (λ done. Ends (kind.put (slice_set (kind.get s) id done.0) s, done.1))
      ])
      at None = refl
      at (Some one) =
          ends_then (AsManyWith {R = R} s) (change one) (λ done. Ends (kind.put (slice_set (kind.get s) id done.0) s, done.1))
          (λ done. keeps (slice_set (kind.get s) id done.0) s)

on_conn : (id : ℕ) (change : Connection → Doing Connection) (s : Streams) → EndsIn (AsMany s) (on_one its_connections id change s)
on_conn = on_one_keeps its_connections (λ these s. refl)

on_child : (id : ℕ) (change : Child → Doing Child) (s : Streams) → EndsIn (AsMany s) (on_one its_children id change s)
on_child = on_one_keeps its_children (λ these s. refl)

asked_conn : {R : Type 0} (other : R) (id : ℕ) (change : Connection → Doing (Connection × R)) (s : Streams)
    → EndsIn (AsManyWith s) (asked_one its_connections other id change s)
asked_conn = asked_one_keeps its_connections (λ these s. refl)

asked_child : {R : Type 0} (other : R) (id : ℕ) (change : Child → Doing (Child × R)) (s : Streams)
    → EndsIn (AsManyWith s) (asked_one its_children other id change s)
asked_child = asked_one_keeps its_children (λ these s. refl)

-- ---- requests
module _ (piece : List ℕ) where
  unnoted_keeps : (whom : Handed) (s : Streams) → EndsIn (AsManyWith {R = Wrote} s) (write_unnoted whom piece s)
  unnoted_keeps (to.Conn id) s = asked_conn wrote.Done id (connection.write_to id piece) s
  unnoted_keeps (to.Child id) s = asked_child wrote.Done id (child.write_child id piece) s

  noted_keeps : (whom : Handed) (bytes : List ℕ) (s : Streams) → EndsIn (AsManyWith {R = Wrote} s) (write_unnoted whom piece (noted whom bytes s))
  noted_keeps whom [] s = unnoted_keeps whom s
  noted_keeps whom (byte ∷ bytes) s = unnoted_keeps whom (noted whom (byte ∷ bytes) s)

  pub write_keeps : (whom : Handed) (s : Streams) → EndsIn (AsManyWith {R = Wrote} s) (requests.write whom piece s)
  write_keeps whom s = at (sender_of whom s)
    where
      at : (it : Option Sender) → EndsIn (AsManyWith {R = Wrote} s) (elim it [
        | None ↦ Ends (s, wrote.Done)
        | Some sender ↦ write_unnoted whom piece (noted whom (written_by whom piece sender) s)
      ])
      at None = refl
      at (Some sender) = noted_keeps whom (written_by whom piece sender) s

pub drain_keeps : (yielded : Bool) (next : ℕ) (whom : Handed) (s : Streams) → EndsIn (AsManyWith s) (requests.drain yielded next whom s)
drain_keeps yielded next (to.Conn id) s = asked_conn drain_as.Goes id (connection.drain_of yielded next) s
drain_keeps yielded next (to.Child id) s = asked_child drain_as.Goes id (child.drain_child yielded next) s

pub limits_keep : (high low : Option ℤ) (whom : Handed) (s : Streams) → EndsIn (AsManyWith s) (requests.limits high low whom s)
limits_keep high low (to.Conn id) s = asked_conn limited.Set id (connection.limits_of high low) s
limits_keep high low (to.Child id) s = asked_child limited.Set id (child.limits_child high low) s

pub write_eof_keeps : (id : ℕ) (s : Streams) → EndsIn (AsMany s) (requests.write_eof id s)
write_eof_keeps id s = on_conn id (connection.write_eof id) s

pub close_keeps : (whom : Handed) (s : Streams) → EndsIn (AsMany s) (requests.close whom s)
close_keeps (to.Conn id) s = on_conn id (connection.close id) s
close_keeps (to.Child id) s = on_child id (child.close_child id) s

pub drop_connect_keeps : (id : ℕ) (s : Streams) → EndsIn (AsMany s) (requests.drop_connect id s)
drop_connect_keeps id s = on_conn id (connection.drop_connect id) s

pub read_keeps : (next : ℕ) (op : ReadOp) (from : StreamReader) (s : Streams) → EndsIn (AsManyWith s) (requests.read next op from s)
read_keeps next op (OfConn id) s = asked_conn (got_as.Bytes []) id (asked_on its_receiver (receiver.read next op)) s
read_keeps next op (OfChild pipe id) s = asked_child (got_as.Bytes []) id (asked_on (its_pipe pipe) (receiver.read next op)) s

pub read_all_keeps : (next : ℕ) (from : StreamReader) (s : Streams) → EndsIn (AsManyWith s) (requests.read_all next from s)
read_all_keeps next (OfConn id) s =
    asked_conn (record { taken = []; got = got_as.Bytes [] }) id (asked_on its_receiver (receiver.read_all next)) s
read_all_keeps next (OfChild pipe id) s =
    asked_child (record { taken = []; got = got_as.Bytes [] }) id (asked_on (its_pipe pipe) (receiver.read_all next)) s

pub give_up_keeps : (on : ℕ) (from : StreamReader) (s : Streams) → AsMany s (give_up_read on from s)
give_up_keeps on (OfConn id) s = at (slice_get s.connections id)
  where
    at : (it : Option Connection) → AsMany s (elim it [
      | None ↦ s
      | Some c ↦ record s { connections = slice_set s.connections id (its_receiver.put (receiver.give_up_read on c.receiver) c) }
    ])
    at None = refl
    at (Some c) = refl
give_up_keeps on (OfChild pipe id) s = at (slice_get s.children id)
  where
    at : (it : Option Child) → AsMany s (elim it [
      | None ↦ s
      | Some p ↦ record s { children = slice_set s.children id ((its_pipe pipe).put (receiver.give_up_read on ((its_pipe pipe).get p)) p) }
    ])
    at None = refl
    at (Some p) = refl

pub wait_keeps : (next id : ℕ) (s : Streams) → EndsIn (AsManyWith s) (requests.wait next id s)
wait_keeps next id s = asked_child (wait_as.Code (pos 0)) id (child.wait_child next) s

pub kill_keeps : (id : ℕ) (s : Streams) → EndsIn (AsMany s) (requests.kill id s)
kill_keeps id s = on_child id (child.kill id) s

-- ---- what opens one, and what closes a listener
pub listen_keeps : (port handler : ℕ) (s : Streams) → EndsIn (AsManyWith {R = Option ℕ} s) (listen port handler s)
listen_keeps port handler s = λ came. at (is_done came)
  where
    at : (opens : Bool) → EndsIn (AsManyWith {R = Option ℕ} s)
        (if opens then Ends (add_server (record { handler = handler; is_open = true }) s, Some (length s.servers)) else Ends (s, None))
    at true = refl
    at false = refl

pub connect_keeps : (port next : ℕ) (s : Streams) → EndsIn (AsManyWith {R = Option (ℕ × ℕ)} s) (connect port next s)
connect_keeps port next s = λ came. at (is_conn came)
  where
    at : (comes : Bool) → EndsIn (AsManyWith {R = Option (ℕ × ℕ)} s)
        (if comes
        then Changes MakeFuture (Changes MakeFuture
        (Ends (add_connection (connecting next (next + 1)) s, Some (length s.connections, next + 1))))
        else Ends (s, None))
    at true = refl
    at false = refl

pub launch_keeps : (words : List (List ℕ)) (next : ℕ) (s : Streams) → EndsIn (AsManyWith {R = Option ℕ} s) (launch words next s)
launch_keeps words next s = λ came. at (is_child came)
  where
    at : (starts : Bool) → EndsIn (AsManyWith {R = Option ℕ} s)
        (if starts then Changes MakeFuture (Ends (add_child (new_child next) s, Some (length s.children))) else Ends (s, None))
    at true = refl
    at false = refl

pub close_server_keeps : (id : ℕ) (s : Streams) → EndsIn (AsMany s) (close_server id s)
close_server_keeps id s = at (slice_get s.servers id)
  where
    closes : (server : Server) (listens : Bool) → EndsIn (AsMany s)
        (if listens then asks (call.CloseServer id) (Ends (record s { servers = slice_set s.servers id (closed_server server) })) else Ends s)
    closes server true = λ answer. refl
    closes server false = refl

    at : (it : Option Server) → EndsIn (AsMany s) (elim it [
      | None ↦ Ends s
      | Some server ↦ if server.is_open
          then asks (call.CloseServer id) (Ends (record s { servers = slice_set s.servers id (closed_server server) }))
          else Ends s
    ])
    at None = refl
    at (Some server) = closes server server.is_open

-- ---- callbacks
module _ (server handler : ℕ) where
  accepts_more : (more next : ℕ) (s : Streams)
      → EndsIn (AsMany s) (accept_most more server handler (next + 1) (add_connection (accepted next handler) s)) → (may : Bool)
      → EndsIn (AsMany s) (if may
      then Asks (call.Accept server) (λ came.
      if is_conn came then and_then (accept handler next s) (accept_most more server handler (next + 1)) else Ends s)
      else Ends s)
  accepts_more more next s goes true = λ came. on (is_conn came)
    where
      on : (comes : Bool) → EndsIn (AsMany s)
          (if comes then and_then (accept handler next s) (accept_most more server handler (next + 1)) else Ends s)
      on true = goes
      on false = refl
  accepts_more more next s goes false = refl

  accepts_keep : (more next : ℕ) (s : Streams) → EndsIn (AsMany s) (accept_most more server handler next s)
  accepts_keep zero next s = refl
  accepts_keep (suc more) next s =
      accepts_more more next s (accepts_keep more (next + 1) (add_connection (accepted next handler) s)) (may_connect s)

readable_server_keeps : (next id : ℕ) (s : Streams) → EndsIn (AsMany s) (readable_server next id s)
readable_server_keeps next id s = at (slice_get s.servers id)
  where
    by : (server : Server) (listens : Bool) → EndsIn (AsMany s) (if listens then accept_most most_accepts id server.handler next s else Ends s)
    by server true = accepts_keep id server.handler most_accepts next s
    by server false = refl

    at : (it : Option Server) → EndsIn (AsMany s) (elim it [
      | None ↦ Ends s
      | Some server ↦ if server.is_open then accept_most most_accepts id server.handler next s else Ends s
    ])
    at None = refl
    at (Some server) = by server server.is_open

pub act_keeps : (next : ℕ) (returned : Bool) (it : Action) (s : Streams) → EndsIn (AsMany s) (act next returned it s)
act_keeps next returned (action.ReadableServer id) s = readable_server_keeps next id s
act_keeps next returned (action.StartRead id) s = on_conn id (λ c. Ends (connection.start_read c)) s
act_keeps next returned (action.Readable id) s = on_conn id (connection.readable id) s
act_keeps next returned (action.Writable id) s = on_conn id (connection.writable id) s
act_keeps next returned (action.Up id) s = on_conn id (connection.up id) s
act_keeps next returned (action.Down id) s = on_conn id (connection.down id) s
act_keeps next returned (action.Lost id broken) s = on_conn id (connection.lose id broken) s
act_keeps next returned (action.HandlerDone id task) s = on_conn id (connection.handler_done id returned) s
act_keeps next returned (action.WritableChild id) s = on_child id (child.feed_more id) s
act_keeps next returned (action.ChildItem id item) s = on_child id (child.tell_child id item) s
act_keeps next returned (action.LostChild id broken) s = on_child id (child.lose_child id broken) s
act_keeps next returned (action.Made id) s = refl
act_keeps next returned (action.Step task) s = refl
act_keeps next returned (action.StepInCycle task cycle) s = refl
act_keeps next returned (action.Wakeup task) s = refl
act_keeps next returned (action.SleepDone task future) s = refl
act_keeps next returned (action.GroupDone group task) s = refl
act_keeps next returned (action.Fires timeout) s = refl
act_keeps next returned action.MainDone s = refl
act_keeps next returned (action.ExtraItem code bytes) s = refl
act_keeps next returned (action.Extra key) s = refl
