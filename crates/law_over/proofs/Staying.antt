-- What is gone of all streams stays gone, however a tree ends.
use Rattle.std.proofs.Common.{◌≡◌, ℕ, zero, suc, ◌+◌, ℤ, Bool, true, false, cond, not, ◌&&◌, List, [], ◌∷◌, ◌++◌, Option, Some, None, slice_get, slice_set}
use Rattle.std.proofs.Common.{refl, subst}
use Rattle.model_value.specs.declared.action.Action.TheVariants as action
use Rattle.model_value.specs.Action.{Action}
use Rattle.model_wire.specs.declared.call.Call.TheVariants as call
use Rattle.model_wire.specs.declared.event.Handed.{Handed}
use Rattle.model_wire.specs.declared.event.Handed.TheVariants as to
use Rattle.model_stream.specs.declared.answers.Drain.TheVariants as drain_as
use Rattle.model_stream.specs.declared.answers.StreamGot.TheVariants as got_as
use Rattle.model_stream.specs.declared.answers.Wrote.{Wrote}
use Rattle.model_stream.specs.declared.answers.Wrote.TheVariants as wrote
use Rattle.model_stream.specs.declared.put.Limited.TheVariants as limited
use Rattle.model_stream.specs.Answers.{is_child, is_conn, is_done}
use Rattle.model_stream.specs.Children as child
use Rattle.model_stream.specs.Children.{Child, its_pipe, new_child}
use Rattle.model_stream.specs.Connections as connection
use Rattle.model_stream.specs.Connections.{Connection, accepted, connecting, its_receiver}
use Rattle.model_stream.specs.Doing.{Doing, Ends, and_then, asked_on, asks}
use Rattle.model_stream.specs.Listeners.{Server}
use Rattle.model_stream.specs.Reading.{ReadOp}
use Rattle.model_stream.specs.Receivers as receiver
use Rattle.model_stream.specs.Receivers.{AllGot, StreamGot}
use Rattle.model_stream.specs.Requests as requests
use Rattle.model_stream.specs.Requests.{StreamReader, OfChild, OfConn, asked_one, noted, sender_of, write_unnoted, written_by}
use Rattle.model_stream.specs.Senders.{Sender}
use Rattle.model_stream.specs.Streams as streams
use Rattle.model_stream.specs.Streams.{Streams, Opened, OpenedServer, OpenedConn, OpenedChild, its_children, its_connections, may_connect, on_one}
use Rattle.model_stream.specs.Watching.{entry_if, watched, watched_child, watched_connection, watched_server}
use Rattle.model_wire.specs.declared.watch.Watch.TheVariants as watch
use Rattle.law_over.specs.AllEnds.{AllEnds}
use Rattle.law_over.specs.Gone.{StaysGone, StaysGoneWith, holds_at, is_closed, is_gone, is_over, is_over_child}
use Rattle.law_over.proofs.Along.{ends_any, ends_if, ends_into, ends_map}
use Rattle.law_over.proofs.OverChildren as children
use Rattle.law_over.proofs.OverChildren.{OverChild, OverChildFirst}
use Rattle.law_over.proofs.OverConnections as connections
use Rattle.law_over.proofs.OverConnections.{Over, OverFirst}

abbrev GoneAfter : Opened → Streams → Type 0
GoneAfter one s = is_gone one s ≡ true

abbrev GoneFirst : {R : Type 0} → Opened → Streams × R → Type 0
GoneFirst one done = is_gone one done.0 ≡ true

-- ---- one of a list changes, or one is added
module _ {X : Type 0} (test : X → Bool) where
  holds_placed : (xs : List X) (id at : ℕ) (before after : X) → slice_get xs id ≡ Some before → (test before ≡ true → test after ≡ true)
      → holds_at test (slice_get xs at) ≡ true → holds_at test (slice_get (slice_set xs id after) at) ≡ true
  holds_placed [] id at before after is keeps h = h
  holds_placed (x ∷ xs) zero zero before after is keeps h = keeps (let same : x ≡ before = cc in subst (λ it. test it ≡ true) same h)
  holds_placed (x ∷ xs) zero (suc at) before after is keeps h = h
  holds_placed (x ∷ xs) (suc id) zero before after is keeps h = h
  holds_placed (x ∷ xs) (suc id) (suc at) before after is keeps h = holds_placed xs id at before after is keeps h

  holds_pushed : (xs : List X) (one : X) (at : ℕ) → holds_at test (slice_get xs at) ≡ true → holds_at test (slice_get (xs ++ one ∷ []) at) ≡ true
  holds_pushed [] one at h = absurd (let bad : ⊥ = cc in bad)
  holds_pushed (x ∷ xs) one zero h = h
  holds_pushed (x ∷ xs) one (suc at) h = holds_pushed xs one at h

  -- what keeps it of one of which it holds
  if_holds : {A : Type 0} (its : A → X) (x : X) (doing : Doing A) → (test x ≡ true → AllEnds (λ done. test (its done) ≡ true) doing)
      → AllEnds (λ done. test x ≡ true → test (its done) ≡ true) doing
  if_holds {A} its x doing keeps = by (test x) refl
    where
      by : (b : Bool) → test x ≡ b → AllEnds (λ done. test x ≡ true → test (its done) ≡ true) doing
      by true e = ends_map (λ done. test (its done) ≡ true) (λ done. test x ≡ true → test (its done) ≡ true) doing (λ done is _. is) (keeps e)
      by false e = ends_any (λ done. test x ≡ true → test (its done) ≡ true) doing (λ done other. absurd (let bad : ⊥ = cc in bad))

-- ---- a connection changes
module _ (id : ℕ) (one : Opened) (s : Streams) (h : is_gone one s ≡ true) where
  gone_connection : (one : Opened) → is_gone one s ≡ true → (c after : Connection) → slice_get s.connections id ≡ Some c
      → (is_over c ≡ true → is_over after ≡ true) → is_gone one (record s { connections = slice_set s.connections id after }) ≡ true
  gone_connection (OpenedServer at) h c after is keeps = h
  gone_connection (OpenedConn at) h c after is keeps = holds_placed is_over s.connections id at c after is keeps h
  gone_connection (OpenedChild at) h c after is keeps = h

  gone_child : (one : Opened) → is_gone one s ≡ true → (p after : Child) → slice_get s.children id ≡ Some p
      → (is_over_child p ≡ true → is_over_child after ≡ true) → is_gone one (record s { children = slice_set s.children id after }) ≡ true
  gone_child (OpenedServer at) h p after is keeps = h
  gone_child (OpenedConn at) h p after is keeps = h
  gone_child (OpenedChild at) h p after is keeps = holds_placed is_over_child s.children id at p after is keeps h

  on_connection : (change : Connection → Doing Connection) → ((c : Connection) → is_over c ≡ true → AllEnds Over (change c))
      → AllEnds (GoneAfter one) (on_one its_connections id change s)
  on_connection change keeps = by (slice_get s.connections id) refl
    where
      by : (it : Option Connection) → slice_get s.connections id ≡ it → AllEnds (GoneAfter one) (elim it [
        | None ↦ Ends s
        | Some c ↦ and_then (change c) (λ after. Ends (record s { connections = slice_set s.connections id after }))
      ])
      by None is = h
      by (Some c) is =
          ends_into (GoneAfter one) (λ after. record s { connections = slice_set s.connections id after }) (change c)
          (ends_map (λ after. is_over c ≡ true → is_over after ≡ true)
          (λ after. is_gone one (record s { connections = slice_set s.connections id after }) ≡ true) (change c)
          (λ after. gone_connection one h c after is) (if_holds is_over (λ after. after) c (change c) (keeps c)))

  asked_connection : {R : Type 0} (other : R) (change : Connection → Doing (Connection × R))
      → ((c : Connection) → is_over c ≡ true → AllEnds (OverFirst {R = R}) (change c))
      → AllEnds (GoneFirst {R = R} one) (asked_one its_connections other id change s)
  asked_connection {R} other change keeps = by (slice_get s.connections id) refl
    where
      by : (it : Option Connection) → slice_get s.connections id ≡ it → AllEnds {A = Streams × R} (GoneFirst one) (elim it [
        | None ↦ Ends (s, other)
        | Some c ↦ and_then (change c) (λ done. Ends (record s { connections = slice_set s.connections id done.0 }, done.1))
      ])
      by None is = h
      by (Some c) is =
          ends_into {A = Connection × R} {B = Streams × R} (GoneFirst one)
          (λ done. (record s { connections = slice_set s.connections id done.0 }, done.1)) (change c)
          (ends_map (λ done. is_over c ≡ true → is_over done.0 ≡ true)
          (λ done. is_gone one (record s { connections = slice_set s.connections id done.0 }) ≡ true) (change c)
          (λ done. gone_connection one h c done.0 is) (if_holds is_over (λ (done : Connection × R). done.0) c (change c) (keeps c)))

  on_child : (change : Child → Doing Child) → ((p : Child) → is_over_child p ≡ true → AllEnds OverChild (change p))
      → AllEnds (GoneAfter one) (on_one its_children id change s)
  on_child change keeps = by (slice_get s.children id) refl
    where
      by : (it : Option Child) → slice_get s.children id ≡ it → AllEnds (GoneAfter one) (elim it [
        | None ↦ Ends s
        | Some p ↦ and_then (change p) (λ after. Ends (record s { children = slice_set s.children id after }))
      ])
      by None is = h
      by (Some p) is =
          ends_into (GoneAfter one) (λ after. record s { children = slice_set s.children id after }) (change p)
          (ends_map (λ after. is_over_child p ≡ true → is_over_child after ≡ true)
          (λ after. is_gone one (record s { children = slice_set s.children id after }) ≡ true) (change p)
          (λ after. gone_child one h p after is) (if_holds is_over_child (λ after. after) p (change p) (keeps p)))

  asked_child : {R : Type 0} (other : R) (change : Child → Doing (Child × R))
      → ((p : Child) → is_over_child p ≡ true → AllEnds (OverChildFirst {R = R}) (change p))
      → AllEnds (GoneFirst {R = R} one) (asked_one its_children other id change s)
  asked_child {R} other change keeps = by (slice_get s.children id) refl
    where
      by : (it : Option Child) → slice_get s.children id ≡ it → AllEnds {A = Streams × R} (GoneFirst one) (elim it [
        | None ↦ Ends (s, other)
        | Some p ↦ and_then (change p) (λ done. Ends (record s { children = slice_set s.children id done.0 }, done.1))
      ])
      by None is = h
      by (Some p) is =
          ends_into {A = Child × R} {B = Streams × R} (GoneFirst one)
          (λ done. (record s { children = slice_set s.children id done.0 }, done.1)) (change p)
          (ends_map (λ done. is_over_child p ≡ true → is_over_child done.0 ≡ true)
          (λ done. is_gone one (record s { children = slice_set s.children id done.0 }) ≡ true) (change p)
          (λ done. gone_child one h p done.0 is) (if_holds is_over_child (λ (done : Child × R). done.0) p (change p) (keeps p)))

-- ---- one more
with_connection : (c : Connection) (one : Opened) (s : Streams) → is_gone one s ≡ true → is_gone one (streams.add_connection c s) ≡ true
with_connection c (OpenedServer at) s h = h
with_connection c (OpenedConn at) s h = holds_pushed is_over s.connections c at h
with_connection c (OpenedChild at) s h = h

with_server : (server : Server) (one : Opened) (s : Streams) → is_gone one s ≡ true → is_gone one (streams.add_server server s) ≡ true
with_server server (OpenedServer at) s h = holds_pushed is_closed s.servers server at h
with_server server (OpenedConn at) s h = h
with_server server (OpenedChild at) s h = h

with_child : (p : Child) (one : Opened) (s : Streams) → is_gone one s ≡ true → is_gone one (streams.add_child p s) ≡ true
with_child p (OpenedServer at) s h = h
with_child p (OpenedConn at) s h = h
with_child p (OpenedChild at) s h = holds_pushed is_over_child s.children p at h

pub gone_listens : (port handler : ℕ) → StaysGoneWith (streams.listen port handler)
gone_listens port handler one s h =
    λ came.
    ends_if (GoneFirst {R = Option ℕ} one) (is_done came) _ (Ends (s, None)) (λ _. with_server (record { handler = handler; is_open = true }) one s h)
    (λ _. h)

pub gone_connects : (port next : ℕ) → StaysGoneWith (streams.connect port next)
gone_connects port next one s h =
    λ came.
    ends_if (GoneFirst {R = Option (ℕ × ℕ)} one) (is_conn came) _ (Ends (s, None)) (λ _. with_connection (connecting next (next + 1)) one s h) (λ _. h)

pub gone_launches : (words : List (List ℕ)) (next : ℕ) → StaysGoneWith (streams.launch words next)
gone_launches words next one s h =
    λ came. ends_if (GoneFirst {R = Option ℕ} one) (is_child came) _ (Ends (s, None)) (λ _. with_child (new_child next) one s h) (λ _. h)

gone_accepts : (more server handler next : ℕ) → StaysGone (streams.accept_most more server handler next)
gone_accepts zero server handler next one s h = h
gone_accepts (suc more) server handler next one s h =
    ends_if (GoneAfter one) (may_connect s) _ (Ends s)
    (λ _ came.
    ends_if (GoneAfter one) (is_conn came) _ (Ends s)
    (λ _. gone_accepts more server handler (next + 1) one (streams.add_connection (accepted next handler) s)
    (with_connection (accepted next handler) one s h))
    (λ _. h))
    (λ _. h)

gone_readable_server : (next id : ℕ) → StaysGone (streams.readable_server next id)
gone_readable_server next id one s h = by (slice_get s.servers id)
  where
    by : (it : Option Server) → AllEnds (GoneAfter one) (elim it [
      | None ↦ Ends s
      | Some server ↦ cond server.is_open (streams.accept_most streams.most_accepts id server.handler next s) (Ends s)
    ])
    by None = h
    by (Some server) =
        ends_if (GoneAfter one) server.is_open _ (Ends s) (λ _. gone_accepts streams.most_accepts id server.handler next one s h) (λ _. h)

pub gone_closes_server : (id : ℕ) → StaysGone (streams.close_server id)
gone_closes_server id one s h = by (slice_get s.servers id) refl
  where
    closed : (server : Server) (one : Opened) → is_gone one s ≡ true → slice_get s.servers id ≡ Some server
        → is_gone one (record s { servers = slice_set s.servers id (streams.closed_server server) }) ≡ true
    closed server (OpenedServer at) h is = holds_placed is_closed s.servers id at server (streams.closed_server server) is (λ _. refl) h
    closed server (OpenedConn at) h is = h
    closed server (OpenedChild at) h is = h

    by : (it : Option Server) → slice_get s.servers id ≡ it → AllEnds (GoneAfter one) (elim it [
      | None ↦ Ends s
      | Some server ↦ cond server.is_open (asks (call.CloseServer id) (Ends (record s { servers = slice_set s.servers id (streams.closed_server server) })))
          (Ends s)
    ])
    by None is = h
    by (Some server) is = ends_if (GoneAfter one) server.is_open _ (Ends s) (λ _ came. closed server one h is) (λ _. h)

-- ---- callbacks
pub gone_acts : (next : ℕ) (returned : Bool) (it : Action) → StaysGone (streams.act next returned it)
gone_acts next returned (action.ReadableServer id) one s h = gone_readable_server next id one s h
gone_acts next returned (action.StartRead id) one s h =
    on_connection id one s h (λ c. Ends (connection.start_read c)) (λ c e. connections.over_starts id c e)
gone_acts next returned (action.Readable id) one s h = on_connection id one s h (connection.readable id) (connections.over_reads id)
gone_acts next returned (action.Writable id) one s h = on_connection id one s h (connection.writable id) (connections.over_writes id)
gone_acts next returned (action.Up id) one s h = on_connection id one s h (connection.up id) (connections.over_up id)
gone_acts next returned (action.Down id) one s h = on_connection id one s h (connection.down id) (connections.over_down id)
gone_acts next returned (action.Lost id broken) one s h = on_connection id one s h (connection.lose id broken) (connections.over_loses id broken)
gone_acts next returned (action.HandlerDone id task) one s h =
    on_connection id one s h (connection.handler_done id returned) (λ c e. connections.over_handled id c e returned)
gone_acts next returned (action.WritableChild id) one s h = on_child id one s h (child.feed_more id) (children.over_child_feeds id)
gone_acts next returned (action.ChildItem id item) one s h =
    on_child id one s h (child.tell_child id item) (λ p e. children.over_child_told id p e item)
gone_acts next returned (action.LostChild id broken) one s h =
    on_child id one s h (child.lose_child id broken) (λ p e. children.over_child_loses id p e broken)
gone_acts next returned (action.Made id) one s h = h
gone_acts next returned (action.Step task) one s h = h
gone_acts next returned (action.StepInCycle task cycle) one s h = h
gone_acts next returned (action.Wakeup task) one s h = h
gone_acts next returned (action.SleepDone task future) one s h = h
gone_acts next returned (action.GroupDone group task) one s h = h
gone_acts next returned (action.Fires timeout) one s h = h
gone_acts next returned action.MainDone one s h = h
gone_acts next returned (action.ExtraItem code bytes) one s h = h
gone_acts next returned (action.Extra key) one s h = h

-- ---- requests
gone_unnoted : (whom : Handed) (piece : List ℕ) → StaysGoneWith (write_unnoted whom piece)
gone_unnoted (to.Conn id) piece one s h =
    asked_connection id one s h wrote.Done (connection.write_to id piece) (λ c e. connections.over_written id c e piece)
gone_unnoted (to.Child id) piece one s h =
    asked_child id one s h wrote.Done (child.write_child id piece) (λ p e. children.over_child_written id p e piece)

gone_noted : (whom : Handed) (piece : List ℕ) (one : Opened) (s : Streams) → is_gone one s ≡ true → is_gone one (noted whom piece s) ≡ true
gone_noted whom [] one s h = h
gone_noted whom (byte ∷ bytes) (OpenedServer at) s h = h
gone_noted whom (byte ∷ bytes) (OpenedConn at) s h = h
gone_noted whom (byte ∷ bytes) (OpenedChild at) s h = h

pub gone_writes : (whom : Handed) (piece : List ℕ) → StaysGoneWith (requests.write whom piece)
gone_writes whom piece one s h = by (sender_of whom s)
  where
    by : (it : Option Sender) → AllEnds {A = Streams × Wrote} (GoneFirst one) (elim it [
      | None ↦ Ends (s, wrote.Done)
      | Some sender ↦ write_unnoted whom piece (noted whom (written_by whom piece sender) s)
    ])
    by None = h
    by (Some sender) =
        gone_unnoted whom piece one (noted whom (written_by whom piece sender) s) (gone_noted whom (written_by whom piece sender) one s h)

pub gone_drains : (yielded : Bool) (next : ℕ) (whom : Handed) → StaysGoneWith (requests.drain yielded next whom)
gone_drains yielded next (to.Conn id) one s h =
    asked_connection id one s h drain_as.Goes (connection.drain_of yielded next) (λ c e. connections.over_drains id c e yielded next)
gone_drains yielded next (to.Child id) one s h =
    asked_child id one s h drain_as.Goes (child.drain_child yielded next) (λ p e. children.over_child_drains id p e yielded next)

pub gone_limits : (high low : Option ℤ) (whom : Handed) → StaysGoneWith (requests.limits high low whom)
gone_limits high low (to.Conn id) one s h =
    asked_connection id one s h limited.Set (connection.limits_of high low) (λ c e. connections.over_limits id c e high low)
gone_limits high low (to.Child id) one s h =
    asked_child id one s h limited.Set (child.limits_child high low) (λ p e. children.over_child_limits id p e high low)

pub gone_writes_eof : (id : ℕ) → StaysGone (requests.write_eof id)
gone_writes_eof id one s h = on_connection id one s h (connection.write_eof id) (connections.over_ends id)

pub gone_closes : (whom : Handed) → StaysGone (requests.close whom)
gone_closes (to.Conn id) one s h = on_connection id one s h (connection.close id) (connections.over_closes id)
gone_closes (to.Child id) one s h = on_child id one s h (child.close_child id) (children.over_child_closes id)

pub gone_drops_connect : (id : ℕ) → StaysGone (requests.drop_connect id)
gone_drops_connect id one s h = on_connection id one s h (connection.drop_connect id) (connections.over_dropped id)

pub gone_reads : (next : ℕ) (op : ReadOp) (from : StreamReader) → StaysGoneWith (requests.read next op from)
gone_reads next op (OfConn id) one s h =
    asked_connection id one s h (got_as.Bytes []) (asked_on its_receiver (receiver.read next op))
    (λ c e. connections.over_asked id c e (receiver.read next op))
gone_reads next op (OfChild pipe id) one s h =
    asked_child id one s h (got_as.Bytes []) (asked_on (its_pipe pipe) (receiver.read next op))
    (λ p e. children.over_child_read id p e next op pipe)

pub gone_reads_all : (next : ℕ) (from : StreamReader) → StaysGoneWith (requests.read_all next from)
gone_reads_all next (OfConn id) one s h =
    asked_connection id one s h (record { taken = []; got = got_as.Bytes [] }) (asked_on its_receiver (receiver.read_all next))
    (λ c e. connections.over_asked id c e (receiver.read_all next))
gone_reads_all next (OfChild pipe id) one s h =
    asked_child id one s h (record { taken = []; got = got_as.Bytes [] }) (asked_on (its_pipe pipe) (receiver.read_all next))
    (λ p e. children.over_child_read_all id p e next pipe)

pub gone_gives_up : (on : ℕ) (from : StreamReader) (one : Opened) (s : Streams) → is_gone one s ≡ true
    → is_gone one (requests.give_up_read on from s) ≡ true
gone_gives_up on (OfConn id) one s h = by (slice_get s.connections id) refl
  where
    by : (it : Option Connection) → slice_get s.connections id ≡ it → is_gone one (elim it [
      | None ↦ s
      | Some c ↦ record s { connections = slice_set s.connections id (its_receiver.put (receiver.give_up_read on c.receiver) c) }
    ]) ≡ true
    by None is = h
    by (Some c) is = gone_connection id one s h one h c (its_receiver.put (receiver.give_up_read on c.receiver) c) is (λ e. e)
gone_gives_up on (OfChild pipe id) one s h = by (slice_get s.children id) refl
  where
    by : (it : Option Child) → slice_get s.children id ≡ it → is_gone one (elim it [
      | None ↦ s
      | Some p ↦ record s { children = slice_set s.children id ((its_pipe pipe).put (receiver.give_up_read on ((its_pipe pipe).get p)) p) }
    ]) ≡ true
    by None is = h
    by (Some p) is =
        gone_child id one s h one h p ((its_pipe pipe).put (receiver.give_up_read on ((its_pipe pipe).get p)) p) is
        (λ e. children.over_child_given id p e on pipe)

pub gone_waits : (next id : ℕ) → StaysGoneWith (requests.wait next id)
gone_waits next id one s h =
    asked_child id one s h _ (child.wait_child next) (λ p e. children.over_child_waits id p e next)

pub gone_kills : (id : ℕ) → StaysGone (requests.kill id)
gone_kills id one s h = on_child id one s h (child.kill id) (children.over_child_killed id)

-- ---- and is watched no more
pub gone_unwatched : (s : Streams) (one : Opened) → is_gone one s ≡ true → watched s one ≡ []
gone_unwatched s (OpenedServer id) h = by (slice_get s.servers id) h
  where
    by : (it : Option Server) → holds_at is_closed it ≡ true → watched_server (may_connect s) id it ≡ []
    by None h = absurd (let bad : ⊥ = cc in bad)
    by (Some server) h = closed server.is_open (may_connect s) h
      where
        closed : (listens room : Bool) → not listens ≡ true → entry_if (listens && room) (watch.Server id) ≡ []
        closed false room e = refl
        closed true room e = absurd (let bad : ⊥ = cc in bad)
gone_unwatched s (OpenedConn id) h = by (slice_get s.connections id) h
  where
    by : (it : Option Connection) → holds_at is_over it ≡ true → watched_connection id it ≡ []
    by None h = absurd (let bad : ⊥ = cc in bad)
    by (Some c) h = connections.over_unwatched id c h
gone_unwatched s (OpenedChild id) h = by (slice_get s.children id) h
  where
    by : (it : Option Child) → holds_at is_over_child it ≡ true → watched_child id it ≡ []
    by None h = absurd (let bad : ⊥ = cc in bad)
    by (Some p) h = children.over_child_unwatched id p h
