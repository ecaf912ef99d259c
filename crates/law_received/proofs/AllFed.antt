-- Whatever is done among all that is open, told of each reader.
use Rattle.std.proofs.Common.{◌≡◌, ◌⊎◌, inl, inr, ℕ, zero, suc, ◌+◌, ℤ, pos, Bool, true, false, cond, eqb, List, [], ◌∷◌, Option, Some, None, length}
use Rattle.std.proofs.Common.{slice_get, slice_set, refl, ap, ◌∙◌}
use Rattle.std.proofs.lemmas.Bool.{cases_eq, eqb-true}
use Rattle.model_pump.specs.declared.stream.Stream.{Stream}
use Rattle.model_pump.specs.declared.stream.Stream.TheVariants as stream
use Rattle.model_value.specs.declared.action.Action.TheVariants as action
use Rattle.model_value.specs.declared.action.ChildItem.{ChildItem}
use Rattle.model_value.specs.declared.action.ChildItem.TheVariants as news
use Rattle.model_value.specs.Action.{Action}
use Rattle.model_wire.specs.declared.event.Handed.{Handed}
use Rattle.model_wire.specs.declared.event.Handed.TheVariants as to
use Rattle.model_wire.specs.declared.call.Call.TheVariants as call
use Rattle.model_stream.specs.declared.answers.ChildWait.{ChildWait}
use Rattle.model_stream.specs.declared.answers.ChildWait.TheVariants as wait_as
use Rattle.model_stream.specs.declared.answers.Drain.TheVariants as drain_as
use Rattle.model_stream.specs.declared.answers.Wrote.{Wrote}
use Rattle.model_stream.specs.declared.answers.Wrote.TheVariants as wrote
use Rattle.model_stream.specs.declared.put.Limited.{Limited}
use Rattle.model_stream.specs.declared.put.Limited.TheVariants as limited
use Rattle.model_stream.specs.Answers.{is_child, is_conn, is_done}
use Rattle.model_stream.specs.Children as child
use Rattle.model_stream.specs.Children.{Child, new_child, tell_child}
use Rattle.model_stream.specs.Connections as connection
use Rattle.model_stream.specs.Connections.{Connection, accepted, connecting}
use Rattle.model_stream.specs.Doing.{Doing, Ends, Changes, MakeFuture, and_then, asks}
use Rattle.model_stream.specs.Listeners.{Server}
use Rattle.model_stream.specs.Receivers.{AllGot, StreamGot}
use Rattle.model_stream.specs.Requests.{StreamReader, OfConn, OfChild, asked_one, drain, limits, write_eof, close, noted, written_by, write_unnoted, write}
use Rattle.model_stream.specs.Requests.{drop_connect, read, read_all, give_up_read, sender_of, wait, kill}
use Rattle.model_stream.specs.Senders.{Drain, Sender, is_closing}
use Rattle.model_stream.specs.Streams.{Streams, act, accept, accept_most, add_connection, add_child, add_server, close_server, closed_server, connect}
use Rattle.model_stream.specs.Streams.{its_children, its_connections, launch, listen, may_connect, most_accepts, on_one}
use Rattle.law_stream.specs.Ways.{Move, Always, told_by}
use Rattle.law_stream.proofs.Along.{always_into, always_map}
use Rattle.law_stream.specs.ReceiverOrder.{went}
use Rattle.law_walk.specs.Walks.{AreTrees}
use Rattle.law_received.specs.Calm.{Apart, FailedConn, SameChild, SameConn}
use Rattle.law_received.specs.Readers.{bytes_if, held_of, may_hear, pipe_hears, received, told_to}
use Rattle.law_received.proofs.Apart.{BringNone, apart_always, apart_if, apart_map, apart_then, bring_nothing}
use Rattle.law_received.proofs.Own as own
use Rattle.law_received.proofs.Own.{OwnFed}
use Rattle.law_received.specs.Feeding.{AreFed, AreFedBy, AreOnlyFed, News, fed_if, news_in}
use Rattle.law_received.proofs.Fed.{PipesTold, bytes_none, child_only, conn_only, number_of, only_fed, tell_apart}
use Rattle.law_received.proofs.Still.{Still, apart_fed, now_child, now_conn, still_alike, still_both, still_child, still_conn}
use Rattle.law_received.proofs.Still.{still_fed, still_launched, still_opened, still_same}
use Rattle.law_received.proofs.AllLooks.{LooksAt, gives_up, reads, reads_all}

-- ---- where nothing is received
module _ (id : ℕ) (s : Streams) where
  conn_changes : (change : Connection → Doing Connection) → ((c : Connection) → Apart (SameConn c) (change c))
      → Apart (Still s) (on_one its_connections id change s)
  conn_changes change h = at (slice_get s.connections id) refl
    where
      at : (found : Option Connection) → slice_get s.connections id ≡ found → Apart (Still s) (elim found [
        | None ↦ Ends s
        | Some one ↦ and_then (change one) (λ after. Ends (now_conn s id after))
      ])
      at None e = still_same s
      at (Some c) e =
          apart_then (SameConn c) (Still s) (change c) (λ after. Ends (now_conn s id after)) (h c) (λ after same. still_conn s id c after e same)

  child_changes : (change : Child → Doing Child) → ((p : Child) → Apart (SameChild p) (change p))
      → Apart (Still s) (on_one its_children id change s)
  child_changes change h = at (slice_get s.children id) refl
    where
      at : (found : Option Child) → slice_get s.children id ≡ found → Apart (Still s) (elim found [
        | None ↦ Ends s
        | Some one ↦ and_then (change one) (λ after. Ends (now_child s id after))
      ])
      at None e = still_same s
      at (Some p) e =
          apart_then (SameChild p) (Still s) (change p) (λ after. Ends (now_child s id after)) (h p) (λ after same. still_child s id p after e same)

  module _ {R : Type 0} (other : R) where
    conn_answers : (change : Connection → Doing (Connection × R)) → ((c : Connection) → Apart (λ (done : Connection × R). SameConn c done.0) (change c))
        → Apart (λ (done : Streams × R). Still s done.0) (asked_one its_connections other id change s)
    conn_answers change h = at (slice_get s.connections id) refl
      where
        at : (found : Option Connection) → slice_get s.connections id ≡ found → Apart (λ (done : Streams × R). Still s done.0) (elim found [
          | None ↦ Ends (s, other)
          | Some one ↦ and_then (change one) (λ done. Ends (now_conn s id done.0, done.1))
        ])
        at None e = still_same s
        at (Some c) e =
            apart_then {A = Connection × R} {B = Streams × R} (λ done. SameConn c done.0) (λ done. Still s done.0) (change c)
            (λ done. Ends (now_conn s id done.0, done.1)) (h c) (λ done same. still_conn s id c done.0 e same)

    child_answers : (change : Child → Doing (Child × R)) → ((p : Child) → Apart (λ (done : Child × R). SameChild p done.0) (change p))
        → Apart (λ (done : Streams × R). Still s done.0) (asked_one its_children other id change s)
    child_answers change h = at (slice_get s.children id) refl
      where
        at : (found : Option Child) → slice_get s.children id ≡ found → Apart (λ (done : Streams × R). Still s done.0) (elim found [
          | None ↦ Ends (s, other)
          | Some one ↦ and_then (change one) (λ done. Ends (now_child s id done.0, done.1))
        ])
        at None e = still_same s
        at (Some p) e =
            apart_then {A = Child × R} {B = Streams × R} (λ done. SameChild p done.0) (λ done. Still s done.0) (change p)
            (λ done. Ends (now_child s id done.0, done.1)) (h p) (λ done same. still_child s id p done.0 e same)

-- ---- what opens one
listens_apart : (port handler : ℕ) (s : Streams) → Apart (λ (done : Streams × Option ℕ). Still s done.0) (listen port handler s)
listens_apart port handler s = (
  refl,
  λ came.
      apart_if (λ (done : Streams × Option ℕ). Still s done.0) (is_done came)
      (Ends (add_server (record { handler = handler; is_open = true }) s, Some (length s.servers))) (Ends (s, None))
      (still_alike s (add_server (record { handler = handler; is_open = true }) s) refl refl) (still_same s),
)

closes_server_apart : (id : ℕ) (s : Streams) → Apart (Still s) (close_server id s)
closes_server_apart id s = at (slice_get s.servers id)
  where
    at : (found : Option Server) → Apart (Still s) (elim found [
      | None ↦ Ends s
      | Some server ↦ cond server.is_open
          (asks (call.CloseServer id) (Ends (record s { servers = slice_set s.servers id (closed_server server) }))) (Ends s)
    ])
    at None = still_same s
    at (Some server) =
        let after = record s { servers = slice_set s.servers id (closed_server server) } in
        apart_if (Still s) server.is_open (asks (call.CloseServer id) (Ends after)) (Ends s)
        (refl, λ came. still_alike s after refl refl) (still_same s)

connects_apart : (port next : ℕ) (s : Streams) → Apart (λ (done : Streams × Option (ℕ × ℕ)). Still s done.0) (connect port next s)
connects_apart port next s = (
  refl,
  λ came.
      apart_if (λ (done : Streams × Option (ℕ × ℕ)). Still s done.0) (is_conn came)
      (Changes MakeFuture (Changes MakeFuture
      (Ends (add_connection (connecting next (next + 1)) s, Some (length s.connections, next + 1))))) (Ends (s, None))
      (still_opened s (connecting next (next + 1)) refl) (still_same s),
)

launches_apart : (words : List (List ℕ)) (next : ℕ) (s : Streams) → Apart (λ (done : Streams × Option ℕ). Still s done.0) (launch words next s)
launches_apart words next s = (
  refl,
  λ came.
      apart_if (λ (done : Streams × Option ℕ). Still s done.0) (is_child came)
      (Changes MakeFuture (Ends (add_child (new_child next) s, Some (length s.children)))) (Ends (s, None))
      (still_launched s next) (still_same s),
)

accepts_apart : (more server handler next : ℕ) (first s : Streams) → Still first s → Apart (Still first) (accept_most more server handler next s)
accepts_apart zero server handler next first s still = still
accepts_apart (suc more) server handler next first s still =
    apart_if (Still first) (may_connect s) _ (Ends s) (
      refl,
      λ came.
          apart_if (Still first) (is_conn came) (and_then (accept handler next s) (accept_most more server handler (next + 1))) (Ends s) (
            refl,
            (
              refl,
              accepts_apart more server handler (next + 1) first (add_connection (accepted next handler) s)
                  (still_both first s (add_connection (accepted next handler) s) still (still_opened s (accepted next handler) refl)),
            ),
          ) still,
    ) still

server_apart : (next id : ℕ) (s : Streams) (found : Option Server) → Apart (Still s) (elim found [
  | None ↦ Ends s
  | Some server ↦ cond server.is_open (accept_most most_accepts id server.handler next s) (Ends s)
])
server_apart next id s None = still_same s
server_apart next id s (Some server) =
    apart_if (Still s) server.is_open (accept_most most_accepts id server.handler next s) (Ends s)
    (accepts_apart most_accepts id server.handler next s s (still_same s)) (still_same s)

-- ---- what is received
readable_fed : (id : ℕ) (s : Streams) → Always (AreOnlyFed None s) (on_one its_connections id (connection.readable id) s)
readable_fed id s = at (slice_get s.connections id) refl
  where
    at : (found : Option Connection) → slice_get s.connections id ≡ found → Always (AreOnlyFed None s) (elim found [
      | None ↦ Ends s
      | Some one ↦ and_then (connection.readable id one) (λ after. Ends (now_conn s id after))
    ])
    at None e = apart_fed (λ (after : Streams). after) s (Ends s) (still_same s)
    at (Some c) e =
        always_into (AreOnlyFed None s) (now_conn s id) (connection.readable id c)
        (always_map (own.ConnFed id c) (λ moves after. AreOnlyFed None s moves (now_conn s id after))
        (connection.readable id c) (λ moves after fed. conn_only s id c after moves e [] fed) (own.readable_fed id c))

-- ---- a loss: with an exception what is held is let go
lost_own : (id : ℕ) (c after : Connection) (moves : List Move) → BringNone moves → FailedConn after
    → OwnFed (OfConn id) c.receiver (is_closing c.sender) [] c.receiver.reader.held moves after.receiver (is_closing after.sender)
lost_own id c after moves none it =
    record {
      schedule = none.schedule;
      fed = own.one_came c.receiver (is_closing c.sender) (received (OfConn id) (told_by moves)) [] [] c.receiver.reader.held after.receiver
          (is_closing after.sender) (none.bring (OfConn id))
          (own.one_fails c.receiver (is_closing c.sender) after.receiver (is_closing after.sender) it.held it.failed it.closes);
      others = λ other apart. none.bring other;
    }

broken_fed : (id : ℕ) (s : Streams) → Always (AreOnlyFed None s) (on_one its_connections id (connection.lose id true) s)
broken_fed id s = at (slice_get s.connections id) refl
  where
    at : (found : Option Connection) → slice_get s.connections id ≡ found → Always (AreOnlyFed None s) (elim found [
      | None ↦ Ends s
      | Some one ↦ and_then (connection.lose id true one) (λ after. Ends (now_conn s id after))
    ])
    at None e = apart_fed (λ (after : Streams). after) s (Ends s) (still_same s)
    at (Some c) e =
        always_into (AreOnlyFed None s) (now_conn s id) (connection.lose id true c)
        (always_map (λ moves after. BringNone moves × FailedConn after) (λ moves after. AreOnlyFed None s moves (now_conn s id after))
        (connection.lose id true c)
        (λ moves after it. conn_only s id c after moves e c.receiver.reader.held (lost_own id c after moves it.0 it.1))
        (apart_always FailedConn (connection.lose id true c) (own.lose_conn id true c)))

-- a pipe of another child is told nothing
told_if : (pipe : Stream) (number id : ℕ) (bytes : List ℕ) (c : Bool) → ((pipe_ : Stream) → OfChild pipe number ≡ OfChild pipe_ id → ⊥) → eqb number id ≡ c
    → bytes_if c bytes ≡ []
told_if pipe number id bytes true apart is = absurd (apart pipe (ap (OfChild pipe) (eqb-true number id is)))
told_if pipe number id bytes false apart is = refl

told_none : (id : ℕ) (told : ChildItem (List ℕ)) (other : StreamReader) → ((pipe : Stream) → other ≡ OfChild pipe id → ⊥)
    → told_to other (action.ChildItem id told) ≡ []
told_none id told (OfConn number) apart = refl
told_none id (news.Out bytes) (OfChild stream.Out number) apart = told_if stream.Out number id bytes (eqb number id) apart refl
told_none id (news.Errs bytes) (OfChild stream.Errs number) apart = told_if stream.Errs number id bytes (eqb number id) apart refl
told_none id (news.Errs bytes) (OfChild stream.Out number) apart = refl
told_none id (news.Out bytes) (OfChild stream.Errs number) apart = refl
told_none id news.Broken (OfChild stream.Out number) apart = refl
told_none id news.OutEnd (OfChild stream.Out number) apart = refl
told_none id news.ErrsEnd (OfChild stream.Out number) apart = refl
told_none id (news.Exit code) (OfChild stream.Out number) apart = refl
told_none id news.Broken (OfChild stream.Errs number) apart = refl
told_none id news.OutEnd (OfChild stream.Errs number) apart = refl
told_none id news.ErrsEnd (OfChild stream.Errs number) apart = refl
told_none id (news.Exit code) (OfChild stream.Errs number) apart = refl

untold_by : (id : ℕ) (told : ChildItem (List ℕ)) (b : Bool) (other : StreamReader) → ((pipe : Stream) → other ≡ OfChild pipe id → ⊥)
    → fed_if b other (Some (id, told)) ≡ []
untold_by id told b other apart = ap (bytes_if b) (told_none id told other apart) ∙ bytes_none b

-- a child that isn't opened is told in vain
unopened : (id : ℕ) (told : ChildItem (List ℕ)) (s : Streams) → slice_get s.children id ≡ None → (from : StreamReader)
    → fed_if (may_hear from s) from (Some (id, told)) ≡ []
unopened id told s e (OfConn number) = untold_by id told true (OfConn number) (λ pipe is. let bad : ⊥ = cc in bad)
unopened id told s e (OfChild pipe number) = at (cases_eq number id)
  where
    at : (number ≡ id) ⊎ (number ≡ id → ⊥) → fed_if (may_hear (OfChild pipe number) s) (OfChild pipe number) (Some (id, told)) ≡ []
    at (inl same) =
        ap (λ b. fed_if b (OfChild pipe number) (Some (id, told)))
        (ap (λ n. pipe_hears pipe (slice_get s.children n)) same ∙ ap (pipe_hears pipe) e)
    at (inr differ) =
        untold_by id told (may_hear (OfChild pipe number) s) (OfChild pipe number) (λ other is. differ (ap number_of is))

tells_fed : (id : ℕ) (told : ChildItem (List ℕ)) (s : Streams) → Always (AreOnlyFed (Some (id, told)) s) (on_one its_children id (tell_child id told) s)
tells_fed id told s = at (slice_get s.children id) refl
  where
    at : (found : Option Child) → slice_get s.children id ≡ found → Always (AreOnlyFed (Some (id, told)) s) (elim found [
      | None ↦ Ends s
      | Some one ↦ and_then (tell_child id told one) (λ after. Ends (now_child s id after))
    ])
    at None e = still_fed (Some (id, told)) s [] s bring_nothing (unopened id told s e) (still_same s)
    at (Some p) e =
        always_into (AreOnlyFed (Some (id, told)) s) (now_child s id) (tell_child id told p)
        (always_map (λ moves after. BringNone moves × PipesTold id p told after) (λ moves after. AreOnlyFed (Some (id, told)) s moves (now_child s id after))
        (tell_child id told p)
        (λ moves after it.
        child_only s id p after moves (Some (id, told)) e it.0 (λ other apart. untold_by id told (may_hear other s) other apart) it.1)
        (apart_always (PipesTold id p told) (tell_child id told p) (tell_apart id p told)))

-- ---- a write: its piece is noted
still_noted : (whom : Handed) (piece : List ℕ) (s : Streams) → Still s (noted whom piece s)
still_noted whom [] s = still_same s
still_noted whom (byte ∷ bytes) s = still_alike s (noted whom (byte ∷ bytes) s) refl refl

unnoted : (whom : Handed) (piece : List ℕ) (s : Streams) → Apart (λ (done : Streams × Wrote). Still s done.0) (write_unnoted whom piece s)
unnoted (to.Conn id) piece s = conn_answers id s {R = Wrote} wrote.Done (connection.write_to id piece) (own.write_to_apart id piece)
unnoted (to.Child id) piece s = child_answers id s {R = Wrote} wrote.Done (child.write_child id piece) (own.child_write_apart id piece)

write_apart : (whom : Handed) (piece : List ℕ) (s : Streams) (found : Option Sender) → Apart (λ (done : Streams × Wrote). Still s done.0) (elim found [
  | None ↦ Ends (s, wrote.Done)
  | Some sender ↦ write_unnoted whom piece (noted whom (written_by whom piece sender) s)
])
write_apart whom piece s None = still_same s
write_apart whom piece s (Some sender) =
    let now = noted whom (written_by whom piece sender) s in
    apart_map (λ (done : Streams × Wrote). Still now done.0) (λ (done : Streams × Wrote). Still s done.0) (write_unnoted whom piece now)
    (λ done still. still_both s now done.0 (still_noted whom (written_by whom piece sender) s) still) (unnoted whom piece now)

-- ---- requests
drains_apart : (yielded : Bool) (next : ℕ) (whom : Handed) (s : Streams) → Apart (λ (done : Streams × Drain). Still s done.0) (drain yielded next whom s)
drains_apart yielded next (to.Conn id) s =
    conn_answers id s {R = Drain} drain_as.Goes (connection.drain_of yielded next) (own.drain_of_apart id yielded next)
drains_apart yielded next (to.Child id) s =
    child_answers id s {R = Drain} drain_as.Goes (child.drain_child yielded next) (own.child_drain_apart id yielded next)

limits_apart : (high low : Option ℤ) (whom : Handed) (s : Streams) → Apart (λ (done : Streams × Limited). Still s done.0) (limits high low whom s)
limits_apart high low (to.Conn id) s = conn_answers id s {R = Limited} limited.Set (connection.limits_of high low) (own.limits_apart id high low)
limits_apart high low (to.Child id) s = child_answers id s {R = Limited} limited.Set (child.limits_child high low) (own.child_limits_apart id high low)

closes_apart : (whom : Handed) (s : Streams) → Apart (Still s) (close whom s)
closes_apart (to.Conn id) s = conn_changes id s (connection.close id) (own.close_conn id)
closes_apart (to.Child id) s = child_changes id s (child.close_child id) (own.child_close_apart id)

-- with an answer
fed_with : {R : Type 0} (s : Streams) (tree : Doing (Streams × R)) → Apart (λ (done : Streams × R). Still s done.0) tree
    → Always (λ moves (done : Streams × R). AreOnlyFed None s moves done.0) tree
fed_with {R} s tree h = apart_fed (λ (done : Streams × R). done.0) s tree h

fed_alone : (s : Streams) (tree : Doing Streams) → Apart (Still s) tree → Always (AreOnlyFed None s) tree
fed_alone s tree h = apart_fed (λ (after : Streams). after) s tree h

pub acts_fed : (next : ℕ) (returned : Bool) (it : Action) (s : Streams) → Always (AreOnlyFed (news_in it) s) (act next returned it s)
acts_fed next returned (action.ReadableServer id) s =
    fed_alone s (act next returned (action.ReadableServer id) s) (server_apart next id s (slice_get s.servers id))
acts_fed next returned (action.StartRead id) s =
    fed_alone s (act next returned (action.StartRead id) s) (conn_changes id s (λ c. Ends (connection.start_read c)) (own.start_apart id))
acts_fed next returned (action.Readable id) s = readable_fed id s
acts_fed next returned (action.Writable id) s =
    fed_alone s (act next returned (action.Writable id) s) (conn_changes id s (connection.writable id) (own.writable_apart id))
acts_fed next returned (action.Up id) s =
    fed_alone s (act next returned (action.Up id) s) (conn_changes id s (connection.up id) (own.up_apart id))
acts_fed next returned (action.Down id) s =
    fed_alone s (act next returned (action.Down id) s) (conn_changes id s (connection.down id) (own.down_apart id))
acts_fed next returned (action.Lost id true) s = broken_fed id s
acts_fed next returned (action.Lost id false) s =
    fed_alone s (act next returned (action.Lost id false) s) (conn_changes id s (connection.lose id false) (own.lose_conn id false))
acts_fed next returned (action.HandlerDone id task) s =
    fed_alone s (act next returned (action.HandlerDone id task) s) (conn_changes id s (connection.handler_done id returned) (own.handled_apart id returned))
acts_fed next returned (action.WritableChild id) s =
    fed_alone s (act next returned (action.WritableChild id) s) (child_changes id s (child.feed_more id) (own.feed_apart id))
acts_fed next returned (action.ChildItem id told) s = tells_fed id told s
acts_fed next returned (action.LostChild id broken) s =
    fed_alone s (act next returned (action.LostChild id broken) s) (child_changes id s (child.lose_child id broken) (own.child_lose_apart id broken))
acts_fed next returned (action.Made id) s = fed_alone s (Ends s) (still_same s)
acts_fed next returned (action.Step task) s = fed_alone s (Ends s) (still_same s)
acts_fed next returned (action.StepInCycle task cycle) s = fed_alone s (Ends s) (still_same s)
acts_fed next returned (action.Wakeup task) s = fed_alone s (Ends s) (still_same s)
acts_fed next returned (action.SleepDone task future) s = fed_alone s (Ends s) (still_same s)
acts_fed next returned (action.GroupDone group task) s = fed_alone s (Ends s) (still_same s)
acts_fed next returned (action.Fires timeout) s = fed_alone s (Ends s) (still_same s)
acts_fed next returned action.MainDone s = fed_alone s (Ends s) (still_same s)
acts_fed next returned (action.ExtraItem code bytes) s = fed_alone s (Ends s) (still_same s)
acts_fed next returned (action.Extra key) s = fed_alone s (Ends s) (still_same s)

-- ---- all together
only : (news : News) (s : Streams) (tree : Doing Streams) → Always (AreOnlyFed news s) tree → Always (AreFed news s) tree
only news s tree h = always_map (AreOnlyFed news s) (AreFed news s) tree (λ moves after it. only_fed news s moves after it) h

only_with : {R : Type 0} (s : Streams) (tree : Doing (Streams × R)) → Always (λ moves (done : Streams × R). AreOnlyFed None s moves done.0) tree
    → Always (λ moves (done : Streams × R). AreFed None s moves done.0) tree
only_with {R} s tree h =
    always_map (λ moves (done : Streams × R). AreOnlyFed None s moves done.0) (λ moves (done : Streams × R). AreFed None s moves done.0) tree
    (λ moves done it. only_fed None s moves done.0 it) h

pub listens : (port handler : ℕ) (s : Streams) → Always (λ moves (done : Streams × Option ℕ). AreOnlyFed None s moves done.0) (listen port handler s)
listens port handler s = fed_with {R = Option ℕ} s (listen port handler s) (listens_apart port handler s)

pub closes_server : (id : ℕ) (s : Streams) → Always (AreOnlyFed None s) (close_server id s)
closes_server id s = fed_alone s (close_server id s) (closes_server_apart id s)

pub connects : (port next : ℕ) (s : Streams) → Always (λ moves (done : Streams × Option (ℕ × ℕ)). AreOnlyFed None s moves done.0) (connect port next s)
connects port next s = fed_with {R = Option (ℕ × ℕ)} s (connect port next s) (connects_apart port next s)

pub launches : (words : List (List ℕ)) (next : ℕ) (s : Streams)
    → Always (λ moves (done : Streams × Option ℕ). AreOnlyFed None s moves done.0) (launch words next s)
launches words next s = fed_with {R = Option ℕ} s (launch words next s) (launches_apart words next s)

pub writes : (whom : Handed) (piece : List ℕ) (s : Streams) → Always (λ moves (done : Streams × Wrote). AreOnlyFed None s moves done.0) (write whom piece s)
writes whom piece s = fed_with {R = Wrote} s (write whom piece s) (write_apart whom piece s (sender_of whom s))

pub ends : (id : ℕ) (s : Streams) → Always (AreOnlyFed None s) (write_eof id s)
ends id s = fed_alone s (write_eof id s) (conn_changes id s (connection.write_eof id) (own.eof_apart id))

pub drains : (yielded : Bool) (next : ℕ) (whom : Handed) (s : Streams)
    → Always (λ moves (done : Streams × Drain). AreOnlyFed None s moves done.0) (drain yielded next whom s)
drains yielded next whom s = fed_with {R = Drain} s (drain yielded next whom s) (drains_apart yielded next whom s)

pub limits_keep : (high low : Option ℤ) (whom : Handed) (s : Streams)
    → Always (λ moves (done : Streams × Limited). AreOnlyFed None s moves done.0) (limits high low whom s)
limits_keep high low whom s = fed_with {R = Limited} s (limits high low whom s) (limits_apart high low whom s)

pub closes : (whom : Handed) (s : Streams) → Always (AreOnlyFed None s) (close whom s)
closes whom s = fed_alone s (close whom s) (closes_apart whom s)

pub drops : (id : ℕ) (s : Streams) → Always (AreOnlyFed None s) (drop_connect id s)
drops id s = fed_alone s (drop_connect id s) (conn_changes id s (connection.drop_connect id) (own.drop_apart id))

pub waits : (next id : ℕ) (s : Streams) → Always (λ moves (done : Streams × ChildWait). AreOnlyFed None s moves done.0) (wait next id s)
waits next id s =
    fed_with {R = ChildWait} s (wait next id s)
    (child_answers id s {R = ChildWait} (wait_as.Code (pos 0)) (child.wait_child next) (own.child_wait_apart id next))

pub kills : (id : ℕ) (s : Streams) → Always (AreOnlyFed None s) (kill id s)
kills id s = fed_alone s (kill id s) (child_changes id s (child.kill id) (own.kill_apart id))

pub given_up_fed : (on : ℕ) (from : StreamReader) (s : Streams) → AreOnlyFed None s [] (give_up_read on from s)
given_up_fed on from s = still_fed None s [] (give_up_read on from s) bring_nothing (λ other. refl) (gives_up on from s)

pub all_fed : AreTrees AreFedBy
all_fed =
    record {
      acts = λ next returned it s. only (news_in it) s (act next returned it s) (acts_fed next returned it s);
      listens = λ port handler s. only_with {R = Option ℕ} s (listen port handler s) (listens port handler s);
      closes_server = λ id s. only None s (close_server id s) (closes_server id s);
      connects = λ port next s. only_with {R = Option (ℕ × ℕ)} s (connect port next s) (connects port next s);
      launches = λ words next s. only_with {R = Option ℕ} s (launch words next s) (launches words next s);
      writes = λ whom piece s. only_with {R = Wrote} s (write whom piece s) (writes whom piece s);
      ends = λ id s. only None s (write_eof id s) (ends id s);
      drains = λ yielded next whom s. only_with {R = Drain} s (drain yielded next whom s) (drains yielded next whom s);
      limits_keep = λ high low whom s. only_with {R = Limited} s (limits high low whom s) (limits_keep high low whom s);
      closes = λ whom s. only None s (close whom s) (closes whom s);
      drops = λ id s. only None s (drop_connect id s) (drops id s);
      reads = λ next op from s.
          always_map
          (λ moves (done : Streams × StreamGot). LooksAt from (went done.1 (held_of from s) (held_of from done.0)) s moves done.0)
          (λ moves (done : Streams × StreamGot). AreFed None s moves done.0) (read next op from s) (λ moves done it. it.fed) (reads next op from s);
      reads_all = λ next from s.
          always_map (λ moves (done : Streams × AllGot). LooksAt from done.1.taken s moves done.0)
          (λ moves (done : Streams × AllGot). AreFed None s moves done.0) (read_all next from s) (λ moves done it. it.fed) (reads_all next from s);
      gives_up = λ on from s. only_fed None s [] (give_up_read on from s) (given_up_fed on from s);
      waits = λ next id s. only_with {R = ChildWait} s (wait next id s) (waits next id s);
      kills = λ id s. only None s (kill id s) (kills id s);
    }
