-- The requests on what is open.
use Rattle.std.proofs.Common.{◌≡◌, inl, inr, ℕ, ℤ, Bool, List, [], ◌∷◌, Option, Some, None, slice_get, slice_set, refl, pos, arith}
use Rattle.model_pump.specs.declared.stream.Stream.{Stream}
use Rattle.model_pump.specs.declared.stream.Stream.TheVariants as stream
use Rattle.model_wire.specs.declared.event.Handed.{Handed}
use Rattle.model_wire.specs.declared.event.Handed.TheVariants as to
use Rattle.model_stream.specs.declared.answers.ChildWait.TheVariants as wait_as
use Rattle.model_stream.specs.declared.answers.Drain.TheVariants as drain_as
use Rattle.model_stream.specs.declared.answers.StreamGot.TheVariants as got_as
use Rattle.model_stream.specs.declared.answers.Wrote.{Wrote}
use Rattle.model_stream.specs.declared.answers.Wrote.TheVariants as wrote
use Rattle.model_stream.specs.declared.put.Limited.{Limited}
use Rattle.model_stream.specs.declared.put.Limited.TheVariants as limited
use Rattle.model_stream.specs.Children as child
use Rattle.model_stream.specs.Children.{Child, its_pipe}
use Rattle.model_stream.specs.Connections as connection
use Rattle.model_stream.specs.Connections.{Connection, its_receiver}
use Rattle.model_stream.specs.Doing.{Doing, Ends, and_then, asked_on}
use Rattle.model_stream.specs.Reading.{ReadOp}
use Rattle.model_stream.specs.Receivers as receiver
use Rattle.model_stream.specs.Receivers.{Receiver, StreamGot, AllGot}
use Rattle.model_stream.specs.Requests.{StreamReader, OfConn, OfChild, asked_one, write, write_unnoted, written_by, noted, sender_of, drain, limits}
use Rattle.model_stream.specs.Requests.{write_eof, close, drop_connect, read, read_as, read_all, give_up_read, wait, kill}
use Rattle.model_stream.specs.Senders.{Sender}
use Rattle.model_stream.specs.Streams.{Streams, its_children, its_connections}
use Rattle.model_stream.specs.Kept.{ChildKeeps, StreamsKeep, child_times}
use Rattle.law_cases.specs.Trees.{AllWaits, AnswersStreams, DrainWaits, ExitWaits, IsKnown, IsMade, IsOwn, Keeping, KeepsStreams, Owned, ReadWaits, WaitsNever}
use Rattle.law_cases.proofs.Composing.{keeping_more, keeping_then, streams_more}
use Rattle.law_cases.proofs.Fits.{ChildFits, ConnectionFits, Limits, ReceiverFits, both_grown, child_still, connection_still, grown, now_connection}
use Rattle.law_cases.proofs.Fits.{now_receiver, receiver_now}
use Rattle.law_cases.proofs.Opening.{child_now, child_set, connection_now, connection_set, one_child, one_connection, still}
use Rattle.law_cases.proofs.Reading.{give_up_keeps, read_all_keeps, read_keeps}
use Rattle.law_cases.proofs.Standing.{asked_pipe, asked_receiver, child_closes, child_drains, child_killed, child_limits, child_waits, child_writes}
use Rattle.law_cases.proofs.Standing.{conn_closes, conn_drains, conn_drops, conn_ends, conn_limits, conn_writes}

-- ---- as its task is resumed, a read is given up
pub gives_up : (own : Owned) (first on : ℕ) (from : StreamReader) (s : Streams) → StreamsKeep (IsOwn own) s
    → KeepsStreams own first s first (give_up_read on from s)
gives_up own first on (OfConn id) s kept = at (slice_get s.connections id) refl
  where
    at : (found : Option Connection) → slice_get s.connections id ≡ found
        → KeepsStreams own first s first (elim found [
          | None ↦ s
          | Some c ↦ record s { connections = slice_set s.connections id (record c { receiver = receiver.give_up_read on c.receiver }) }
        ])
    at None e = still own first first s kept
    at (Some c) e =
        let h = kept.connections id c e in
        let r = give_up_keeps (IsOwn own) (now_receiver c.receiver) on c.receiver (receiver_now (IsOwn own) c.receiver h.2) in
        connection_set own first first id s c (record c { receiver = receiver.give_up_read on c.receiver }) kept e
        (connection_still own (now_connection c) first first (record c { receiver = receiver.give_up_read on c.receiver })
        (h.0, h.1, r.0, λ future. let a = r.1 future in (omega (arith, a), omega (arith, a))))
gives_up own first on (OfChild pipe id) s kept = at (slice_get s.children id) refl
  where
    one : (pipe : Stream) (p : Child) → ChildKeeps (IsOwn own) p
        → ChildFits (IsOwn own) (λ future. child_times future p) ((its_pipe pipe).put (receiver.give_up_read on ((its_pipe pipe).get p)) p)
    one stream.Out p h =
        let r = give_up_keeps (IsOwn own) (now_receiver p.out) on p.out (receiver_now (IsOwn own) p.out h.1) in
        (h.0, r.0, h.2, h.3, λ future. let a = r.1 future in omega (arith, a))
    one stream.Errs p h =
        let r = give_up_keeps (IsOwn own) (now_receiver p.errs) on p.errs (receiver_now (IsOwn own) p.errs h.2) in
        (h.0, h.1, r.0, h.3, λ future. let a = r.1 future in omega (arith, a))

    at : (found : Option Child) → slice_get s.children id ≡ found
        → KeepsStreams own first s first (elim found [
          | None ↦ s
          | Some p ↦ record s { children = slice_set s.children id ((its_pipe pipe).put (receiver.give_up_read on ((its_pipe pipe).get p)) p) }
        ])
    at None e = still own first first s kept
    at (Some p) e =
        let after = (its_pipe pipe).put (receiver.give_up_read on ((its_pipe pipe).get p)) p in
        child_set own first first id s p after kept e
        (child_still own (λ future. child_times future p) first first after (one pipe p (kept.children id p e)))

-- where none is made
pub gives_up_own : (own : Owned) (on : ℕ) (from : StreamReader) (s : Streams) → StreamsKeep (IsOwn own) s
    → StreamsKeep (IsOwn own) (give_up_read on from s)
gives_up_own own on from s kept = streams_more (IsKnown own 0 0) (IsOwn own) of (give_up_read on from s) (gives_up own 0 on from s kept).kept
  where
    of : (future : ℕ) → IsKnown own 0 0 future → IsOwn own future
    of future (inl h) = h
    of future (inr h) = absurd (let below = h.1 in omega (arith, below))

module _ (own : Owned) (first : ℕ) where
  -- ---- one of a kind changes, with an answer
  module _ {R : Type 0} (Waits : (ℕ → Type 0) → R → Type 0) (other : R) (none : (P : ℕ → Type 0) → Waits P other) where
    asked_connection : (id : ℕ) (change : Connection → Doing (Connection × R)) (s : Streams) → StreamsKeep (IsOwn own) s
        → ((limit : Limits) (Rest : ℕ → Connection × R → Type 0)
        → ((next : ℕ) (done : Connection × R) → ConnectionFits (IsKnown own first next) (both_grown limit first next) done.0
        → Waits (IsMade first next) done.1 → Rest next done)
        → (c : Connection) → ConnectionFits (IsOwn own) limit c → Keeping Rest own first (change c))
        → Keeping (AnswersStreams Waits own first s) own first (asked_one its_connections other id change s)
    asked_connection id change s kept here = at (slice_get s.connections id) refl
      where
        at : (found : Option Connection) → slice_get s.connections id ≡ found
            → Keeping (AnswersStreams Waits own first s) own first (elim found [
              | None ↦ Ends (s, other)
              | Some one ↦ and_then (change one) (λ done. Ends (record s { connections = slice_set s.connections id done.0 }, done.1))
            ])
        at None e = (still own first first s kept, none _)
        at (Some c) e =
            keeping_then own (AnswersStreams Waits own first s) first (change c)
            (λ done. Ends (record s { connections = slice_set s.connections id done.0 }, done.1))
            (here (now_connection c)
            (λ next done. AnswersStreams Waits own first s next (record s { connections = slice_set s.connections id done.0 }, done.1))
            (λ next done h waits. (connection_set own first next id s c done.0 kept e h, waits)) c
            (connection_now (IsOwn own) c (kept.connections id c e)))

    asked_child : (id : ℕ) (change : Child → Doing (Child × R)) (s : Streams) → StreamsKeep (IsOwn own) s
        → ((limit : ℕ → ℕ) (Rest : ℕ → Child × R → Type 0)
        → ((next : ℕ) (done : Child × R) → ChildFits (IsKnown own first next) (grown limit first next) done.0
        → Waits (IsMade first next) done.1 → Rest next done)
        → (p : Child) → ChildFits (IsOwn own) limit p → Keeping Rest own first (change p))
        → Keeping (AnswersStreams Waits own first s) own first (asked_one its_children other id change s)
    asked_child id change s kept here = at (slice_get s.children id) refl
      where
        at : (found : Option Child) → slice_get s.children id ≡ found
            → Keeping (AnswersStreams Waits own first s) own first (elim found [
              | None ↦ Ends (s, other)
              | Some one ↦ and_then (change one) (λ done. Ends (record s { children = slice_set s.children id done.0 }, done.1))
            ])
        at None e = (still own first first s kept, none _)
        at (Some p) e =
            keeping_then own (AnswersStreams Waits own first s) first (change p)
            (λ done. Ends (record s { children = slice_set s.children id done.0 }, done.1))
            (here (λ future. child_times future p)
            (λ next done. AnswersStreams Waits own first s next (record s { children = slice_set s.children id done.0 }, done.1))
            (λ next done h waits. (child_set own first next id s p done.0 kept e h, waits)) p
            (child_now (IsOwn own) p (kept.children id p e)))

    -- what is read
    reads_as : (from : StreamReader) (change : Receiver → Doing (Receiver × R)) (s : Streams) → StreamsKeep (IsOwn own) s
        → ((limit : ℕ → ℕ) (Rest : ℕ → Receiver × R → Type 0)
        → ((next : ℕ) (done : Receiver × R) → ReceiverFits (IsKnown own first next) (grown limit first next) done.0
        → Waits (IsMade first next) done.1 → Rest next done)
        → (r : Receiver) → ReceiverFits (IsOwn own) limit r → Keeping Rest own first (change r))
        → Keeping (AnswersStreams Waits own first s) own first (read_as other from change s)
    reads_as (OfConn id) change s kept here =
        asked_connection id (asked_on its_receiver change) s kept
        (λ limit Rest each c h.
        asked_receiver own limit first Waits Rest each c h change
        (λ mine left. here (now_receiver c.receiver) (λ next done. Rest next (record c { receiver = done.0 }, done.1)) left c.receiver mine))
    reads_as (OfChild pipe id) change s kept here =
        asked_child id (asked_on (its_pipe pipe) change) s kept
        (λ limit Rest each p h. asked_pipe own limit first Waits Rest each pipe p h change (λ bound Inner r k left. here bound Inner left r k))

  -- ---- writing
  note_keeps : (whom : Handed) (piece : List ℕ) (s : Streams) → StreamsKeep (IsOwn own) s → StreamsKeep (IsOwn own) (noted whom piece s)
  note_keeps whom [] s kept = kept
  note_keeps whom (byte ∷ bytes) s kept = record { connections = kept.connections; children = kept.children }

  -- which changes no connection and no child
  noted_keeps : (whom : Handed) (piece : List ℕ) (s : Streams) (next : ℕ) (done : Streams × Wrote)
      → AnswersStreams {R = Wrote} WaitsNever own first (noted whom piece s) next done → AnswersStreams {R = Wrote} WaitsNever own first s next done
  noted_keeps whom [] s next done h = h
  noted_keeps whom (byte ∷ bytes) s next done h = (
    record {
      kept = h.0.kept;
      times = h.0.times;
      asked = h.0.asked;
      servers = h.0.servers;
      connections = h.0.connections;
      children = h.0.children;
    },
    tt,
  )

  unnoted_keeps : (whom : Handed) (piece : List ℕ) (s : Streams) → StreamsKeep (IsOwn own) s
      → Keeping (AnswersStreams {R = Wrote} WaitsNever own first s) own first (write_unnoted whom piece s)
  unnoted_keeps (to.Conn id) piece s kept =
      asked_connection {R = Wrote} WaitsNever wrote.Done (λ P. tt) id (connection.write_to id piece) s kept
      (λ limit Rest each c h. conn_writes own limit first Rest each id piece c h)
  unnoted_keeps (to.Child id) piece s kept =
      asked_child {R = Wrote} WaitsNever wrote.Done (λ P. tt) id (child.write_child id piece) s kept
      (λ limit Rest each p h. child_writes own limit first Rest each id piece p h)

  pub writes : (whom : Handed) (piece : List ℕ) (s : Streams) → StreamsKeep (IsOwn own) s
      → Keeping (AnswersStreams {R = Wrote} WaitsNever own first s) own first (write whom piece s)
  writes whom piece s kept = at (sender_of whom s)
    where
      at : (found : Option Sender)
          → Keeping (AnswersStreams {R = Wrote} WaitsNever own first s) own first (elim found [
            | None ↦ Ends (s, wrote.Done)
            | Some sender ↦ write_unnoted whom piece (noted whom (written_by whom piece sender) s)
          ])
      at None = (still own first first s kept, tt)
      at (Some sender) =
          let now = noted whom (written_by whom piece sender) s in
          keeping_more own (AnswersStreams {R = Wrote} WaitsNever own first now) (AnswersStreams {R = Wrote} WaitsNever own first s)
          (noted_keeps whom (written_by whom piece sender) s) first (write_unnoted whom piece now)
          (unnoted_keeps whom piece now (note_keeps whom (written_by whom piece sender) s kept))

  pub drains : (yielded : Bool) (whom : Handed) (s : Streams) → StreamsKeep (IsOwn own) s
      → Keeping (AnswersStreams DrainWaits own first s) own first (drain yielded first whom s)
  drains yielded (to.Conn id) s kept =
      asked_connection DrainWaits drain_as.Goes (λ P. tt) id (connection.drain_of yielded first) s kept
      (λ limit Rest each c h. conn_drains own limit first Rest each yielded c h)
  drains yielded (to.Child id) s kept =
      asked_child DrainWaits drain_as.Goes (λ P. tt) id (child.drain_child yielded first) s kept
      (λ limit Rest each p h. child_drains own limit first Rest each yielded p h)

  pub limits_keep : (high low : Option ℤ) (whom : Handed) (s : Streams) → StreamsKeep (IsOwn own) s
      → Keeping (AnswersStreams {R = Limited} WaitsNever own first s) own first (limits high low whom s)
  limits_keep high low (to.Conn id) s kept =
      asked_connection {R = Limited} WaitsNever limited.Set (λ P. tt) id (connection.limits_of high low) s kept
      (λ limit Rest each c h. conn_limits own limit first Rest each high low c h)
  limits_keep high low (to.Child id) s kept =
      asked_child {R = Limited} WaitsNever limited.Set (λ P. tt) id (child.limits_child high low) s kept
      (λ limit Rest each p h. child_limits own limit first Rest each high low p h)

  pub ends : (id : ℕ) (s : Streams) → StreamsKeep (IsOwn own) s → Keeping (KeepsStreams own first s) own first (write_eof id s)
  ends id s kept = one_connection own first id (connection.write_eof id) s kept (λ limit Left c h each. conn_ends own limit Left first each id c h)

  pub closes : (whom : Handed) (s : Streams) → StreamsKeep (IsOwn own) s → Keeping (KeepsStreams own first s) own first (close whom s)
  closes (to.Conn id) s kept = one_connection own first id (connection.close id) s kept (λ limit Left c h each. conn_closes own limit Left first each id c h)
  closes (to.Child id) s kept = one_child own first id (child.close_child id) s kept (λ limit Left p h each. child_closes own limit Left first each id p h)

  pub drops : (id : ℕ) (s : Streams) → StreamsKeep (IsOwn own) s → Keeping (KeepsStreams own first s) own first (drop_connect id s)
  drops id s kept = one_connection own first id (connection.drop_connect id) s kept (λ limit Left c h each. conn_drops own limit Left first each id c h)

  -- ---- reading
  pub reads : (op : ReadOp) (from : StreamReader) (s : Streams) → StreamsKeep (IsOwn own) s
      → Keeping (AnswersStreams ReadWaits own first s) own first (read first op from s)
  reads op from s kept =
      reads_as ReadWaits (got_as.Bytes []) (λ P. tt) from (receiver.read first op) s kept
      (λ limit Rest each r h. read_keeps own limit first Rest (λ next done k. each next done k.0 k.1) op r h)

  pub reads_all : (from : StreamReader) (s : Streams) → StreamsKeep (IsOwn own) s
      → Keeping (AnswersStreams AllWaits own first s) own first (read_all first from s)
  reads_all from s kept =
      reads_as AllWaits (record { taken = []; got = got_as.Bytes [] }) (λ P. tt) from (receiver.read_all first) s kept
      (λ limit Rest each r h. read_all_keeps own limit first Rest (λ next done k. each next done k.0 k.1) r h)

  -- ---- the exit of a child
  pub waits : (id : ℕ) (s : Streams) → StreamsKeep (IsOwn own) s
      → Keeping (AnswersStreams ExitWaits own first s) own first (wait first id s)
  waits id s kept =
      asked_child ExitWaits (wait_as.Code (pos 0)) (λ P. tt) id (child.wait_child first) s kept
      (λ limit Rest each p h. child_waits own limit first Rest each p h)

  pub kills : (id : ℕ) (s : Streams) → StreamsKeep (IsOwn own) s → Keeping (KeepsStreams own first s) own first (kill id s)
  kills id s kept = one_child own first id (child.kill id) s kept (λ limit Left p h each. child_killed own limit Left first each id p h)
