-- Whatever a connection or a child does hands nothing to another.
use Rattle.std.proofs.Common.{ℕ, ℤ, Bool, true, false, cond, not, ◌&&◌, ◌||◌, List, [], ◌∷◌, ◌++◌, Option, Some, None, refl}
use Rattle.std.specs.Prelude.{is_none, is_some}
use Rattle.model_pump.specs.declared.stream.Stream.{Stream}
use Rattle.model_pump.specs.declared.stream.Stream.TheVariants as stream
use Rattle.model_value.specs.declared.action.ChildItem.{ChildItem}
use Rattle.model_value.specs.declared.action.ChildItem.TheVariants.{Broken, Out, OutEnd, Errs, ErrsEnd, Exit}
use Rattle.model_value.specs.declared.kind.Kind.TheVariants.{ConnectionResetError}
use Rattle.model_value.specs.declared.outcome.Outcome.TheVariants.{Value as Returned, Failed}
use Rattle.model_value.specs.Value.{Nothing, Exc, exception_of}
use Rattle.model_wire.specs.declared.answer.Answer.TheVariants as answer
use Rattle.model_wire.specs.declared.call.Call.TheVariants as call
use Rattle.model_wire.specs.declared.event.Handed.{Handed}
use Rattle.model_wire.specs.declared.event.Handed.TheVariants as to
use Rattle.model_wire.specs.Call.{Answer}
use Rattle.model_stream.specs.declared.answers.ChildWait.TheVariants as wait_as
use Rattle.model_stream.specs.declared.answers.ChildWait.{ChildWait}
use Rattle.model_stream.specs.declared.answers.Drain.TheVariants as drain_as
use Rattle.model_stream.specs.declared.answers.Wrote.{Wrote}
use Rattle.model_stream.specs.declared.answers.Wrote.TheVariants as wrote
use Rattle.model_stream.specs.declared.phase.Phase.TheVariants as phase
use Rattle.model_stream.specs.declared.put.Put.{Put}
use Rattle.model_stream.specs.declared.put.Put.TheVariants.{Offer, Kept, Empty, AfterEof, Dropped}
use Rattle.model_stream.specs.Answers.{Sent, SentSome, SentNone, SendFailed, sent_by}
use Rattle.model_stream.specs.Children.{Child, inlet, its_stdin, its_pipe, lose_child, fed, feed_more, told_pipe, tell_child}
use Rattle.model_stream.specs.Children.{close_child, write_child, drain_child, wait_child, kill}
use Rattle.model_stream.specs.Connections.{Connection, outlet, its_sender, its_receiver, fail, received, readable, connect_refused}
use Rattle.model_stream.specs.Connections.{lose, flushed, writable, up, down, stand_up, unmade, close}
use Rattle.model_stream.specs.Connections.{handler_done, drop_connect, write_to, write_eof, drain_of, reads}
use Rattle.model_stream.specs.Doing.{Doing, Ends, Changes, Asks, MakeFuture, Settle, CallSoon, and_then, asks, asked_on, on, settles}
use Rattle.model_stream.specs.Receivers.{Receiver, StreamGot, AllGot, receive_loss, read, read_all, takes_more}
use Rattle.model_stream.specs.Reading.{ReadOp}
use Rattle.model_stream.specs.Senders.{Sender, Drain, has_unsent, is_closing, is_lost, is_flushed, ended_sender, loss_of, outcome_of, waiting_for_loss}
use Rattle.model_stream.specs.Senders.{fail_sender, close_sender, lose_sender, offered, write, write_as, sent, send_more, schedule_loss, with_writer}
use Rattle.model_stream.specs.Senders.{drain_sender, lost_text}
use Rattle.model_stream.specs.Sending.{offer, put, put_answer, set_eof, took}
use Rattle.law_stream.specs.SoundSenders.{outlet_of}
use Rattle.law_stream.specs.SoundReceivers as receivers
use Rattle.law_stream.proofs.Quiet.{AllQuiet, quiet_step}
use Rattle.law_order.specs.Frames.{IsCallOf, IsFramed}
use Rattle.law_order.proofs.Framing.{closes_of, framed_if, framed_into, framed_then, framed_told, loses_of, made_of, sends_of, started_of}

-- ---- what makes and settles futures alone
pub quiet_framed : {A : Type 0} (whom : Handed) (doing : Doing A) → AllQuiet doing → IsFramed whom doing
quiet_framed whom (Ends result) quiet = tt
quiet_framed whom (Changes MakeFuture rest) quiet = quiet_framed whom rest quiet
quiet_framed whom (Changes (Settle future outcome) rest) quiet = quiet_framed whom rest quiet
quiet_framed whom (Changes (CallSoon action) rest) quiet = absurd quiet
quiet_framed whom (Asks call rest) quiet = absurd quiet

pub quiet_back : {A B : Type 0} (into : A → B) (doing : Doing A) → AllQuiet (and_then doing (λ result. Ends (into result))) → AllQuiet doing
quiet_back into (Ends result) quiet = tt
quiet_back into (Changes MakeFuture rest) quiet = quiet_back into rest quiet
quiet_back into (Changes (Settle future outcome) rest) quiet = quiet_back into rest quiet
quiet_back into (Changes (CallSoon action) rest) quiet = absurd quiet
quiet_back into (Asks call rest) quiet = absurd quiet

pub quiet_read : (next : ℕ) (op : ReadOp) (r : Receiver) → AllQuiet (read next op r)
quiet_read next op r = quiet_back {A = Receiver × StreamGot} {B = Receiver} (λ done. done.0) (read next op r) (quiet_step (receivers.Reads next op) r)

pub quiet_all : (next : ℕ) (r : Receiver) → AllQuiet (read_all next r)
quiet_all next r = quiet_back {A = Receiver × AllGot} {B = Receiver} (λ done. done.0) (read_all next r) (quiet_step (receivers.ReadsAll next) r)

-- ---- a sender
module _ (whom : Handed) where
  framed_fail : (s : Sender) → IsFramed whom (fail_sender (outlet_of whom) s)
  framed_fail s = framed_if whom s.writer.ended (Ends s) (schedule_loss (outlet_of whom) true s) tt (loses_of whom true, tt)

  framed_close : (s : Sender) → IsFramed whom (close_sender (outlet_of whom) s)
  framed_close s =
      framed_if whom (is_closing s) (Ends s) _ tt
      (framed_if whom (has_unsent s) (Ends (record s { phase = phase.Closing })) (schedule_loss (outlet_of whom) false s) tt (loses_of whom false, tt))

  framed_lose : (broken : Bool) (s : Sender) → IsFramed whom (lose_sender (outlet_of whom) broken s)
  framed_lose broken s =
      framed_told whom (waiting_for_loss s) (outcome_of (loss_of (outlet_of whom) broken))
      (asks (outlet_of whom).closes (Ends (record (ended_sender (phase.Lost broken) s) { drains = [] }))) (closes_of whom, λ came. tt)

  framed_offered : (s : Sender) (came : Answer) → IsFramed whom (offered (outlet_of whom) s came)
  framed_offered s came = at (sent_by came)
    where
      at : (it : Sent) → IsFramed whom (elim it [
        | SentSome count ↦ Ends (with_writer (took count s.writer) s)
        | SentNone ↦ Ends (with_writer (took 0 s.writer) s)
        | SendFailed ↦ fail_sender (outlet_of whom) s
      ])
      at (SentSome count) = tt
      at SentNone = tt
      at SendFailed = framed_fail s

  framed_written : (it : Put) (s : Sender) → IsFramed whom (write_as it (outlet_of whom) s)
  framed_written AfterEof s = tt
  framed_written Offer s = (
    sends_of whom (offer s.writer),
    λ came. framed_into whom {A = Sender} {B = Sender × Wrote} (λ after. (after, wrote.Done)) (offered (outlet_of whom) s came) (framed_offered s came),
  )
  framed_written Kept s = tt
  framed_written Empty s = tt
  framed_written Dropped s = tt

  framed_write : (piece : List ℕ) (s : Sender) → IsFramed whom (write (outlet_of whom) piece s)
  framed_write piece s = framed_written (put_answer piece s.writer) (with_writer (put piece s.writer) s)

  framed_sent : (count : ℕ) (s : Sender) → IsFramed whom (sent count s)
  framed_sent count s =
      framed_if whom (s.writer.paused && not (took count s.writer).paused)
      (settles s.drains (Returned Nothing) (Ends (record s { writer = took count s.writer; drains = [] }))) (Ends (with_writer (took count s.writer) s))
      (framed_told whom s.drains (Returned Nothing) (Ends (record s { writer = took count s.writer; drains = [] })) tt) tt

  framed_send : (s : Sender) → IsFramed whom (send_more (outlet_of whom) s)
  framed_send s = (sends_of whom (offer s.writer), λ came. at (sent_by came))
    where
      at : (it : Sent) → IsFramed whom (elim it [
        | SentSome count ↦ sent count s
        | SentNone ↦ Ends s
        | SendFailed ↦ fail_sender (outlet_of whom) s
      ])
      at (SentSome count) = framed_sent count s
      at SentNone = tt
      at SendFailed = framed_fail s

  framed_drain : (yielded : Bool) (next : ℕ) (s : Sender) → IsFramed whom (drain_sender yielded next s)
  framed_drain yielded next s =
      framed_if whom {A = Sender × Drain} (is_closing s && not yielded) (Ends (s, drain_as.Yields)) _ tt
      (framed_if whom {A = Sender × Drain} (is_lost s) (Ends (s, drain_as.Raises (exception_of ConnectionResetError lost_text))) _ tt
      (framed_if whom {A = Sender × Drain} s.writer.paused
      (Changes MakeFuture (Ends (record s { drains = s.drains ++ next ∷ [] }, drain_as.Waits next))) (Ends (s, drain_as.Goes)) tt tt))

-- ---- a connection
recv_of : (id : ℕ) → IsCallOf (to.Conn id) (call.Recv id)
recv_of id (to.Conn other) apart = (refl, λ came. refl)
recv_of id (to.Child other) apart = (refl, λ came. refl)

shut_of : (id : ℕ) → IsCallOf (to.Conn id) (call.Shut id)
shut_of id (to.Conn other) apart = (refl, λ came. refl)
shut_of id (to.Child other) apart = (refl, λ came. refl)

module _ (id : ℕ) where
  abbrev it : Handed
  it = to.Conn id

  conn_on : (change : Sender → Doing Sender) (c : Connection) → IsFramed it (change c.sender) → IsFramed it (on its_sender change c)
  conn_on change c h = framed_into it (λ after. record c { sender = after }) (change c.sender) h

  conn_takes : (step : receivers.ReceiverStep) (c : Connection) → IsFramed it (on its_receiver (receivers.done step) c)
  conn_takes step c =
      framed_into it (λ after. record c { receiver = after }) (receivers.done step c.receiver)
      (quiet_framed it (receivers.done step c.receiver) (quiet_step step c.receiver))

  conn_fails : (c : Connection) → IsFramed it (fail id c)
  conn_fails c = conn_on (fail_sender (outlet id)) c (framed_fail it c.sender)

  received_framed : (c : Connection) (came : Answer) → IsFramed it (received id c came)
  received_framed c (answer.Data bytes) = conn_takes (receivers.Receives bytes) c
  received_framed c answer.Eof = conn_takes receivers.ReceivesEnd c
  received_framed c answer.Again = tt
  received_framed c answer.Broken = conn_fails c
  received_framed c (answer.Turn now items) = conn_fails c
  received_framed c answer.Done = conn_fails c
  received_framed c answer.Refused = conn_fails c
  received_framed c answer.Conn = conn_fails c
  received_framed c (answer.Took count) = conn_fails c
  received_framed c answer.Child = conn_fails c
  received_framed c (answer.Extra bytes) = conn_fails c

  pub readable_framed : (c : Connection) → IsFramed it (readable id c)
  readable_framed c = framed_if it (reads c) (Asks (call.Recv id) (received id c)) (Ends c) (recv_of id, received_framed c) tt

  pub lose_framed : (broken : Bool) (c : Connection) → IsFramed it (lose id broken c)
  lose_framed broken c =
      framed_then it (on its_receiver (receive_loss (loss_of (outlet id) broken)) c) (on its_sender (lose_sender (outlet id) broken))
      (conn_takes (receivers.IsLost (loss_of (outlet id) broken)) c)
      (λ mid. conn_on (lose_sender (outlet id) broken) mid (framed_lose it broken mid.sender))

  flushed_framed : (c : Connection) → IsFramed it (flushed id c)
  flushed_framed c =
      framed_if it (not (is_flushed c.sender)) (Ends c) _ tt
      (framed_if it (is_closing c.sender) (lose id false c) _ (lose_framed false c)
      (framed_if it c.sender.writer.eof (asks (call.Shut id) (Ends c)) (Ends c) (shut_of id, λ came. tt) tt))

  pub writable_framed : (c : Connection) → IsFramed it (writable id c)
  writable_framed c =
      framed_if it (has_unsent c.sender) (and_then (on its_sender (send_more (outlet id)) c) (flushed id)) (Ends c)
      (framed_then it (on its_sender (send_more (outlet id)) c) (flushed id) (conn_on (send_more (outlet id)) c (framed_send it c.sender)) flushed_framed) tt

  pub up_framed : (c : Connection) → IsFramed it (up id c)
  up_framed c = at c.making
    where
      at : (making : Option ℕ) → IsFramed it (elim making [ Some future ↦ stand_up id future c | None ↦ Ends c ])
      at (Some future) = (made_of it id, (started_of it id, tt))
      at None = tt

  pub down_framed : (c : Connection) → IsFramed it (down id c)
  down_framed c = at c.making
    where
      at : (making : Option ℕ) → IsFramed it (elim making [
        | Some future ↦ Changes (Settle future (Failed connect_refused)) (asks (call.Close id) (Ends (unmade c)))
        | None ↦ Ends c
      ])
      at (Some future) = (closes_of it, λ came. tt)
      at None = tt

  pub close_framed : (c : Connection) → IsFramed it (close id c)
  close_framed c = conn_on (close_sender (outlet id)) c (framed_close it c.sender)

  pub handled_framed : (returned : Bool) (c : Connection) → IsFramed it (handler_done id returned c)
  handled_framed returned c = framed_if it returned (Ends c) (close id c) tt (close_framed c)

  pub drop_framed : (c : Connection) → IsFramed it (drop_connect id c)
  drop_framed c = framed_if it (is_some c.making) (asks (call.Close id) (Ends (unmade c))) (close id c) (closes_of it, λ came. tt) (close_framed c)

  pub write_to_framed : (piece : List ℕ) (c : Connection) → IsFramed it (write_to id piece c)
  write_to_framed piece c =
      framed_into it {A = Sender × Wrote} {B = Connection × Wrote} (λ done. (record c { sender = done.0 }, done.1)) (write (outlet id) piece c.sender)
      (framed_write it piece c.sender)

  pub eof_framed : (c : Connection) → IsFramed it (write_eof id c)
  eof_framed c =
      let after = record c { sender = with_writer (set_eof c.sender.writer) c.sender } in
      framed_if it (is_closing c.sender || c.sender.writer.eof) (Ends c) _ tt
      (framed_if it (has_unsent c.sender) (Ends after) (asks (call.Shut id) (Ends after)) tt (shut_of id, λ came. tt))

  conn_drains : (yielded : Bool) (next : ℕ) (c : Connection) → IsFramed it (asked_on its_sender (drain_sender yielded next) c)
  conn_drains yielded next c =
      framed_into it {A = Sender × Drain} {B = Connection × Drain} (λ done. (record c { sender = done.0 }, done.1)) (drain_sender yielded next c.sender)
      (framed_drain it yielded next c.sender)

  pub drain_of_framed : (yielded : Bool) (next : ℕ) (c : Connection) → IsFramed it (drain_of yielded next c)
  drain_of_framed yielded next c = at c.receiver.reader.failed
    where
      at : (failed : Option Exc) → IsFramed {A = Connection × Drain} it (elim failed [
        | None ↦ asked_on its_sender (drain_sender yielded next) c
        | Some fault ↦ cond yielded (asked_on its_sender (drain_sender yielded next) c) (Ends (c, drain_as.Raises fault))
      ])
      at None = conn_drains yielded next c
      at (Some fault) =
          framed_if it {A = Connection × Drain} yielded (asked_on its_sender (drain_sender yielded next) c) (Ends (c, drain_as.Raises fault))
          (conn_drains yielded next c) tt

  -- what is done with its receiver, with an answer
  pub conn_asks : {R : Type 0} (change : Receiver → Doing (Receiver × R)) → ((r : Receiver) → AllQuiet (change r)) → (c : Connection)
      → IsFramed it (asked_on its_receiver change c)
  conn_asks {R} change quiet c =
      framed_into it {A = Receiver × R} {B = Connection × R} (λ done. (record c { receiver = done.0 }, done.1)) (change c.receiver)
      (quiet_framed it (change c.receiver) (quiet c.receiver))

-- ---- a child
kill_of : (id : ℕ) → IsCallOf (to.Child id) (call.Kill id)
kill_of id (to.Conn other) apart = (refl, λ came. refl)
kill_of id (to.Child other) apart = (refl, λ came. refl)

module _ (id : ℕ) where
  abbrev its : Handed
  its = to.Child id

  child_on : (change : Sender → Doing Sender) (p : Child) → IsFramed its (change p.stdin) → IsFramed its (on its_stdin change p)
  child_on change p h = framed_into its (λ after. record p { stdin = after }) (change p.stdin) h

  pub child_lose_framed : (broken : Bool) (p : Child) → IsFramed its (lose_child id broken p)
  child_lose_framed broken p = child_on (lose_sender (inlet id) broken) p (framed_lose its broken p.stdin)

  fed_framed : (p : Child) → IsFramed its (fed id p)
  fed_framed p = framed_if its (is_flushed p.stdin && is_closing p.stdin) (lose_child id false p) (Ends p) (child_lose_framed false p) tt

  pub feed_framed : (p : Child) → IsFramed its (feed_more id p)
  feed_framed p =
      framed_if its (has_unsent p.stdin) (and_then (on its_stdin (send_more (inlet id)) p) (fed id)) (Ends p)
      (framed_then its (on its_stdin (send_more (inlet id)) p) (fed id) (child_on (send_more (inlet id)) p (framed_send its p.stdin)) fed_framed) tt

  pipe_framed : (from : Stream) (step : receivers.ReceiverStep) (p : Child) → IsFramed its (told_pipe from (receivers.done step) p)
  pipe_framed from step p =
      framed_if its (takes_more ((its_pipe from).get p)) (on (its_pipe from) (receivers.done step) p) (Ends p)
      (framed_into its (λ after. (its_pipe from).put after p) (receivers.done step ((its_pipe from).get p))
      (quiet_framed its (receivers.done step ((its_pipe from).get p)) (quiet_step step ((its_pipe from).get p)))) tt

  pub tell_framed : (item : ChildItem (List ℕ)) (p : Child) → IsFramed its (tell_child id item p)
  tell_framed Broken p =
      framed_if its p.stdin.writer.ended (Ends p) (on its_stdin (schedule_loss (inlet id) (has_unsent p.stdin)) p) tt
      (loses_of its (has_unsent p.stdin), tt)
  tell_framed (Out bytes) p = pipe_framed stream.Out (receivers.Receives bytes) p
  tell_framed OutEnd p = pipe_framed stream.Out receivers.ReceivesEnd p
  tell_framed (Errs bytes) p = pipe_framed stream.Errs (receivers.Receives bytes) p
  tell_framed ErrsEnd p = pipe_framed stream.Errs receivers.ReceivesEnd p
  tell_framed (Exit code) p =
      framed_if its (is_none p.code) (settles p.waits _ (Ends (record p { code = Some code; waits = [] }))) (Ends p)
      (framed_told its p.waits _ (Ends (record p { code = Some code; waits = [] })) tt) tt

  pub child_close_framed : (p : Child) → IsFramed its (close_child id p)
  child_close_framed p = child_on (close_sender (inlet id)) p (framed_close its p.stdin)

  pub child_write_framed : (piece : List ℕ) (p : Child) → IsFramed its (write_child id piece p)
  child_write_framed piece p =
      framed_if its {A = Child × Wrote} (is_closing p.stdin) (Ends (p, wrote.Done)) (asked_on its_stdin (write (inlet id) piece) p) tt
      (framed_into its {A = Sender × Wrote} {B = Child × Wrote} (λ done. (record p { stdin = done.0 }, done.1)) (write (inlet id) piece p.stdin)
      (framed_write its piece p.stdin))

  pub child_drain_framed : (yielded : Bool) (next : ℕ) (p : Child) → IsFramed its (drain_child yielded next p)
  child_drain_framed yielded next p =
      framed_into its {A = Sender × Drain} {B = Child × Drain} (λ done. (record p { stdin = done.0 }, done.1)) (drain_sender yielded next p.stdin)
      (framed_drain its yielded next p.stdin)

  pub child_wait_framed : (next : ℕ) (p : Child) → IsFramed its (wait_child next p)
  child_wait_framed next p = at p.code
    where
      at : (code : Option ℤ) → IsFramed {A = Child × ChildWait} its (elim code [
        | Some code ↦ Ends (p, wait_as.Code code)
        | None ↦ Changes MakeFuture (Ends (record p { waits = p.waits ++ next ∷ [] }, wait_as.Waits next))
      ])
      at (Some code) = tt
      at None = tt

  pub kill_framed : (p : Child) → IsFramed its (kill id p)
  kill_framed p = framed_if its (is_none p.code) (asks (call.Kill id) (Ends p)) (Ends p) (kill_of id, λ came. tt) tt

  pub pipe_asks : {R : Type 0} (from : Stream) (change : Receiver → Doing (Receiver × R)) → ((r : Receiver) → AllQuiet (change r)) → (p : Child)
      → IsFramed its (asked_on (its_pipe from) change p)
  pipe_asks {R} from change quiet p =
      framed_into its {A = Receiver × R} {B = Child × R} (λ done. ((its_pipe from).put done.0 p, done.1)) (change ((its_pipe from).get p))
      (quiet_framed its (change ((its_pipe from).get p)) (quiet ((its_pipe from).get p)))
