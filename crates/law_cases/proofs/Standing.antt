-- Connections and children.
use Rattle.std.proofs.Common.{inr, ℕ, ◌+◌, ◌<◌, ℤ, Bool, false, cond, not, ◌&&◌, ◌||◌, List}
use Rattle.std.proofs.Common.{[], ◌∷◌, ◌++◌, Option, Some, None, is_some, is_none, refl, le_refl, arith}
use Rattle.std.proofs.lemmas.Bool.{lt-ltb}
use Rattle.model_pump.specs.declared.stream.Stream.{Stream}
use Rattle.model_pump.specs.declared.stream.Stream.TheVariants as stream
use Rattle.model_value.specs.declared.action.ChildItem.{ChildItem}
use Rattle.model_value.specs.declared.action.ChildItem.TheVariants.{Broken, Out, OutEnd, Errs, ErrsEnd, Exit}
use Rattle.model_value.specs.declared.outcome.Outcome.TheVariants.{Value as Returned, Failed}
use Rattle.model_value.specs.Value.{Int, Exc}
use Rattle.model_wire.specs.declared.answer.Answer.TheVariants as answer
use Rattle.model_wire.specs.declared.call.Call.TheVariants as call
use Rattle.model_wire.specs.Call.{Answer}
use Rattle.model_stream.specs.declared.answers.ChildWait.{ChildWait}
use Rattle.model_stream.specs.declared.answers.ChildWait.TheVariants as wait_as
use Rattle.model_stream.specs.declared.answers.Drain.TheVariants as drain_as
use Rattle.model_stream.specs.declared.answers.Wrote.{Wrote}
use Rattle.model_stream.specs.declared.answers.Wrote.TheVariants as wrote
use Rattle.model_stream.specs.declared.put.Limited.{Limited}
use Rattle.model_stream.specs.Children.{Child, inlet, its_stdin, its_pipe, lose_child, fed, feed_more, break_stdin, told_pipe, exit_with, tell_child}
use Rattle.model_stream.specs.Children.{close_child, write_child, drain_child, limits_child, wait_child, kill}
use Rattle.model_stream.specs.Connections.{Connection, outlet, its_sender, its_receiver, reads, start_read, fail, received, readable, lose, flushed}
use Rattle.model_stream.specs.Connections.{writable, up, down, stand_up, close, handler_done, drop_connect, unmade}
use Rattle.model_stream.specs.Connections.{connect_refused, write_to, write_eof, drain_of, limits_of}
use Rattle.model_stream.specs.Doing.{Doing, Ends, Changes, Asks, MakeFuture, Settle, and_then, asks, on, asked_on, settles}
use Rattle.model_stream.specs.Receivers.{Receiver, takes_more, receive, receive_end, receive_loss}
use Rattle.model_stream.specs.Senders.{Sender, Drain, has_unsent, is_closing, is_flushed, with_writer, close_sender, fail_sender, lose_sender, send_more}
use Rattle.model_stream.specs.Senders.{schedule_loss, write, drain_sender, limits_sender, loss_of}
use Rattle.model_stream.specs.Sending.{set_eof}
use Rattle.model_stream.specs.Kept.{OneIs}
use Rattle.law_cases.specs.Trees.{DrainWaits, ExitWaits, IsKnown, IsMade, IsOwn, Keeping, Owned}
use Rattle.law_cases.proofs.Composing.{all_then, keeping_if, keeping_settles, keeping_then, made_first}
use Rattle.law_cases.proofs.Fits.{ChildFits, ConnectionFits, Limits, ReceiverFits, SenderFits, both_grown, child_still, connection_still, grown, made_next}
use Rattle.law_cases.proofs.Fits.{now_receiver}
use Rattle.law_cases.proofs.Fits.{now_sender, receiver_now, sender_now, sender_still, times_push}
use Rattle.law_cases.proofs.Reading.{receive_end_keeps, receive_keeps, receive_loss_keeps}
use Rattle.law_cases.proofs.Sending.{close_keeps, drain_keeps, fail_keeps, inlet_is, limits_keeps, lose_keeps, outlet_is, schedule_keeps}
use Rattle.law_cases.proofs.Sending.{send_keeps, write_keeps}

-- ---- a connection that makes no future
module _ (own : Owned) (limit : Limits) (Left : ℕ → Connection → Type 0) (next : ℕ)
    (each : (after : Connection) → ConnectionFits (IsOwn own) limit after → Left next after) where
  on_sender : (c : Connection) → ConnectionFits (IsOwn own) limit c → (change : Sender → Doing Sender)
      → (SenderFits (IsOwn own) (now_sender c.sender) c.sender
      → ((after : Sender) → SenderFits (IsOwn own) (now_sender c.sender) after → Left next (record c { sender = after }))
      → Keeping (λ then_ after. Left then_ (record c { sender = after })) own next (change c.sender))
      → Keeping Left own next (on its_sender change c)
  on_sender c kept change here =
      keeping_then own Left next (change c.sender) (λ after. Ends (record c { sender = after }))
      (here (sender_now (IsOwn own) c.sender kept.1) (λ after h. each (record c { sender = after })
      (kept.0, (h.0, h.1), kept.2, λ future. let a = h.2 future in let b = kept.3 future in (omega (arith, a, b.0), omega (arith, a, b.1)))))

  on_receiver : (c : Connection) → ConnectionFits (IsOwn own) limit c → (change : Receiver → Doing Receiver)
      → (ReceiverFits (IsOwn own) (now_receiver c.receiver) c.receiver
      → ((after : Receiver) → ReceiverFits (IsOwn own) (now_receiver c.receiver) after → Left next (record c { receiver = after }))
      → Keeping (λ then_ after. Left then_ (record c { receiver = after })) own next (change c.receiver))
      → Keeping Left own next (on its_receiver change c)
  on_receiver c kept change here =
      keeping_then own Left next (change c.receiver) (λ after. Ends (record c { receiver = after }))
      (here (receiver_now (IsOwn own) c.receiver kept.2) (λ after h. each (record c { receiver = after })
      (kept.0, kept.1, h.0, λ future. let a = h.1 future in let b = kept.3 future in (omega (arith, a, b.0), omega (arith, a, b.1)))))

  pub conn_fails : (id : ℕ) (c : Connection) → ConnectionFits (IsOwn own) limit c → Keeping Left own next (fail id c)
  conn_fails id c kept =
      on_sender c kept (fail_sender (outlet id))
      (λ mine left. fail_keeps own (now_sender c.sender) (outlet id) (outlet_is id) _ next left c.sender mine)

  pub conn_closes : (id : ℕ) (c : Connection) → ConnectionFits (IsOwn own) limit c → Keeping Left own next (close id c)
  conn_closes id c kept =
      on_sender c kept (close_sender (outlet id))
      (λ mine left. close_keeps own (now_sender c.sender) (outlet id) (outlet_is id) _ next left c.sender mine)

  received_keeps : (id : ℕ) (c : Connection) → ConnectionFits (IsOwn own) limit c → (came : Answer) → Keeping Left own next (received id c came)
  received_keeps id c kept (answer.Data bytes) =
      on_receiver c kept (receive bytes) (λ mine left. receive_keeps own (now_receiver c.receiver) _ next left bytes c.receiver mine)
  received_keeps id c kept answer.Eof =
      on_receiver c kept receive_end
      (λ mine left. receive_end_keeps own (now_receiver c.receiver) _ next left c.receiver mine)
  received_keeps id c kept answer.Again = each c kept
  received_keeps id c kept answer.Broken = conn_fails id c kept
  received_keeps id c kept (answer.Turn now items) = conn_fails id c kept
  received_keeps id c kept answer.Done = conn_fails id c kept
  received_keeps id c kept answer.Refused = conn_fails id c kept
  received_keeps id c kept answer.Conn = conn_fails id c kept
  received_keeps id c kept (answer.Took count) = conn_fails id c kept
  received_keeps id c kept answer.Child = conn_fails id c kept
  received_keeps id c kept (answer.Extra bytes) = conn_fails id c kept

  pub conn_readable : (id : ℕ) (c : Connection) → ConnectionFits (IsOwn own) limit c → Keeping Left own next (readable id c)
  conn_readable id c kept =
      keeping_if own Left next (reads c) (Asks (call.Recv id) (received id c)) (Ends c) (refl, received_keeps id c kept) (each c kept)

  lose_rest : (id : ℕ) (broken : Bool) (c : Connection) → ConnectionFits (IsOwn own) limit c
      → Keeping Left own next (on its_sender (lose_sender (outlet id) broken) c)
  lose_rest id broken c kept =
      on_sender c kept (lose_sender (outlet id) broken)
      (λ mine left. lose_keeps own (now_sender c.sender) (outlet id) (outlet_is id) _ next left broken c.sender mine)

  pub conn_started : (c : Connection) → ConnectionFits (IsOwn own) limit c → Keeping Left own next (Ends (start_read c))
  conn_started c kept = each (start_read c) kept

  unmaking : (c : Connection) → ConnectionFits (IsOwn own) limit c → ConnectionFits (IsOwn own) limit (record c { making = None })
  unmaking c kept = (tt, kept.1, kept.2, λ future. let a = kept.3 future in (omega (arith, a.0), omega (arith, a.1)))

  up_keeps : (id : ℕ) (making : Option ℕ) (c : Connection) → id < own.connections → OneIs (IsOwn own) making → ConnectionFits (IsOwn own) limit c
      → Keeping Left own next (elim making [ Some future ↦ stand_up id future c | None ↦ Ends c ])
  up_keeps id (Some future) c there mine kept =
      (refl, (refl, ((mine, lt-ltb id own.connections there), each (record c { making = None }) (unmaking c kept))))
  up_keeps id None c there mine kept = each c kept

  pub conn_up : (id : ℕ) (c : Connection) → id < own.connections → ConnectionFits (IsOwn own) limit c → Keeping Left own next (up id c)
  conn_up id c there kept = up_keeps id c.making c there kept.0 kept

  down_keeps : (id : ℕ) (making : Option ℕ) (c : Connection) → OneIs (IsOwn own) making → ConnectionFits (IsOwn own) limit c
      → Keeping Left own next (elim making [
        | Some future ↦ Changes (Settle future (Failed connect_refused)) (asks (call.Close id) (Ends (unmade c)))
        | None ↦ Ends c
      ])
  down_keeps id (Some future) c mine kept = ((mine, refl), (refl, λ answer. each (unmade c) (unmaking c kept)))
  down_keeps id None c mine kept = each c kept

  pub conn_down : (id : ℕ) (c : Connection) → ConnectionFits (IsOwn own) limit c → Keeping Left own next (down id c)
  conn_down id c kept = down_keeps id c.making c kept.0 kept

  pub conn_handled : (id : ℕ) (returned : Bool) (c : Connection) → ConnectionFits (IsOwn own) limit c → Keeping Left own next (handler_done id returned c)
  conn_handled id returned c kept = keeping_if own Left next returned (Ends c) (close id c) (each c kept) (conn_closes id c kept)

  pub conn_drops : (id : ℕ) (c : Connection) → ConnectionFits (IsOwn own) limit c → Keeping Left own next (drop_connect id c)
  conn_drops id c kept =
      keeping_if own Left next (is_some c.making) (asks (call.Close id) (Ends (unmade c))) (close id c)
      (refl, λ answer. each (unmade c) (unmaking c kept)) (conn_closes id c kept)

  pub conn_ends : (id : ℕ) (c : Connection) → ConnectionFits (IsOwn own) limit c → Keeping Left own next (write_eof id c)
  conn_ends id c kept =
      let after = record c { sender = with_writer (set_eof c.sender.writer) c.sender } in
      keeping_if own Left next (is_closing c.sender || c.sender.writer.eof) (Ends c) _ (each c kept)
      (keeping_if own Left next (has_unsent c.sender) (Ends after) (asks (call.Shut id) (Ends after)) (each after kept) (refl, λ answer. each after kept))

-- the loss: its reader is told first
pub conn_loses : (own : Owned) (limit : Limits) (Left : ℕ → Connection → Type 0) (next : ℕ)
    → ((after : Connection) → ConnectionFits (IsOwn own) limit after → Left next after) → (id : ℕ) (broken : Bool) (c : Connection)
    → ConnectionFits (IsOwn own) limit c → Keeping Left own next (lose id broken c)
conn_loses own limit Left next each id broken c kept =
    keeping_then own Left next (on its_receiver (receive_loss (loss_of (outlet id) broken)) c) (on its_sender (lose_sender (outlet id) broken))
    (on_receiver own limit (λ then_ after. Keeping Left own then_ (on its_sender (lose_sender (outlet id) broken) after)) next
    (λ after h. lose_rest own limit Left next each id broken after h) c kept (receive_loss (loss_of (outlet id) broken))
    (λ mine left.
    receive_loss_keeps own (now_receiver c.receiver)
    (λ then_ after. Keeping Left own then_ (on its_sender (lose_sender (outlet id) broken) (record c { receiver = after }))) next left
    (loss_of (outlet id) broken) c.receiver mine))

module _ (own : Owned) (limit : Limits) (Left : ℕ → Connection → Type 0) (next : ℕ)
    (each : (after : Connection) → ConnectionFits (IsOwn own) limit after → Left next after) where
  flushed_keeps : (id : ℕ) (c : Connection) → ConnectionFits (IsOwn own) limit c → Keeping Left own next (flushed id c)
  flushed_keeps id c kept =
      keeping_if own Left next (not (is_flushed c.sender)) (Ends c) _ (each c kept)
      (keeping_if own Left next (is_closing c.sender) (lose id false c) _ (conn_loses own limit Left next each id false c kept)
      (keeping_if own Left next c.sender.writer.eof (asks (call.Shut id) (Ends c)) (Ends c) (refl, λ answer. each c kept) (each c kept)))

  pub conn_writable : (id : ℕ) (c : Connection) → ConnectionFits (IsOwn own) limit c → Keeping Left own next (writable id c)
  conn_writable id c kept =
      keeping_if own Left next (has_unsent c.sender) (and_then (on its_sender (send_more (outlet id)) c) (flushed id)) (Ends c)
      (keeping_then own Left next (on its_sender (send_more (outlet id)) c) (flushed id)
      (on_sender own limit (λ then_ after. Keeping Left own then_ (flushed id after)) next (λ after h. flushed_keeps id after h) c kept (send_more (outlet id))
      (λ mine left.
      send_keeps own (now_sender c.sender) (outlet id) (outlet_is id) (λ then_ after. Keeping Left own then_ (flushed id (record c { sender = after })))
      next left c.sender mine)))
      (each c kept)

-- ---- a connection, with an answer
module _ {R : Type 0} (own : Owned) (limit : Limits) (first : ℕ) (Waits : (ℕ → Type 0) → R → Type 0) (Left : ℕ → Connection × R → Type 0)
    (each : (next : ℕ) (done : Connection × R) → ConnectionFits (IsKnown own first next) (both_grown limit first next) done.0
    → Waits (IsMade first next) done.1 → Left next done) where
  pub asked_sender : (c : Connection) → ConnectionFits (IsOwn own) limit c → (change : Sender → Doing (Sender × R))
      → (SenderFits (IsOwn own) (now_sender c.sender) c.sender
      → ((next : ℕ) (done : Sender × R) → SenderFits (IsKnown own first next) (grown (now_sender c.sender) first next) done.0
      → Waits (IsMade first next) done.1 → Left next (record c { sender = done.0 }, done.1))
      → Keeping (λ next done. Left next (record c { sender = done.0 }, done.1)) own first (change c.sender))
      → Keeping Left own first (asked_on its_sender change c)
  asked_sender c kept change here =
      keeping_then own Left first (change c.sender) (λ done. Ends (record c { sender = done.0 }, done.1))
      (here (sender_now (IsOwn own) c.sender kept.1) (λ next done h waits. let still = connection_still own limit first next c kept in
      each next (record c { sender = done.0 }, done.1)
      (still.0, (h.0, h.1), still.2, λ future. let a = h.2 future in let b = kept.3 future in (omega (arith, a, b.0), omega (arith, a, b.1))) waits))

  pub asked_receiver : (c : Connection) → ConnectionFits (IsOwn own) limit c → (change : Receiver → Doing (Receiver × R))
      → (ReceiverFits (IsOwn own) (now_receiver c.receiver) c.receiver
      → ((next : ℕ) (done : Receiver × R) → ReceiverFits (IsKnown own first next) (grown (now_receiver c.receiver) first next) done.0
      → Waits (IsMade first next) done.1 → Left next (record c { receiver = done.0 }, done.1))
      → Keeping (λ next done. Left next (record c { receiver = done.0 }, done.1)) own first (change c.receiver))
      → Keeping Left own first (asked_on its_receiver change c)
  asked_receiver c kept change here =
      keeping_then own Left first (change c.receiver) (λ done. Ends (record c { receiver = done.0 }, done.1))
      (here (receiver_now (IsOwn own) c.receiver kept.2) (λ next done h waits. let still = connection_still own limit first next c kept in
      each next (record c { receiver = done.0 }, done.1)
      (still.0, still.1, h.0, λ future. let a = h.1 future in let b = kept.3 future in (omega (arith, a, b.0), omega (arith, a, b.1))) waits))

-- the requests on it
module _ (own : Owned) (limit : Limits) (first : ℕ) where
  pub conn_writes : (Left : ℕ → Connection × Wrote → Type 0)
      → ((next : ℕ) (done : Connection × Wrote) → ConnectionFits (IsKnown own first next) (both_grown limit first next) done.0 → Unit {0} → Left next done)
      → (id : ℕ) (piece : List ℕ) (c : Connection) → ConnectionFits (IsOwn own) limit c → Keeping Left own first (write_to id piece c)
  conn_writes Left each id piece c kept =
      asked_sender own limit first (λ P answer. Unit {0}) Left each c kept (write (outlet id) piece)
      (λ mine left.
      write_keeps own (now_sender c.sender) first (outlet id) (outlet_is id) (λ next done. Left next (record c { sender = done.0 }, done.1))
      (λ done h. left first done (sender_still own (now_sender c.sender) first first done.0 h) tt) piece c.sender mine)

  pub conn_limits : (Left : ℕ → Connection × Limited → Type 0)
      → ((next : ℕ) (done : Connection × Limited) → ConnectionFits (IsKnown own first next) (both_grown limit first next) done.0 → Unit {0} → Left next done)
      → (high low : Option ℤ) (c : Connection) → ConnectionFits (IsOwn own) limit c → Keeping Left own first (limits_of high low c)
  conn_limits Left each high low c kept =
      asked_sender own limit first (λ P answer. Unit {0}) Left each c kept (limits_sender high low)
      (λ mine left.
      limits_keeps own (now_sender c.sender) first (λ next done. Left next (record c { sender = done.0 }, done.1))
      (λ done h. left first done (sender_still own (now_sender c.sender) first first done.0 h) tt) high low c.sender mine)

  pub conn_drains : (Left : ℕ → Connection × Drain → Type 0)
      → ((next : ℕ) (done : Connection × Drain) → ConnectionFits (IsKnown own first next) (both_grown limit first next) done.0
      → DrainWaits (IsMade first next) done.1 → Left next done)
      → (yielded : Bool) (c : Connection) → ConnectionFits (IsOwn own) limit c → Keeping Left own first (drain_of yielded first c)
  conn_drains Left each yielded c kept = by c.receiver.reader.failed
    where
      drains : Keeping Left own first (asked_on its_sender (drain_sender yielded first) c)
      drains =
          asked_sender own limit first DrainWaits Left each c kept (drain_sender yielded first)
          (λ mine left.
          drain_keeps own (now_sender c.sender) first (λ next done. Left next (record c { sender = done.0 }, done.1))
          (λ next done h. left next done h.0 h.1) yielded c.sender mine)

      by : (failed : Option Exc)
          → Keeping Left own first (elim failed [
            | None ↦ asked_on its_sender (drain_sender yielded first) c
            | Some fault ↦ cond yielded (asked_on its_sender (drain_sender yielded first) c) (Ends (c, drain_as.Raises fault))
          ])
      by None = drains
      by (Some fault) =
          keeping_if own Left first yielded (asked_on its_sender (drain_sender yielded first) c) (Ends (c, drain_as.Raises fault)) drains
          (each first (c, drain_as.Raises fault) (connection_still own limit first first c kept) tt)

-- ---- a child that makes no future
module _ (own : Owned) (limit : ℕ → ℕ) (Left : ℕ → Child → Type 0) (next : ℕ)
    (each : (after : Child) → ChildFits (IsOwn own) limit after → Left next after) where
  on_stdin : (p : Child) → ChildFits (IsOwn own) limit p → (change : Sender → Doing Sender)
      → (SenderFits (IsOwn own) (now_sender p.stdin) p.stdin
      → ((after : Sender) → SenderFits (IsOwn own) (now_sender p.stdin) after → Left next (record p { stdin = after }))
      → Keeping (λ then_ after. Left then_ (record p { stdin = after })) own next (change p.stdin))
      → Keeping Left own next (on its_stdin change p)
  on_stdin p kept change here =
      keeping_then own Left next (change p.stdin) (λ after. Ends (record p { stdin = after }))
      (here (sender_now (IsOwn own) p.stdin kept.0) (λ after h. each (record p { stdin = after })
      ((h.0, h.1), kept.1, kept.2, kept.3, λ future. let a = h.2 future in let b = kept.4 future in omega (arith, a, b))))

  on_pipe : (pipe : Stream) (p : Child) → ChildFits (IsOwn own) limit p → (change : Receiver → Doing Receiver)
      → ((bound : ℕ → ℕ) (Rest : ℕ → Receiver → Type 0) (r : Receiver) → ReceiverFits (IsOwn own) bound r
      → ((after : Receiver) → ReceiverFits (IsOwn own) bound after → Rest next after) → Keeping Rest own next (change r))
      → Keeping Left own next (on (its_pipe pipe) change p)
  on_pipe stream.Out p kept change here =
      keeping_then own Left next (change p.out) (λ after. Ends (record p { out = after }))
      (here (now_receiver p.out) (λ then_ after. Left then_ (record p { out = after })) p.out (receiver_now (IsOwn own) p.out kept.1)
      (λ after h. each (record p { out = after })
      (kept.0, h.0, kept.2, kept.3, λ future. let a = h.1 future in let b = kept.4 future in omega (arith, a, b))))
  on_pipe stream.Errs p kept change here =
      keeping_then own Left next (change p.errs) (λ after. Ends (record p { errs = after }))
      (here (now_receiver p.errs) (λ then_ after. Left then_ (record p { errs = after })) p.errs (receiver_now (IsOwn own) p.errs kept.2)
      (λ after h. each (record p { errs = after })
      (kept.0, kept.1, h.0, kept.3, λ future. let a = h.1 future in let b = kept.4 future in omega (arith, a, b))))

  pub child_loses : (id : ℕ) (broken : Bool) (p : Child) → ChildFits (IsOwn own) limit p → Keeping Left own next (lose_child id broken p)
  child_loses id broken p kept =
      on_stdin p kept (lose_sender (inlet id) broken)
      (λ mine left. lose_keeps own (now_sender p.stdin) (inlet id) (inlet_is id) _ next left broken p.stdin mine)

  pub child_closes : (id : ℕ) (p : Child) → ChildFits (IsOwn own) limit p → Keeping Left own next (close_child id p)
  child_closes id p kept =
      on_stdin p kept (close_sender (inlet id))
      (λ mine left. close_keeps own (now_sender p.stdin) (inlet id) (inlet_is id) _ next left p.stdin mine)

  fed_keeps : (id : ℕ) (p : Child) → ChildFits (IsOwn own) limit p → Keeping Left own next (fed id p)
  fed_keeps id p kept =
      keeping_if own Left next (is_flushed p.stdin && is_closing p.stdin) (lose_child id false p) (Ends p) (child_loses id false p kept) (each p kept)

  break_keeps : (id : ℕ) (p : Child) → ChildFits (IsOwn own) limit p → Keeping Left own next (break_stdin id p)
  break_keeps id p kept =
      keeping_if own Left next p.stdin.writer.ended (Ends p) (on its_stdin (schedule_loss (inlet id) (has_unsent p.stdin)) p) (each p kept)
      (on_stdin p kept (schedule_loss (inlet id) (has_unsent p.stdin))
      (λ mine left.
      schedule_keeps own (now_sender p.stdin) (inlet id) (inlet_is id) (λ then_ after. Left then_ (record p { stdin = after })) next left
      (has_unsent p.stdin) p.stdin mine))

  told_keeps : (pipe : Stream) (p : Child) → ChildFits (IsOwn own) limit p → (change : Receiver → Doing Receiver)
      → ((bound : ℕ → ℕ) (Rest : ℕ → Receiver → Type 0) (r : Receiver) → ReceiverFits (IsOwn own) bound r
      → ((after : Receiver) → ReceiverFits (IsOwn own) bound after → Rest next after) → Keeping Rest own next (change r))
      → Keeping Left own next (told_pipe pipe change p)
  told_keeps pipe p kept change here =
      keeping_if own Left next (takes_more ((its_pipe pipe).get p)) (on (its_pipe pipe) change p) (Ends p) (on_pipe pipe p kept change here) (each p kept)

  exit_keeps : (code : ℤ) (p : Child) → ChildFits (IsOwn own) limit p → Keeping Left own next (exit_with code p)
  exit_keeps code p kept =
      keeping_if own Left next (is_none p.code) (settles p.waits (Returned (Int code)) (Ends (record p { code = Some code; waits = [] }))) (Ends p)
      (keeping_settles own Left next p.waits (Returned (Int code)) (Ends (record p { code = Some code; waits = [] })) kept.3 refl
      (each (record p { code = Some code; waits = [] }) (kept.0, kept.1, kept.2, tt, λ future. let a = kept.4 future in omega (arith, a))))
      (each p kept)

  pub child_told : (id : ℕ) (item : ChildItem (List ℕ)) (p : Child) → ChildFits (IsOwn own) limit p → Keeping Left own next (tell_child id item p)
  child_told id Broken p kept = break_keeps id p kept
  child_told id (Out bytes) p kept =
      told_keeps stream.Out p kept (receive bytes) (λ bound Rest r h left. receive_keeps own bound Rest next left bytes r h)
  child_told id OutEnd p kept = told_keeps stream.Out p kept receive_end (λ bound Rest r h left. receive_end_keeps own bound Rest next left r h)
  child_told id (Errs bytes) p kept =
      told_keeps stream.Errs p kept (receive bytes) (λ bound Rest r h left. receive_keeps own bound Rest next left bytes r h)
  child_told id ErrsEnd p kept = told_keeps stream.Errs p kept receive_end (λ bound Rest r h left. receive_end_keeps own bound Rest next left r h)
  child_told id (Exit code) p kept = exit_keeps code p kept

  pub child_killed : (id : ℕ) (p : Child) → ChildFits (IsOwn own) limit p → Keeping Left own next (kill id p)
  child_killed id p kept = keeping_if own Left next (is_none p.code) (asks (call.Kill id) (Ends p)) (Ends p) (refl, λ answer. each p kept) (each p kept)

pub child_feeds : (own : Owned) (limit : ℕ → ℕ) (Left : ℕ → Child → Type 0) (next : ℕ)
    → ((after : Child) → ChildFits (IsOwn own) limit after → Left next after)
    → (id : ℕ) (p : Child) → ChildFits (IsOwn own) limit p → Keeping Left own next (feed_more id p)
child_feeds own limit Left next each id p kept =
    keeping_if own Left next (has_unsent p.stdin) (and_then (on its_stdin (send_more (inlet id)) p) (fed id)) (Ends p)
    (keeping_then own Left next (on its_stdin (send_more (inlet id)) p) (fed id)
    (on_stdin own limit (λ then_ after. Keeping Left own then_ (fed id after)) next (λ after h. fed_keeps own limit Left next each id after h) p kept
    (send_more (inlet id))
    (λ mine left.
    send_keeps own (now_sender p.stdin) (inlet id) (inlet_is id) (λ then_ after. Keeping Left own then_ (fed id (record p { stdin = after }))) next left
    p.stdin mine)))
    (each p kept)

-- ---- a child, with an answer
module _ {R : Type 0} (own : Owned) (limit : ℕ → ℕ) (first : ℕ) (Waits : (ℕ → Type 0) → R → Type 0) (Left : ℕ → Child × R → Type 0)
    (each : (next : ℕ) (done : Child × R) → ChildFits (IsKnown own first next) (grown limit first next) done.0
    → Waits (IsMade first next) done.1 → Left next done) where
  pub asked_stdin : (p : Child) → ChildFits (IsOwn own) limit p → (change : Sender → Doing (Sender × R))
      → (SenderFits (IsOwn own) (now_sender p.stdin) p.stdin
      → ((next : ℕ) (done : Sender × R) → SenderFits (IsKnown own first next) (grown (now_sender p.stdin) first next) done.0
      → Waits (IsMade first next) done.1 → Left next (record p { stdin = done.0 }, done.1))
      → Keeping (λ next done. Left next (record p { stdin = done.0 }, done.1)) own first (change p.stdin))
      → Keeping Left own first (asked_on its_stdin change p)
  asked_stdin p kept change here =
      keeping_then own Left first (change p.stdin) (λ done. Ends (record p { stdin = done.0 }, done.1))
      (here (sender_now (IsOwn own) p.stdin kept.0) (λ next done h waits. let still = child_still own limit first next p kept in
      each next (record p { stdin = done.0 }, done.1)
      ((h.0, h.1), still.1, still.2, still.3, λ future. let a = h.2 future in let b = kept.4 future in omega (arith, a, b)) waits))

  pub asked_pipe : (pipe : Stream) (p : Child) → ChildFits (IsOwn own) limit p → (change : Receiver → Doing (Receiver × R))
      → ((bound : ℕ → ℕ) (Rest : ℕ → Receiver × R → Type 0) (r : Receiver) → ReceiverFits (IsOwn own) bound r
      → ((next : ℕ) (done : Receiver × R) → ReceiverFits (IsKnown own first next) (grown bound first next) done.0
      → Waits (IsMade first next) done.1 → Rest next done)
      → Keeping Rest own first (change r))
      → Keeping Left own first (asked_on (its_pipe pipe) change p)
  asked_pipe stream.Out p kept change here =
      keeping_then own Left first (change p.out) (λ done. Ends (record p { out = done.0 }, done.1))
      (here (now_receiver p.out) (λ next done. Left next (record p { out = done.0 }, done.1)) p.out (receiver_now (IsOwn own) p.out kept.1)
      (λ next done h waits. let still = child_still own limit first next p kept in
      each next (record p { out = done.0 }, done.1)
      (still.0, h.0, still.2, still.3, λ future. let a = h.1 future in let b = kept.4 future in omega (arith, a, b)) waits))
  asked_pipe stream.Errs p kept change here =
      keeping_then own Left first (change p.errs) (λ done. Ends (record p { errs = done.0 }, done.1))
      (here (now_receiver p.errs) (λ next done. Left next (record p { errs = done.0 }, done.1)) p.errs (receiver_now (IsOwn own) p.errs kept.2)
      (λ next done h waits. let still = child_still own limit first next p kept in
      each next (record p { errs = done.0 }, done.1)
      (still.0, still.1, h.0, still.3, λ future. let a = h.1 future in let b = kept.4 future in omega (arith, a, b)) waits))

module _ (own : Owned) (limit : ℕ → ℕ) (first : ℕ) where
  pub child_writes : (Left : ℕ → Child × Wrote → Type 0)
      → ((next : ℕ) (done : Child × Wrote) → ChildFits (IsKnown own first next) (grown limit first next) done.0 → Unit {0} → Left next done)
      → (id : ℕ) (piece : List ℕ) (p : Child) → ChildFits (IsOwn own) limit p → Keeping Left own first (write_child id piece p)
  child_writes Left each id piece p kept =
      keeping_if own Left first (is_closing p.stdin) (Ends (p, wrote.Done)) (asked_on its_stdin (write (inlet id) piece) p)
      (each first (p, wrote.Done) (child_still own limit first first p kept) tt)
      (asked_stdin own limit first (λ P answer. Unit {0}) Left each p kept (write (inlet id) piece)
      (λ mine left.
      write_keeps own (now_sender p.stdin) first (inlet id) (inlet_is id) (λ next done. Left next (record p { stdin = done.0 }, done.1))
      (λ done h. left first done (sender_still own (now_sender p.stdin) first first done.0 h) tt) piece p.stdin mine))

  pub child_limits : (Left : ℕ → Child × Limited → Type 0)
      → ((next : ℕ) (done : Child × Limited) → ChildFits (IsKnown own first next) (grown limit first next) done.0 → Unit {0} → Left next done)
      → (high low : Option ℤ) (p : Child) → ChildFits (IsOwn own) limit p → Keeping Left own first (limits_child high low p)
  child_limits Left each high low p kept =
      asked_stdin own limit first (λ P answer. Unit {0}) Left each p kept (limits_sender high low)
      (λ mine left.
      limits_keeps own (now_sender p.stdin) first (λ next done. Left next (record p { stdin = done.0 }, done.1))
      (λ done h. left first done (sender_still own (now_sender p.stdin) first first done.0 h) tt) high low p.stdin mine)

  pub child_drains : (Left : ℕ → Child × Drain → Type 0)
      → ((next : ℕ) (done : Child × Drain) → ChildFits (IsKnown own first next) (grown limit first next) done.0
      → DrainWaits (IsMade first next) done.1 → Left next done)
      → (yielded : Bool) (p : Child) → ChildFits (IsOwn own) limit p → Keeping Left own first (drain_child yielded first p)
  child_drains Left each yielded p kept =
      asked_stdin own limit first DrainWaits Left each p kept (drain_sender yielded first)
      (λ mine left.
      drain_keeps own (now_sender p.stdin) first (λ next done. Left next (record p { stdin = done.0 }, done.1))
      (λ next done h. left next done h.0 h.1) yielded p.stdin mine)

  pub child_waits : (Left : ℕ → Child × ChildWait → Type 0)
      → ((next : ℕ) (done : Child × ChildWait) → ChildFits (IsKnown own first next) (grown limit first next) done.0
      → ExitWaits (IsMade first next) done.1 → Left next done)
      → (p : Child) → ChildFits (IsOwn own) limit p → Keeping Left own first (wait_child first p)
  child_waits Left each p kept = by p.code
    where
      by : (code : Option ℤ)
          → Keeping Left own first (elim code [
            | Some code ↦ Ends (p, wait_as.Code code)
            | None ↦ Changes MakeFuture (Ends (record p { waits = p.waits ++ first ∷ [] }, wait_as.Waits first))
          ])
      by (Some code) = each first (p, wait_as.Code code) (child_still own limit first first p kept) tt
      by None =
          let still = child_still own limit first (first + 1) p kept in
          each (first + 1) (record p { waits = p.waits ++ first ∷ [] }, wait_as.Waits first) (
            still.0,
            still.1,
            still.2,
            all_then (IsKnown own first (first + 1)) p.waits first still.3 (inr (made_first first)),
            λ future.
                let a = kept.4 future in
                let b = times_push future first p.waits in
                let c = made_next first first future (le_refl first) in
                omega (arith, a, b, c),
          ) (made_first first)
