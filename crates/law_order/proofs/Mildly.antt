-- Whatever a connection or a child does but a close, and but that a child's standard input breaks, schedules no loss without an
-- exception.
use Rattle.std.proofs.Common.{◌≡◌, ℕ, ◌≤◌, ℤ, Bool, true, false, cond, eqb, not, ◌&&◌, ◌||◌, List, [], ◌∷◌, ◌++◌, Option, Some, None, refl, arith}
use Rattle.std.specs.Prelude.{is_none}
use Rattle.model_pump.specs.declared.stream.Stream.{Stream}
use Rattle.model_pump.specs.declared.stream.Stream.TheVariants as stream
use Rattle.model_value.specs.declared.action.Action.TheVariants as action
use Rattle.model_value.specs.declared.action.ChildItem.{ChildItem}
use Rattle.model_value.specs.declared.action.ChildItem.TheVariants.{Broken, Out, OutEnd, Errs, ErrsEnd, Exit}
use Rattle.model_value.specs.declared.kind.Kind.TheVariants.{ConnectionResetError}
use Rattle.model_value.specs.declared.outcome.Outcome.TheVariants.{Value as Returned, Failed}
use Rattle.model_value.specs.Value.{Nothing, Outcome, Exc, exception_of}
use Rattle.model_wire.specs.declared.answer.Answer.TheVariants as answer
use Rattle.model_wire.specs.declared.call.Call.TheVariants as call
use Rattle.model_wire.specs.declared.event.Handed.{Handed}
use Rattle.model_wire.specs.declared.event.Handed.TheVariants as to
use Rattle.model_wire.specs.Call.{Answer}
use Rattle.model_stream.specs.declared.answers.ChildWait.TheVariants as wait_as
use Rattle.model_stream.specs.declared.answers.ChildWait.{ChildWait}
use Rattle.model_stream.specs.declared.answers.Drain.TheVariants as drain_as
use Rattle.model_stream.specs.declared.answers.Wrote.{Wrote}
use Rattle.model_stream.specs.declared.answers.Wrote.TheVariants as wrote
use Rattle.model_stream.specs.declared.phase.Phase.TheVariants as phase
use Rattle.model_stream.specs.declared.put.Put.{Put}
use Rattle.model_stream.specs.declared.put.Put.TheVariants.{Offer, Kept, Empty, AfterEof, Dropped}
use Rattle.model_stream.specs.Answers.{Sent, SentSome, SentNone, SendFailed, sent_by}
use Rattle.model_stream.specs.Children.{Child, inlet, its_stdin, its_pipe, lose_child, fed, feed_more, told_pipe, tell_child}
use Rattle.model_stream.specs.Children.{write_child, drain_child, wait_child, kill}
use Rattle.model_stream.specs.Connections.{Connection, outlet, its_sender, its_receiver, fail, received, readable, connect_refused}
use Rattle.model_stream.specs.Connections.{lose, flushed, writable, up, down, stand_up, unmade, write_to, write_eof, drain_of, reads}
use Rattle.model_stream.specs.Doing.{Doing, Ends, Change, Changes, Asks, MakeFuture, Settle, CallSoon, and_then, asks, asked_on, on, settles}
use Rattle.model_stream.specs.Receivers.{Receiver, receive_loss, takes_more}
use Rattle.model_stream.specs.Senders.{Sender, Drain, has_unsent, is_closing, is_lost, is_flushed, ended_sender, loss_of, outcome_of, waiting_for_loss}
use Rattle.model_stream.specs.Senders.{fail_sender, lose_sender, offered, write, write_as, sent, send_more, schedule_loss, with_writer}
use Rattle.model_stream.specs.Senders.{drain_sender, lost_text}
use Rattle.model_stream.specs.Sending.{put, put_answer, set_eof, took}
use Rattle.law_stream.specs.SoundSenders.{outlet_of}
use Rattle.law_stream.specs.Ways.{Move, Did, Heard, Always, is_loss, losses, one_if}
use Rattle.law_stream.proofs.Along.{always_map}
use Rattle.law_stream.specs.SoundReceivers as receivers
use Rattle.law_stream.proofs.Quiet.{AllQuiet, quiet_step}
use Rattle.law_order.specs.Mild.{IsMild, good_losses, is_good_loss}
use Rattle.law_order.proofs.Framing.{none_and}

-- ---- changes that schedule none
broken_mild : (whom other : Handed) → is_good_loss other (CallSoon ((outlet_of whom).loses true)) ≡ false
broken_mild (to.Conn id) (to.Conn other) = refl
broken_mild (to.Conn id) (to.Child other) = refl
broken_mild (to.Child id) (to.Conn other) = refl
broken_mild (to.Child id) (to.Child other) = refl

made_mild : (id : ℕ) (other : Handed) → is_good_loss other (CallSoon (action.Made id)) ≡ false
made_mild id (to.Conn other) = refl
made_mild id (to.Child other) = refl

started_mild : (id : ℕ) (other : Handed) → is_good_loss other (CallSoon (action.StartRead id)) ≡ false
started_mild id (to.Conn other) = refl
started_mild id (to.Child other) = refl

pub settle_mild : (whom : Handed) (future : ℕ) (outcome : Outcome) → is_good_loss whom (Settle future outcome) ≡ false
settle_mild (to.Conn id) future outcome = refl
settle_mild (to.Child id) future outcome = refl

make_mild : (whom : Handed) → is_good_loss whom MakeFuture ≡ false
make_mild (to.Conn id) = refl
make_mild (to.Child id) = refl

-- ---- put together
mild_if : {A : Type 0} (b : Bool) (x y : Doing A) → IsMild x → IsMild y → IsMild (cond b x y)
mild_if true x y here there = here
mild_if false x y here there = there

mild_told : {A : Type 0} (futures : List ℕ) (outcome : Outcome) (rest : Doing A) → IsMild rest → IsMild (settles futures outcome rest)
mild_told [] outcome rest h = h
mild_told (future ∷ futures) outcome rest h = mild_told futures outcome rest h

mild_then : {A B : Type 0} (doing : Doing A) (next : A → Doing B) → IsMild doing → ((result : A) → IsMild (next result)) → IsMild (and_then doing next)
mild_then (Ends result) next h each = each result
mild_then (Changes MakeFuture rest) next h each = mild_then rest next h each
mild_then (Changes (Settle future outcome) rest) next h each = mild_then rest next h each
mild_then (Changes (CallSoon action) rest) next h each = (h.0, mild_then rest next h.1 each)
mild_then (Asks call rest) next h each = λ answer. mild_then (rest answer) next (h answer) each

pub mild_into : {A B : Type 0} (into : A → B) (doing : Doing A) → IsMild doing → IsMild (and_then doing (λ result. Ends (into result)))
mild_into into doing h = mild_then doing (λ result. Ends (into result)) h (λ result. tt)

quiet_mild : {A : Type 0} (doing : Doing A) → AllQuiet doing → IsMild doing
quiet_mild (Ends result) quiet = tt
quiet_mild (Changes MakeFuture rest) quiet = quiet_mild rest quiet
quiet_mild (Changes (Settle future outcome) rest) quiet = quiet_mild rest quiet
quiet_mild (Changes (CallSoon action) rest) quiet = absurd quiet
quiet_mild (Asks call rest) quiet = absurd quiet

-- along every way
pub mild_along : {A : Type 0} (whom : Handed) (doing : Doing A) → IsMild doing → Always (λ moves result. good_losses whom moves ≡ 0) doing
mild_along whom (Ends result) h = refl
mild_along whom (Changes MakeFuture rest) h =
    always_map (λ moves result. good_losses whom moves ≡ 0) (λ moves result. good_losses whom (Did MakeFuture ∷ moves) ≡ 0) rest
    (λ moves result none. none_and (good_losses whom moves) (is_good_loss whom MakeFuture) (make_mild whom) none) (mild_along whom rest h)
mild_along whom (Changes (Settle future outcome) rest) h =
    always_map (λ moves result. good_losses whom moves ≡ 0) (λ moves result. good_losses whom (Did (Settle future outcome) ∷ moves) ≡ 0) rest
    (λ moves result none. none_and (good_losses whom moves) (is_good_loss whom (Settle future outcome)) (settle_mild whom future outcome) none)
    (mild_along whom rest h)
mild_along whom (Changes (CallSoon action) rest) h =
    always_map (λ moves result. good_losses whom moves ≡ 0) (λ moves result. good_losses whom (Did (CallSoon action) ∷ moves) ≡ 0) rest
    (λ moves result none. none_and (good_losses whom moves) (is_good_loss whom (CallSoon action)) (h.0 whom) none) (mild_along whom rest h.1)
mild_along whom (Asks call rest) h =
    λ answer fit.
    always_map (λ moves result. good_losses whom moves ≡ 0) (λ moves result. good_losses whom (Heard call answer ∷ moves) ≡ 0) (rest answer)
    (λ moves result none. none) (mild_along whom (rest answer) (h answer))

-- ---- they are among the losses
no_true : false ≡ true → ⊥
no_true is = let bad : ⊥ = cc in bad

one_harder : (a b : Bool) → (a ≡ true → b ≡ true) → one_if a ≤ one_if b
one_harder false b h = omega arith
one_harder true true h = omega arith
one_harder true false h = absurd (no_true (h refl))

and_last : (a b : Bool) → (a && b) ≡ true → b ≡ true
and_last true b is = is
and_last false b is = absurd (let bad : ⊥ = cc in bad)

pub good_is_loss : (whom : Handed) (change : Change) → is_good_loss whom change ≡ true → is_loss whom change ≡ true
good_is_loss (to.Conn id) (CallSoon (action.Lost other broken)) is = and_last (not broken) (eqb id other) is
good_is_loss (to.Child id) (CallSoon (action.LostChild other broken)) is = and_last (not broken) (eqb id other) is
good_is_loss (to.Conn id) _ is = absurd (let bad : ⊥ = cc in bad)
good_is_loss (to.Child id) _ is = absurd (let bad : ⊥ = cc in bad)

pub good_fewer : (whom : Handed) (moves : List Move) → good_losses whom moves ≤ losses whom moves
good_fewer whom [] = omega arith
good_fewer whom (Did change ∷ moves) =
    let first = one_harder (is_good_loss whom change) (is_loss whom change) (good_is_loss whom change) in
    let rest = good_fewer whom moves in
    omega (arith, first, rest)
good_fewer whom (Heard call answer ∷ moves) = good_fewer whom moves

-- ---- a sender
module _ (whom : Handed) where
  mild_fail : (s : Sender) → IsMild (fail_sender (outlet_of whom) s)
  mild_fail s = mild_if s.writer.ended (Ends s) (schedule_loss (outlet_of whom) true s) tt (broken_mild whom, tt)

  mild_lose : (broken : Bool) (s : Sender) → IsMild (lose_sender (outlet_of whom) broken s)
  mild_lose broken s =
      mild_told (waiting_for_loss s) (outcome_of (loss_of (outlet_of whom) broken))
      (asks (outlet_of whom).closes (Ends (record (ended_sender (phase.Lost broken) s) { drains = [] }))) (λ came. tt)

  mild_offered : (s : Sender) (came : Answer) → IsMild (offered (outlet_of whom) s came)
  mild_offered s came = at (sent_by came)
    where
      at : (it : Sent) → IsMild (elim it [
        | SentSome count ↦ Ends (with_writer (took count s.writer) s)
        | SentNone ↦ Ends (with_writer (took 0 s.writer) s)
        | SendFailed ↦ fail_sender (outlet_of whom) s
      ])
      at (SentSome count) = tt
      at SentNone = tt
      at SendFailed = mild_fail s

  mild_written : (it : Put) (s : Sender) → IsMild (write_as it (outlet_of whom) s)
  mild_written AfterEof s = tt
  mild_written Offer s =
      λ came. mild_into {A = Sender} {B = Sender × Wrote} (λ after. (after, wrote.Done)) (offered (outlet_of whom) s came) (mild_offered s came)
  mild_written Kept s = tt
  mild_written Empty s = tt
  mild_written Dropped s = tt

  mild_write : (piece : List ℕ) (s : Sender) → IsMild (write (outlet_of whom) piece s)
  mild_write piece s = mild_written (put_answer piece s.writer) (with_writer (put piece s.writer) s)

  mild_sent : (count : ℕ) (s : Sender) → IsMild (sent count s)
  mild_sent count s =
      mild_if (s.writer.paused && not (took count s.writer).paused)
      (settles s.drains (Returned Nothing) (Ends (record s { writer = took count s.writer; drains = [] }))) (Ends (with_writer (took count s.writer) s))
      (mild_told s.drains (Returned Nothing) (Ends (record s { writer = took count s.writer; drains = [] })) tt) tt

  mild_send : (s : Sender) → IsMild (send_more (outlet_of whom) s)
  mild_send s = λ came. at (sent_by came)
    where
      at : (it : Sent) → IsMild (elim it [
        | SentSome count ↦ sent count s
        | SentNone ↦ Ends s
        | SendFailed ↦ fail_sender (outlet_of whom) s
      ])
      at (SentSome count) = mild_sent count s
      at SentNone = tt
      at SendFailed = mild_fail s

  mild_drain : (yielded : Bool) (next : ℕ) (s : Sender) → IsMild (drain_sender yielded next s)
  mild_drain yielded next s =
      mild_if {A = Sender × Drain} (is_closing s && not yielded) (Ends (s, drain_as.Yields)) _ tt
      (mild_if {A = Sender × Drain} (is_lost s) (Ends (s, drain_as.Raises (exception_of ConnectionResetError lost_text))) _ tt
      (mild_if {A = Sender × Drain} s.writer.paused
      (Changes MakeFuture (Ends (record s { drains = s.drains ++ next ∷ [] }, drain_as.Waits next))) (Ends (s, drain_as.Goes)) tt tt))

-- ---- a connection
module _ (id : ℕ) where
  abbrev it : Handed
  it = to.Conn id

  conn_on : (change : Sender → Doing Sender) (c : Connection) → IsMild (change c.sender) → IsMild (on its_sender change c)
  conn_on change c h = mild_into (λ after. record c { sender = after }) (change c.sender) h

  conn_takes : (step : receivers.ReceiverStep) (c : Connection) → IsMild (on its_receiver (receivers.done step) c)
  conn_takes step c =
      mild_into (λ after. record c { receiver = after }) (receivers.done step c.receiver)
      (quiet_mild (receivers.done step c.receiver) (quiet_step step c.receiver))

  conn_fails : (c : Connection) → IsMild (fail id c)
  conn_fails c = conn_on (fail_sender (outlet id)) c (mild_fail it c.sender)

  received_mild : (c : Connection) (came : Answer) → IsMild (received id c came)
  received_mild c (answer.Data bytes) = conn_takes (receivers.Receives bytes) c
  received_mild c answer.Eof = conn_takes receivers.ReceivesEnd c
  received_mild c answer.Again = tt
  received_mild c answer.Broken = conn_fails c
  received_mild c (answer.Turn now items) = conn_fails c
  received_mild c answer.Done = conn_fails c
  received_mild c answer.Refused = conn_fails c
  received_mild c answer.Conn = conn_fails c
  received_mild c (answer.Took count) = conn_fails c
  received_mild c answer.Child = conn_fails c
  received_mild c (answer.Extra bytes) = conn_fails c

  pub readable_mild : (c : Connection) → IsMild (readable id c)
  readable_mild c = mild_if (reads c) (Asks (call.Recv id) (received id c)) (Ends c) (received_mild c) tt

  pub lose_mild : (broken : Bool) (c : Connection) → IsMild (lose id broken c)
  lose_mild broken c =
      mild_then (on its_receiver (receive_loss (loss_of (outlet id) broken)) c) (on its_sender (lose_sender (outlet id) broken))
      (conn_takes (receivers.IsLost (loss_of (outlet id) broken)) c)
      (λ mid. conn_on (lose_sender (outlet id) broken) mid (mild_lose it broken mid.sender))

  flushed_mild : (c : Connection) → IsMild (flushed id c)
  flushed_mild c =
      mild_if (not (is_flushed c.sender)) (Ends c) _ tt
      (mild_if (is_closing c.sender) (lose id false c) _ (lose_mild false c)
      (mild_if c.sender.writer.eof (asks (call.Shut id) (Ends c)) (Ends c) (λ came. tt) tt))

  pub writable_mild : (c : Connection) → IsMild (writable id c)
  writable_mild c =
      mild_if (has_unsent c.sender) (and_then (on its_sender (send_more (outlet id)) c) (flushed id)) (Ends c)
      (mild_then (on its_sender (send_more (outlet id)) c) (flushed id) (conn_on (send_more (outlet id)) c (mild_send it c.sender)) flushed_mild) tt

  pub up_mild : (c : Connection) → IsMild (up id c)
  up_mild c = at c.making
    where
      at : (making : Option ℕ) → IsMild (elim making [ Some future ↦ stand_up id future c | None ↦ Ends c ])
      at (Some future) = (made_mild id, (started_mild id, tt))
      at None = tt

  pub down_mild : (c : Connection) → IsMild (down id c)
  down_mild c = at c.making
    where
      at : (making : Option ℕ) → IsMild (elim making [
        | Some future ↦ Changes (Settle future (Failed connect_refused)) (asks (call.Close id) (Ends (unmade c)))
        | None ↦ Ends c
      ])
      at (Some future) = λ came. tt
      at None = tt

  pub write_to_mild : (piece : List ℕ) (c : Connection) → IsMild (write_to id piece c)
  write_to_mild piece c =
      mild_into {A = Sender × Wrote} {B = Connection × Wrote} (λ done. (record c { sender = done.0 }, done.1)) (write (outlet id) piece c.sender)
      (mild_write it piece c.sender)

  pub eof_mild : (c : Connection) → IsMild (write_eof id c)
  eof_mild c =
      let after = record c { sender = with_writer (set_eof c.sender.writer) c.sender } in
      mild_if (is_closing c.sender || c.sender.writer.eof) (Ends c) _ tt
      (mild_if (has_unsent c.sender) (Ends after) (asks (call.Shut id) (Ends after)) tt (λ came. tt))

  conn_drains : (yielded : Bool) (next : ℕ) (c : Connection) → IsMild (asked_on its_sender (drain_sender yielded next) c)
  conn_drains yielded next c =
      mild_into {A = Sender × Drain} {B = Connection × Drain} (λ done. (record c { sender = done.0 }, done.1)) (drain_sender yielded next c.sender)
      (mild_drain it yielded next c.sender)

  pub drain_of_mild : (yielded : Bool) (next : ℕ) (c : Connection) → IsMild (drain_of yielded next c)
  drain_of_mild yielded next c = at c.receiver.reader.failed
    where
      at : (failed : Option Exc) → IsMild {A = Connection × Drain} (elim failed [
        | None ↦ asked_on its_sender (drain_sender yielded next) c
        | Some fault ↦ cond yielded (asked_on its_sender (drain_sender yielded next) c) (Ends (c, drain_as.Raises fault))
      ])
      at None = conn_drains yielded next c
      at (Some fault) =
          mild_if {A = Connection × Drain} yielded (asked_on its_sender (drain_sender yielded next) c) (Ends (c, drain_as.Raises fault))
          (conn_drains yielded next c) tt

  -- what is done with its receiver, with an answer
  pub conn_asks : {R : Type 0} (change : Receiver → Doing (Receiver × R)) → ((r : Receiver) → AllQuiet (change r)) → (c : Connection)
      → IsMild (asked_on its_receiver change c)
  conn_asks {R} change quiet c =
      mild_into {A = Receiver × R} {B = Connection × R} (λ done. (record c { receiver = done.0 }, done.1)) (change c.receiver)
      (quiet_mild (change c.receiver) (quiet c.receiver))

-- ---- a child
module _ (id : ℕ) where
  abbrev its : Handed
  its = to.Child id

  child_on : (change : Sender → Doing Sender) (p : Child) → IsMild (change p.stdin) → IsMild (on its_stdin change p)
  child_on change p h = mild_into (λ after. record p { stdin = after }) (change p.stdin) h

  pub child_lose_mild : (broken : Bool) (p : Child) → IsMild (lose_child id broken p)
  child_lose_mild broken p = child_on (lose_sender (inlet id) broken) p (mild_lose its broken p.stdin)

  fed_mild : (p : Child) → IsMild (fed id p)
  fed_mild p = mild_if (is_flushed p.stdin && is_closing p.stdin) (lose_child id false p) (Ends p) (child_lose_mild false p) tt

  pub feed_mild : (p : Child) → IsMild (feed_more id p)
  feed_mild p =
      mild_if (has_unsent p.stdin) (and_then (on its_stdin (send_more (inlet id)) p) (fed id)) (Ends p)
      (mild_then (on its_stdin (send_more (inlet id)) p) (fed id) (child_on (send_more (inlet id)) p (mild_send its p.stdin)) fed_mild) tt

  pipe_mild : (from : Stream) (step : receivers.ReceiverStep) (p : Child) → IsMild (told_pipe from (receivers.done step) p)
  pipe_mild from step p =
      mild_if (takes_more ((its_pipe from).get p)) (on (its_pipe from) (receivers.done step) p) (Ends p)
      (mild_into (λ after. (its_pipe from).put after p) (receivers.done step ((its_pipe from).get p))
      (quiet_mild (receivers.done step ((its_pipe from).get p)) (quiet_step step ((its_pipe from).get p)))) tt

  -- all but that it breaks
  pub tell_mild : (item : ChildItem (List ℕ)) (p : Child) → (item ≡ Broken → ⊥) → IsMild (tell_child id item p)
  tell_mild Broken p other = absurd (other refl)
  tell_mild (Out bytes) p other = pipe_mild stream.Out (receivers.Receives bytes) p
  tell_mild OutEnd p other = pipe_mild stream.Out receivers.ReceivesEnd p
  tell_mild (Errs bytes) p other = pipe_mild stream.Errs (receivers.Receives bytes) p
  tell_mild ErrsEnd p other = pipe_mild stream.Errs receivers.ReceivesEnd p
  tell_mild (Exit code) p other =
      mild_if (is_none p.code) (settles p.waits _ (Ends (record p { code = Some code; waits = [] }))) (Ends p)
      (mild_told p.waits _ (Ends (record p { code = Some code; waits = [] })) tt) tt

  pub child_write_mild : (piece : List ℕ) (p : Child) → IsMild (write_child id piece p)
  child_write_mild piece p =
      mild_if {A = Child × Wrote} (is_closing p.stdin) (Ends (p, wrote.Done)) (asked_on its_stdin (write (inlet id) piece) p) tt
      (mild_into {A = Sender × Wrote} {B = Child × Wrote} (λ done. (record p { stdin = done.0 }, done.1)) (write (inlet id) piece p.stdin)
      (mild_write its piece p.stdin))

  pub child_drain_mild : (yielded : Bool) (next : ℕ) (p : Child) → IsMild (drain_child yielded next p)
  child_drain_mild yielded next p =
      mild_into {A = Sender × Drain} {B = Child × Drain} (λ done. (record p { stdin = done.0 }, done.1)) (drain_sender yielded next p.stdin)
      (mild_drain its yielded next p.stdin)

  pub child_wait_mild : (next : ℕ) (p : Child) → IsMild (wait_child next p)
  child_wait_mild next p = at p.code
    where
      at : (code : Option ℤ) → IsMild {A = Child × ChildWait} (elim code [
        | Some code ↦ Ends (p, wait_as.Code code)
        | None ↦ Changes MakeFuture (Ends (record p { waits = p.waits ++ next ∷ [] }, wait_as.Waits next))
      ])
      at (Some code) = tt
      at None = tt

  pub kill_mild : (p : Child) → IsMild (kill id p)
  kill_mild p = mild_if (is_none p.code) (asks (call.Kill id) (Ends p)) (Ends p) (λ came. tt) tt

  pub pipe_asks : {R : Type 0} (from : Stream) (change : Receiver → Doing (Receiver × R)) → ((r : Receiver) → AllQuiet (change r)) → (p : Child)
      → IsMild (asked_on (its_pipe from) change p)
  pipe_asks {R} from change quiet p =
      mild_into {A = Receiver × R} {B = Child × R} (λ done. ((its_pipe from).put done.0 p, done.1)) (change ((its_pipe from).get p))
      (quiet_mild (change ((its_pipe from).get p)) (quiet ((its_pipe from).get p)))
