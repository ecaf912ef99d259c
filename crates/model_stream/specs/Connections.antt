-- Connections: what their callbacks do, and the requests on them. Each is told by its number.
-- Source: `selector_events.py`, `_SelectorSocketTransport` and `sock_connect`; `streams.py`, StreamReaderProtocol.
use Rattle.std.specs.Prelude.{ℕ, ℤ, Bool, false, not, ◌&&◌, ◌||◌, if◌then◌else◌, List, Option, Some, None, is_some}
use lib.Chars.{codes}
use Rattle.model_value.specs.declared.action.Action.TheVariants.{Made, StartRead, Lost}
use Rattle.model_value.specs.declared.kind.Kind.TheVariants.{ConnectionResetError, ConnectionRefusedError}
use Rattle.model_value.specs.declared.outcome.Outcome.TheVariants.{Value as Returned, Failed}
use Rattle.model_value.specs.Value.{Conn as ConnValue, Exc, exception_of}
use Rattle.model_wire.specs.declared.answer.Answer.TheVariants as answer
use Rattle.model_wire.specs.declared.call.Call.TheVariants as call
use Rattle.model_wire.specs.Call.{Answer}
use Rattle.model_stream.specs.declared.answers.Wrote.{Wrote}
use Rattle.model_stream.specs.declared.answers.Drain.TheVariants as drain_as
use Rattle.model_stream.specs.declared.phase.Phase.TheVariants as phase
use Rattle.model_stream.specs.declared.put.Limited.{Limited}
use Rattle.model_stream.specs.Doing.{Doing, Ends, Changes, Asks, CallSoon, Settle, Part, and_then, asks, asked_on, on}
use Rattle.model_stream.specs.Receivers.{Receiver, new_receiver, takes_more, receive, receive_end, receive_loss}
use Rattle.model_stream.specs.Senders.{Sender, Outlet, Drain, new_sender, with_writer, has_unsent, is_closing, ended_sender, fail_sender, close_sender, loss_of}
use Rattle.model_stream.specs.Senders.{lose_sender, write, send_more, is_flushed, drain_sender, limits_sender, lost_text}
use Rattle.model_stream.specs.Sending.{set_eof}

-- `making` is the future that the connect waits on, while the connection is being made; `handler` is the coroutine that
-- handles one that was accepted; `began` says that it began to read.
pub record Connection : Type 0 where
  pub making : Option ℕ
  pub handler : Option ℕ
  pub began : Bool
  pub sender : Sender
  pub receiver : Receiver

-- one that is being made, by a connect that waits on a future
abbrev pub connecting : (closed_future on : ℕ) → Connection
connecting closed_future on =
    record { making = Some on; handler = None; began = false; sender = new_sender false closed_future; receiver = new_receiver }

-- one that was accepted
abbrev pub accepted : (closed_future handler : ℕ) → Connection
accepted closed_future handler =
    record { making = None; handler = Some handler; began = false; sender = new_sender false closed_future; receiver = new_receiver }

abbrev pub outlet : ℕ → Outlet
outlet id =
    record {
      sends = λ bytes. call.Send id bytes;
      closes = call.Close id;
      loses = λ broken. Lost id broken;
      exception = exception_of ConnectionResetError lost_text;
    }

abbrev pub its_sender : Part Connection Sender
its_sender = record { get = λ c. c.sender; put = λ sender c. record c { sender = sender } }

abbrev pub its_receiver : Part Connection Receiver
its_receiver = record { get = λ c. c.receiver; put = λ receiver c. record c { receiver = receiver } }

-- It receives from when it began to read until it closes or the end comes, but while reading is paused.
abbrev pub reads : Connection → Bool
reads c = c.began && not (is_closing c.sender) && takes_more c.receiver

-- ---- callbacks
-- `startread`
abbrev pub start_read : Connection → Connection
start_read c = record c { began = c.began || not (is_closing c.sender) }

abbrev pub fail : ℕ → Connection → Doing Connection
fail id = on its_sender (fail_sender (outlet id))

-- what was received; an answer that doesn't fit ends the run
abbrev pub received : ℕ → Connection → Answer → Doing Connection
received id c (answer.Data bytes) = on its_receiver (receive bytes) c
received id c answer.Eof = on its_receiver receive_end c
received id c answer.Again = Ends c
received id c answer.Broken = fail id c
received id c (answer.Turn now items) = fail id c
received id c answer.Done = fail id c
received id c answer.Refused = fail id c
received id c answer.Conn = fail id c
received id c (answer.Took count) = fail id c
received id c answer.Child = fail id c
received id c (answer.Extra bytes) = fail id c

-- `readable`, unless it reads no more
abbrev pub readable : ℕ → Connection → Doing Connection
readable id c = if reads c then Asks (call.Recv id) (received id c) else Ends c

-- `lost`: the reader is told first
abbrev pub lose : ℕ → (broken : Bool) → Connection → Doing Connection
lose id broken c =
    and_then (on its_receiver (receive_loss (loss_of (outlet id) broken)) c) (on its_sender (lose_sender (outlet id) broken))

-- What follows where all was sent: a closing one is lost at once, and the end is passed on.
abbrev pub flushed : ℕ → Connection → Doing Connection
flushed id c =
    if not (is_flushed c.sender) then Ends c
    else (if is_closing c.sender then lose id false c
    else (if c.sender.writer.eof then asks (call.Shut id) (Ends c) else Ends c))

-- `writable`, unless nothing is unsent
abbrev pub writable : ℕ → Connection → Doing Connection
writable id c =
    if has_unsent c.sender then and_then (on its_sender (send_more (outlet id)) c) (flushed id) else Ends c

-- `up`: the connection stands, and the connect goes on with it
abbrev pub stand_up : ℕ → (on : ℕ) → Connection → Doing Connection
stand_up id on c =
    Changes (CallSoon (Made id))
    (Changes (CallSoon (StartRead id))
    (Changes (Settle on (Returned (ConnValue id))) (Ends (record c { making = None }))))

abbrev pub up : ℕ → Connection → Doing Connection
up id c = elim c.making [ Some on ↦ stand_up id on c | None ↦ Ends c ]

-- it is over before it stood
abbrev pub unmade : Connection → Connection
unmade c = record c { making = None; sender = ended_sender (phase.Lost false) c.sender }

abbrev pub connect_refused : Exc
connect_refused = exception_of ConnectionRefusedError (codes "connect refused")

-- `down`: it could not be made
abbrev pub down : ℕ → Connection → Doing Connection
down id c =
    elim c.making [
      | Some on ↦ Changes (Settle on (Failed connect_refused)) (asks (call.Close id) (Ends (unmade c)))
      | None ↦ Ends c
    ]

-- ---- requests
abbrev pub close : ℕ → Connection → Doing Connection
close id = on its_sender (close_sender (outlet id))

-- `handlerdone`: a handler that failed or was cancelled closes its connection
abbrev pub handler_done : ℕ → (returned : Bool) → Connection → Doing Connection
handler_done id returned c = if returned then Ends c else close id c

-- a connect that is thrown an exception gives its connection up
abbrev pub drop_connect : ℕ → Connection → Doing Connection
drop_connect id c = if is_some c.making then asks (call.Close id) (Ends (unmade c)) else close id c

abbrev pub write_to : ℕ → List ℕ → Connection → Doing (Connection × Wrote)
write_to id piece = asked_on its_sender (write (outlet id) piece)

-- `write_eof`: the end is passed on where nothing is unsent, and else when all was sent
abbrev pub write_eof : ℕ → Connection → Doing Connection
write_eof id c =
    if is_closing c.sender || c.sender.writer.eof then Ends c
    else (let after = record c { sender = with_writer (set_eof c.sender.writer) c.sender } in
    if has_unsent c.sender then Ends after else asks (call.Shut id) (Ends after))

-- `drain`: the reader's exception comes first, and isn't asked for again after the bare `yield`
abbrev pub drain_of : (yielded : Bool) (next : ℕ) → Connection → Doing (Connection × Drain)
drain_of yielded next c =
    elim c.receiver.reader.failed [
      | None ↦ asked_on its_sender (drain_sender yielded next) c
      | Some exception ↦ if yielded then asked_on its_sender (drain_sender yielded next) c else Ends (c, drain_as.Raises exception)
    ]

abbrev pub limits_of : (high low : Option ℤ) → Connection → Doing (Connection × Limited)
limits_of high low = asked_on its_sender (limits_sender high low)
