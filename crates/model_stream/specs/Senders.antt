-- A writer with those who wait for it: the sending side of a connection, and a child's standard input.
-- Source: `selector_events.py`, `_SelectorTransport`; `unix_events.py`, `_UnixWritePipeTransport`; `streams.py`,
-- FlowControlMixin.
use Rattle.std.specs.Prelude.{ℕ, ℤ, Bool, true, false, not, ◌&&◌, if◌then◌else◌, List, [], ◌∷◌, ◌++◌, Option, Some, None}
use lib.Chars.{codes}
use Rattle.model_value.specs.declared.kind.Kind.TheVariants.{ConnectionResetError}
use Rattle.model_value.specs.declared.outcome.Outcome.TheVariants.{Value as Returned, Failed}
use Rattle.model_value.specs.Action.{Action}
use Rattle.model_value.specs.Value.{Nothing, Outcome, Exc, exception_of}
use Rattle.model_wire.specs.Call.{Call, Answer}
use Rattle.model_stream.specs.declared.phase.Phase.{Phase}
use Rattle.model_stream.specs.declared.phase.Phase.TheVariants as phase
use Rattle.model_stream.specs.declared.answers.Wrote.{Wrote}
use Rattle.model_stream.specs.declared.answers.Wrote.TheVariants as wrote
use Rattle.model_stream.specs.declared.answers.Drain as drain
use Rattle.model_stream.specs.declared.answers.Drain.TheVariants as drain_as
use Rattle.model_stream.specs.declared.put.Limited.{Limited}
use Rattle.model_stream.specs.declared.put.Put.{Put}
use Rattle.model_stream.specs.declared.put.Put.TheVariants.{Offer, Kept, Empty, AfterEof, Dropped}
use Rattle.model_stream.specs.Answers.{SentSome, SentNone, SendFailed, sent_by}
use Rattle.model_stream.specs.Doing.{Doing, Ends, Changes, Asks, MakeFuture, CallSoon, and_then, asks, settles}
use Rattle.model_stream.specs.Sending.{Writer, new_writer, is_nothing, offer, put, put_answer, took, set_ended, limits, limits_answer}

abbrev pub Drain : Type 0
Drain = drain.Drain Exc

-- `drains` are the futures that drains wait on, in order, and `closed_future` is the one that `wait_closed` awaits.
pub record Sender : Type 0 where
  pub writer : Writer
  pub drains : List ℕ
  pub phase : Phase
  pub closed_future : ℕ

abbrev pub new_sender : (whole : Bool) (closed_future : ℕ) → Sender
new_sender whole closed_future =
    record { writer = new_writer whole; drains = []; phase = phase.Open; closed_future = closed_future }

-- closed or lost, or about to be
abbrev pub is_closing : Sender → Bool
is_closing s =
    elim s.phase [
      | phase.Open ↦ false
      | phase.Closing ↦ true
      | phase.Losing broken ↦ true
      | phase.Lost broken ↦ true
    ]

-- loss is done
abbrev pub is_lost : Sender → Bool
is_lost s =
    elim s.phase [
      | phase.Open ↦ false
      | phase.Closing ↦ false
      | phase.Losing broken ↦ false
      | phase.Lost broken ↦ true
    ]

-- What a connection and a child's standard input don't share: the calls that send and close, the callback of the loss,
-- and the exception of a loss by failure.
pub record Outlet : Type 0 where
  pub sends : List ℕ → Call
  pub closes : Call
  pub loses : (broken : Bool) → Action
  pub exception : Exc

abbrev pub with_writer : Writer → Sender → Sender
with_writer writer s = record s { writer = writer }

abbrev pub has_unsent : Sender → Bool
has_unsent s = not (is_nothing s.writer.unsent)

-- ---- loss
-- what is unsent is dropped
abbrev pub ended_sender : Phase → Sender → Sender
ended_sender now s = record s { writer = set_ended s.writer; phase = now }

-- loss is scheduled
abbrev pub schedule_loss : Outlet → (broken : Bool) → Sender → Doing Sender
schedule_loss outlet broken s =
    Changes (CallSoon (outlet.loses broken)) (Ends (ended_sender (phase.Losing broken) s))

-- A failure of the outside. Where loss is scheduled or done it does nothing.
abbrev pub fail_sender : Outlet → Sender → Doing Sender
fail_sender outlet s = if s.writer.ended then Ends s else schedule_loss outlet true s

-- Closing waits for what is unsent; a closing one is closed no more.
abbrev pub close_sender : Outlet → Sender → Doing Sender
close_sender outlet s =
    if is_closing s then Ends s
    else (if has_unsent s then Ends (record s { phase = phase.Closing }) else schedule_loss outlet false s)

abbrev pub loss_of : Outlet → (broken : Bool) → Option Exc
loss_of outlet broken = if broken then Some outlet.exception else None

abbrev pub outcome_of : Option Exc → Outcome
outcome_of None = Returned Nothing
outcome_of (Some exception) = Failed exception

abbrev pub waiting_for_loss : Sender → List ℕ
waiting_for_loss s = s.closed_future ∷ (if s.writer.paused then s.drains else [])

-- The loss is done: those who wait are told, and the outside is asked to close.
abbrev pub lose_sender : Outlet → (broken : Bool) → Sender → Doing Sender
lose_sender outlet broken s =
    settles (waiting_for_loss s) (outcome_of (loss_of outlet broken))
    (asks outlet.closes (Ends (record (ended_sender (phase.Lost broken) s) { drains = [] })))

-- ---- sending
-- how an offer at a write went
abbrev pub offered : Outlet → Sender → Answer → Doing Sender
offered outlet s came =
    elim (sent_by came) [
      | SentSome count ↦ Ends (with_writer (took count s.writer) s)
      | SentNone ↦ Ends (with_writer (took 0 s.writer) s)
      | SendFailed ↦ fail_sender outlet s
    ]

abbrev pub write_as : Put → Outlet → Sender → Doing (Sender × Wrote)
write_as AfterEof outlet s = Ends (s, wrote.AfterEof)
write_as Offer outlet s =
    Asks (outlet.sends (offer s.writer)) (λ answer. and_then (offered outlet s answer) (λ after. Ends (after, wrote.Done)))
write_as Kept outlet s = Ends (s, wrote.Done)
write_as Empty outlet s = Ends (s, wrote.Done)
write_as Dropped outlet s = Ends (s, wrote.Done)

-- A piece is written. Where nothing was unsent it is offered at once.
abbrev pub write : Outlet → List ℕ → Sender → Doing (Sender × Wrote)
write outlet piece s = write_as (put_answer piece s.writer) outlet (with_writer (put piece s.writer) s)

-- bytes were sent: where writing resumes, those who drain go on
abbrev pub sent : ℕ → Sender → Doing Sender
sent count s =
    let after = took count s.writer in
    if s.writer.paused && not after.paused
    then settles s.drains (Returned Nothing) (Ends (record s { writer = after; drains = [] }))
    else Ends (with_writer after s)

-- how a send of what is unsent went
abbrev pub sent_more : Outlet → Sender → Answer → Doing Sender
sent_more outlet s came =
    elim (sent_by came) [
      | SentSome count ↦ sent count s
      | SentNone ↦ Ends s
      | SendFailed ↦ fail_sender outlet s
    ]

-- more may be sent
abbrev pub send_more : Outlet → Sender → Doing Sender
send_more outlet s = Asks (outlet.sends (offer s.writer)) (sent_more outlet s)

-- all was sent, and nothing failed
abbrev pub is_flushed : Sender → Bool
is_flushed s = not (has_unsent s) && not s.writer.ended

-- ---- requests
abbrev pub lost_text : List ℕ
lost_text = codes "Connection lost"

-- `drain` behind the reader's exception. `yielded` says that it comes after the bare `yield`.
abbrev pub drain_sender : (yielded : Bool) (next : ℕ) → Sender → Doing (Sender × Drain)
drain_sender yielded next s =
    if is_closing s && not yielded then Ends (s, drain_as.Yields)
    else (if is_lost s then Ends (s, drain_as.Raises (exception_of ConnectionResetError lost_text))
    else (if s.writer.paused
    then Changes MakeFuture (Ends (record s { drains = s.drains ++ next ∷ [] }, drain_as.Waits next))
    else Ends (s, drain_as.Goes)))

abbrev pub limits_sender : (high low : Option ℤ) → Sender → Doing (Sender × Limited)
limits_sender high low s = Ends (with_writer (limits high low s.writer) s, limits_answer high low)
