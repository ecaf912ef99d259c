-- Child programs: a standard input, which is written, and two pipes, which are read; and the exit.
-- Source: `base_subprocess.py`, BaseSubprocessTransport; `unix_events.py`, `_UnixWritePipeTransport` and
-- `_UnixReadPipeTransport`; `subprocess.py`, Process.
use Rattle.std.specs.Prelude.{ℕ, ℤ, Bool, true, false, ◌&&◌, if◌then◌else◌, List, [], ◌∷◌, ◌++◌, Option, Some, None, is_none}
use Rattle.model_pump.specs.declared.stream.Stream.{Stream}
use Rattle.model_pump.specs.declared.stream.Stream.TheVariants as stream
use Rattle.model_value.specs.declared.action.Action.TheVariants.{LostChild}
use Rattle.model_value.specs.declared.action.ChildItem.{ChildItem}
use Rattle.model_value.specs.declared.action.ChildItem.TheVariants.{Broken, Out, OutEnd, Errs, ErrsEnd, Exit}
use Rattle.model_value.specs.declared.kind.Kind.TheVariants.{BrokenPipeError}
use Rattle.model_value.specs.declared.outcome.Outcome.TheVariants.{Value as Returned}
use Rattle.model_value.specs.Value.{Int, exception_of}
use Rattle.model_wire.specs.declared.call.Call.TheVariants as call
use Rattle.model_stream.specs.declared.answers.ChildWait.{ChildWait}
use Rattle.model_stream.specs.declared.answers.ChildWait.TheVariants as wait_as
use Rattle.model_stream.specs.declared.answers.Wrote.{Wrote}
use Rattle.model_stream.specs.declared.answers.Wrote.TheVariants as wrote
use Rattle.model_stream.specs.declared.put.Limited.{Limited}
use Rattle.model_stream.specs.Doing.{Doing, Ends, Changes, MakeFuture, Part, and_then, asks, asked_on, on, settles}
use Rattle.model_stream.specs.Receivers.{Receiver, new_receiver, takes_more, receive, receive_end}
use Rattle.model_stream.specs.Senders.{Sender, Outlet, Drain, new_sender, has_unsent, is_closing, schedule_loss, close_sender, lose_sender, write, send_more}
use Rattle.model_stream.specs.Senders.{is_flushed, drain_sender, limits_sender, lost_text}

-- `waits` are the futures that waits for the exit are on, in order.
pub record Child : Type 0 where
  pub stdin : Sender
  pub out : Receiver
  pub errs : Receiver
  pub code : Option ℤ
  pub waits : List ℕ

abbrev pub new_child : (closed_future : ℕ) → Child
new_child closed_future =
    record { stdin = new_sender true closed_future; out = new_receiver; errs = new_receiver; code = None; waits = [] }

abbrev pub inlet : ℕ → Outlet
inlet id =
    record {
      sends = λ bytes. call.Feed id bytes;
      closes = call.End id;
      loses = λ broken. LostChild id broken;
      exception = exception_of BrokenPipeError lost_text;
    }

abbrev pub its_stdin : Part Child Sender
its_stdin = record { get = λ p. p.stdin; put = λ stdin p. record p { stdin = stdin } }

-- the pipes that it writes
abbrev pub its_pipe : Stream → Part Child Receiver
its_pipe stream.Out = record { get = λ p. p.out; put = λ out p. record p { out = out } }
its_pipe stream.Errs = record { get = λ p. p.errs; put = λ errs p. record p { errs = errs } }

-- ---- callbacks
-- `lost`
abbrev pub lose_child : ℕ → (broken : Bool) → Child → Doing Child
lose_child id broken = on its_stdin (lose_sender (inlet id) broken)

-- where all was fed, a closing input is lost at once
abbrev pub fed : ℕ → Child → Doing Child
fed id p = if is_flushed p.stdin && is_closing p.stdin then lose_child id false p else Ends p

-- `writable`, unless nothing is unsent
abbrev pub feed_more : ℕ → Child → Doing Child
feed_more id p = if has_unsent p.stdin then and_then (on its_stdin (send_more (inlet id)) p) (fed id) else Ends p

-- its standard input broke: without an exception where nothing was unsent
abbrev pub break_stdin : ℕ → Child → Doing Child
break_stdin id p =
    if p.stdin.writer.ended then Ends p else on its_stdin (schedule_loss (inlet id) (has_unsent p.stdin)) p

-- a pipe that takes no more is told nothing
abbrev pub told_pipe : Stream → (Receiver → Doing Receiver) → Child → Doing Child
told_pipe from change p =
    let pipe = its_pipe from in
    if takes_more (pipe.get p) then on pipe change p else Ends p

-- the exit: those who wait are told in order
abbrev pub exit_with : ℤ → Child → Doing Child
exit_with code p =
    if is_none p.code then settles p.waits (Returned (Int code)) (Ends (record p { code = Some code; waits = [] }))
    else Ends p

-- `childitem`
abbrev pub tell_child : ℕ → ChildItem (List ℕ) → Child → Doing Child
tell_child id Broken p = break_stdin id p
tell_child id (Out bytes) p = told_pipe stream.Out (receive bytes) p
tell_child id OutEnd p = told_pipe stream.Out receive_end p
tell_child id (Errs bytes) p = told_pipe stream.Errs (receive bytes) p
tell_child id ErrsEnd p = told_pipe stream.Errs receive_end p
tell_child id (Exit code) p = exit_with code p

-- ---- requests
abbrev pub close_child : ℕ → Child → Doing Child
close_child id = on its_stdin (close_sender (inlet id))

-- what is written to a closing input is dropped
abbrev pub write_child : ℕ → List ℕ → Child → Doing (Child × Wrote)
write_child id piece p =
    if is_closing p.stdin then Ends (p, wrote.Done) else asked_on its_stdin (write (inlet id) piece) p

abbrev pub drain_child : (yielded : Bool) (next : ℕ) → Child → Doing (Child × Drain)
drain_child yielded next = asked_on its_stdin (drain_sender yielded next)

abbrev pub limits_child : (high low : Option ℤ) → Child → Doing (Child × Limited)
limits_child high low = asked_on its_stdin (limits_sender high low)

-- a wait for the exit
abbrev pub wait_child : (next : ℕ) → Child → Doing (Child × ChildWait)
wait_child next p =
    elim p.code [
      | Some code ↦ Ends (p, wait_as.Code code)
      | None ↦ Changes MakeFuture (Ends (record p { waits = p.waits ++ next ∷ [] }, wait_as.Waits next))
    ]

-- nothing is asked after the exit
abbrev pub kill : ℕ → Child → Doing Child
kill id p = if is_none p.code then asks (call.Kill id) (Ends p) else Ends p
