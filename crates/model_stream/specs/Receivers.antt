-- A reader with the future that a read waits on: the receiving side of a connection, and each pipe that a child writes.
-- Source: `streams.py`, StreamReader: `feed_data`, `feed_eof`, `set_exception`, `_wakeup_waiter`, `_wait_for_data`.
use Rattle.std.specs.Prelude.{ℕ, Bool, not, ◌&&◌, ◌==◌, if◌then◌else◌, List, [], Option, Some, None, length}
use lib.Chars.{codes}
use Rattle.model_value.specs.declared.kind.Kind.TheVariants.{RuntimeError}
use Rattle.model_value.specs.declared.outcome.Outcome.TheVariants.{Value as Returned}
use Rattle.model_value.specs.Value.{Nothing, Exc, exception_of}
use Rattle.model_stream.specs.declared.answers.StreamGot as got
use Rattle.model_stream.specs.declared.answers.StreamGot.TheVariants as got_as
use Rattle.model_stream.specs.declared.read_op.Taken.TheVariants as taken
use Rattle.model_stream.specs.Doing.{Doing, Ends, Changes, MakeFuture, Settle, and_then}
use Rattle.model_stream.specs.Reading.{Reading, new_reading, feed, feed_eof, fail, resume, ReadOp, Taken, Take, gives, take_read, after_take}

abbrev pub StreamGot : Type 0
StreamGot = got.StreamGot (List ℕ) Exc

-- A read's waiter is held until it is woken or its task is resumed.
pub record Receiver : Type 0 where
  pub reader : Reading
  pub waiter : Option ℕ

-- how many bytes a stream's reader may hold before a line is too long
abbrev pub stream_limit : ℕ
stream_limit = 65536

abbrev pub new_receiver : Receiver
new_receiver = record { reader = new_reading stream_limit; waiter = None }

-- whether it takes more
abbrev pub takes_more : Receiver → Bool
takes_more r = not r.reader.eof && not r.reader.paused

-- ---- what comes wakes the waiter, which then looks again
abbrev pub wakes : Reading → Option ℕ → Doing Receiver
wakes reader None = Ends (record { reader = reader; waiter = None })
wakes reader (Some future) =
    Changes (Settle future (Returned Nothing)) (Ends (record { reader = reader; waiter = None }))

abbrev pub receive : List ℕ → Receiver → Doing Receiver
receive piece r = wakes (feed piece r.reader) r.waiter

abbrev pub receive_end : Receiver → Doing Receiver
receive_end r = wakes (feed_eof r.reader) r.waiter

-- the connection is lost: with an exception, or by its end
abbrev pub receive_loss : Option Exc → Receiver → Doing Receiver
receive_loss None r = receive_end r
receive_loss (Some exception) r = wakes (fail exception r.reader) r.waiter

-- ---- reads
abbrev pub second_waiter : Exc
second_waiter =
    exception_of RuntimeError (codes "read called while another coroutine is already waiting for incoming data")

-- A read that needs more waits on a future of its own, the next, and resumes reading; a second one at a time is refused.
abbrev pub wait_for_data : (next : ℕ) → Receiver → Doing (Receiver × StreamGot)
wait_for_data next r =
    elim r.waiter [
      | Some future ↦ Ends (r, got_as.Raises second_waiter)
      | None ↦ Changes MakeFuture (Ends (record { reader = resume r.reader; waiter = Some next }, got_as.Waits next))
    ]

abbrev pub read_as : Taken → Take → (next : ℕ) → Receiver → Doing (Receiver × StreamGot)
read_as (taken.Bytes bytes) t next r = Ends (record r { reader = after_take t r.reader }, got_as.Bytes bytes)
read_as (taken.Raises exception) t next r = Ends (record r { reader = after_take t r.reader }, got_as.Raises exception)
read_as taken.Needs t next r = wait_for_data next r

-- An operation, at its start and again at each waking.
abbrev pub read : (next : ℕ) → ReadOp → Receiver → Doing (Receiver × StreamGot)
read next op r = let t = take_read op r.reader in read_as t.answer t next r

-- One look of a read of all: what it takes, which stays with the read, and how the read goes on. It ends where no bytes
-- come.
pub record AllGot : Type 0 where
  pub taken : List ℕ
  pub got : StreamGot

abbrev pub all_taken : Receiver → Receiver
all_taken r = record r { reader = after_take (gives (length r.reader.held) r.reader.held) r.reader }

-- `read` with a negative count, at its start and again at each waking
abbrev pub read_all : (next : ℕ) → Receiver → Doing (Receiver × AllGot)
read_all next r =
    elim r.reader.failed [
      | Some exception ↦ Ends (r, record { taken = []; got = got_as.Raises exception })
      | None ↦ if r.reader.eof
          then Ends (all_taken r, record { taken = r.reader.held; got = got_as.Bytes [] })
          else and_then (wait_for_data next (all_taken r)) (λ done. Ends (done.0, record { taken = r.reader.held; got = done.1 }))
    ]

-- the task that waits on this future was resumed: it waits no more
abbrev pub give_up_read : (on : ℕ) → Receiver → Receiver
give_up_read on r =
    elim r.waiter [ None ↦ r | Some future ↦ if future == on then record r { waiter = None } else r ]
