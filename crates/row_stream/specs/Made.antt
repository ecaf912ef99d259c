-- Connections and children with a high mark of 8 and a low one of 2, readers with a limit of 4. The closed future of each
-- is future 5.
use Rattle.std.specs.Prelude.{ℕ, Bool, true, false, List, [], Option, None}
use Rattle.model_stream.specs.declared.phase.Phase.{Phase}
use Rattle.model_stream.specs.declared.phase.Phase.TheVariants as phase
use Rattle.model_stream.specs.Sending.{Writer, new_writer}
use Rattle.model_stream.specs.Reading.{Reading}
use Rattle.model_stream.specs.Senders.{Sender}
use Rattle.model_stream.specs.Receivers.{Receiver, StreamGot, AllGot}
use Rattle.model_stream.specs.Connections.{Connection, connecting}
use Rattle.model_stream.specs.Children.{Child}
use Rattle.row_stream.specs.Readers as reader
use Rattle.row_stream.specs.Writers.{writer, child_writer}

abbrev pub sender_of : Writer → (drains : List ℕ) → Phase → Sender
sender_of writer drains at = record { writer = writer; drains = drains; phase = at; closed_future = 5 }

abbrev pub receiver_of : Reading → (waiter : Option ℕ) → Receiver
receiver_of reader waiter = record { reader = reader; waiter = waiter }

-- ---- connections that stand and have begun to read
abbrev pub conn_of : Sender → Receiver → Connection
conn_of sender receiver =
    record { making = None; handler = None; began = true; sender = sender; receiver = receiver }

-- it reads, holds these bytes, and a read waits for more
abbrev pub reading : (held : List ℕ) (waiter : Option ℕ) → Connection
reading held waiter = conn_of (sender_of (writer [] false) [] phase.Open) (receiver_of (reader.reader held) waiter)

-- these bytes are unsent
abbrev pub unsent : (bytes : List ℕ) (paused : Bool) (drains : List ℕ) → Connection
unsent bytes paused drains = conn_of (sender_of (writer bytes paused) drains phase.Open) (receiver_of (reader.reader []) None)

-- it is closing, but these bytes are unsent
abbrev pub closing : (bytes : List ℕ) (paused : Bool) → Connection
closing bytes paused = conn_of (sender_of (writer bytes paused) [] phase.Closing) (receiver_of (reader.reader []) None)

-- loss is scheduled
abbrev pub dying_writer : (paused : Bool) → Writer
dying_writer paused = record (writer [] paused) { ended = true }

abbrev pub dying : (broken paused : Bool) (drains : List ℕ) → Receiver → Connection
dying broken paused drains receiver = conn_of (sender_of (dying_writer paused) drains (phase.Losing broken)) receiver

-- loss is done
abbrev pub dead : (broken paused : Bool) → Reading → Connection
dead broken paused held = conn_of (sender_of (dying_writer paused) [] (phase.Lost broken)) (receiver_of held None)

-- a connect stood, and was then dropped
abbrev pub dropped : Connection
dropped =
    record (connecting 5 6) {
      making = None;
      sender = record { writer = record (new_writer false) { ended = true }; drains = []; phase = phase.Losing false; closed_future = 5 };
    }

-- what a look of a read of all takes, and how the read goes on
abbrev pub looked : List ℕ → StreamGot → AllGot
looked taken got = record { taken = taken; got = got }

-- the end was written
abbrev pub with_end : Connection → Connection
with_end c = record c { sender = record c.sender { writer = record c.sender.writer { eof = true } } }

-- ---- children
abbrev pub child_of : Sender → (out : List ℕ) → (waiter : Option ℕ) → Child
child_of stdin out waiter =
    record {
      stdin = stdin;
      out = receiver_of (reader.reader out) waiter;
      errs = receiver_of (reader.reader []) None;
      code = None;
      waits = [];
    }

abbrev pub feeding : (unsent : List ℕ) (paused : Bool) → Phase → Child
feeding unsent paused at = child_of (sender_of (child_writer unsent paused) [] at) [] None

-- its standard input broke, or is over
abbrev pub over_input : Phase → Child
over_input at = child_of (sender_of (record (child_writer [] false) { ended = true }) [] at) [] None

abbrev pub fed_out : Child
fed_out = over_input (phase.Lost false)
