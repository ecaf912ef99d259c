-- The requests on connections and children, on the whole of streams. Each names whom it is to: a connection or a child's
-- standard input is written, and a connection or a pipe of a child is read. What is opened is numbered, so a number that
-- none has is never asked for; it would change nothing.
-- Source: `streams.py`, StreamWriter and StreamReader; `subprocess.py`, Process.
use Rattle.std.specs.Prelude.{ℕ, ℤ, pos, Bool, if◌then◌else◌, List, [], ◌∷◌, ◌++◌, Option, Some, None, slice_get, slice_set}
use Rattle.std.specs.Option.{option_and_then, option_map}
use Rattle.model_pump.specs.declared.stream.Stream.{Stream}
use Rattle.model_wire.specs.declared.event.Handed.{Handed}
use Rattle.model_wire.specs.declared.event.Handed.TheVariants as to
use Rattle.model_stream.specs.declared.answers.ChildWait.{ChildWait}
use Rattle.model_stream.specs.declared.answers.ChildWait.TheVariants as wait_as
use Rattle.model_stream.specs.declared.answers.Drain.TheVariants as drain_as
use Rattle.model_stream.specs.declared.answers.StreamGot.TheVariants as got_as
use Rattle.model_stream.specs.declared.answers.Wrote.{Wrote}
use Rattle.model_stream.specs.declared.answers.Wrote.TheVariants as wrote
use Rattle.model_stream.specs.declared.put.Limited.{Limited}
use Rattle.model_stream.specs.declared.put.Limited.TheVariants as limited
use Rattle.model_stream.specs.Children as child
use Rattle.model_stream.specs.Children.{Child, its_pipe}
use Rattle.model_stream.specs.Connections as connection
use Rattle.model_stream.specs.Connections.{Connection, its_receiver}
use Rattle.model_stream.specs.Doing.{Doing, Ends, Part, and_then, asked_on}
use Rattle.model_stream.specs.Reading.{ReadOp}
use Rattle.model_stream.specs.Receivers as receiver
use Rattle.model_stream.specs.Receivers.{Receiver, StreamGot, AllGot}
use Rattle.model_stream.specs.Senders.{Sender, Drain, is_closing}
use Rattle.model_stream.specs.Sending.{put_answer, written_of}
use Rattle.model_stream.specs.Streams.{Streams, its_children, its_connections, on_one}

-- what is read: a connection, or a pipe that a child writes
pub data StreamReader : Type 0 where
  OfConn : (id : ℕ) → StreamReader
  OfChild : (pipe : Stream) (id : ℕ) → StreamReader

-- one of a kind changes, with an answer; `other` is the answer where none has the number
abbrev pub asked_one : {A R : Type 0} → Part Streams (List A) → R → (id : ℕ) → (A → Doing (A × R)) → Streams → Doing (Streams × R)
asked_one kind other id change s =
    elim (slice_get (kind.get s) id) [
      | None ↦ Ends (s, other)
      | Some one ↦ and_then (change one) (λ done. Ends (kind.put (slice_set (kind.get s) id done.0) s, done.1))
    ]

-- ---- writing
abbrev pub sender_of : Handed → Streams → Option Sender
sender_of (to.Conn id) s = option_map (λ c. c.sender) (slice_get s.connections id)
sender_of (to.Child id) s = option_map (λ p. p.stdin) (slice_get s.children id)

-- what of a piece is written: what is written to a closing child is dropped
abbrev pub written_by : Handed → List ℕ → Sender → List ℕ
written_by (to.Conn id) piece s = written_of (put_answer piece s.writer) piece
written_by (to.Child id) piece s = if is_closing s then [] else written_of (put_answer piece s.writer) piece

-- a piece that was written is noted
abbrev pub noted : Handed → (piece : List ℕ) → Streams → Streams
noted whom [] s = s
noted whom (byte ∷ bytes) s = record s { written = s.written ++ record { to = whom; piece = byte ∷ bytes } ∷ [] }

abbrev pub write_unnoted : Handed → (piece : List ℕ) → Streams → Doing (Streams × Wrote)
write_unnoted (to.Conn id) piece = asked_one its_connections wrote.Done id (connection.write_to id piece)
write_unnoted (to.Child id) piece = asked_one its_children wrote.Done id (child.write_child id piece)

abbrev pub write : Handed → (piece : List ℕ) → Streams → Doing (Streams × Wrote)
write whom piece s =
    elim (sender_of whom s) [
      | None ↦ Ends (s, wrote.Done)
      | Some sender ↦ write_unnoted whom piece (noted whom (written_by whom piece sender) s)
    ]

abbrev pub drain : (yielded : Bool) (next : ℕ) → Handed → Streams → Doing (Streams × Drain)
drain yielded next (to.Conn id) = asked_one its_connections drain_as.Goes id (connection.drain_of yielded next)
drain yielded next (to.Child id) = asked_one its_children drain_as.Goes id (child.drain_child yielded next)

abbrev pub limits : (high low : Option ℤ) → Handed → Streams → Doing (Streams × Limited)
limits high low (to.Conn id) = asked_one its_connections limited.Set id (connection.limits_of high low)
limits high low (to.Child id) = asked_one its_children limited.Set id (child.limits_child high low)

abbrev pub write_eof : (id : ℕ) → Streams → Doing Streams
write_eof id = on_one its_connections id (connection.write_eof id)

abbrev pub close : Handed → Streams → Doing Streams
close (to.Conn id) = on_one its_connections id (connection.close id)
close (to.Child id) = on_one its_children id (child.close_child id)

-- the future that `wait_closed` awaits
abbrev pub closed_future : Handed → Streams → Option ℕ
closed_future whom s = option_map (λ sender. sender.closed_future) (sender_of whom s)

-- a connect that is thrown an exception
abbrev pub drop_connect : (id : ℕ) → Streams → Doing Streams
drop_connect id = on_one its_connections id (connection.drop_connect id)

-- ---- reading
abbrev pub read_as : {R : Type 0} → R → StreamReader → (Receiver → Doing (Receiver × R)) → Streams → Doing (Streams × R)
read_as other (OfConn id) change = asked_one its_connections other id (asked_on its_receiver change)
read_as other (OfChild pipe id) change = asked_one its_children other id (asked_on (its_pipe pipe) change)

abbrev pub read : (next : ℕ) → ReadOp → StreamReader → Streams → Doing (Streams × StreamGot)
read next op from = read_as (got_as.Bytes []) from (receiver.read next op)

-- one look of a read with a negative count
abbrev pub read_all : (next : ℕ) → StreamReader → Streams → Doing (Streams × AllGot)
read_all next from = read_as (record { taken = []; got = got_as.Bytes [] }) from (receiver.read_all next)

-- the task of a read that waits on this future was resumed
abbrev pub give_up_read : (on : ℕ) → StreamReader → Streams → Streams
give_up_read on (OfConn id) s =
    elim (slice_get s.connections id) [
      | None ↦ s
      | Some c ↦ record s { connections = slice_set s.connections id (its_receiver.put (receiver.give_up_read on c.receiver) c) }
    ]
give_up_read on (OfChild pipe id) s =
    let part = its_pipe pipe in
    elim (slice_get s.children id) [
      | None ↦ s
      | Some p ↦ record s { children = slice_set s.children id (part.put (receiver.give_up_read on (part.get p)) p) }
    ]

-- ---- the exit of a child
abbrev pub wait : (next id : ℕ) → Streams → Doing (Streams × ChildWait)
wait next id = asked_one its_children (wait_as.Code (pos 0)) id (child.wait_child next)

-- none before the exit
abbrev pub returncode : (id : ℕ) → Streams → Option ℤ
returncode id s = option_and_then (λ p. p.code) (slice_get s.children id)

abbrev pub kill : (id : ℕ) → Streams → Doing Streams
kill id = on_one its_children id (child.kill id)
