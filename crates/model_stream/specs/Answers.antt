-- How a call was answered. An answer that doesn't fit its call ends the run, so what it stands for here is never seen.
use Rattle.std.specs.Prelude.{ℕ, Bool, true, false}
use Rattle.model_wire.specs.declared.answer.Answer.TheVariants as answer
use Rattle.model_wire.specs.Call.{Answer}

-- to a send or a feed: so many bytes were taken, none now, or the other end is gone
pub data Sent : Type 0 where
  SentSome : (count : ℕ) → Sent
  SentNone : Sent
  SendFailed : Sent

abbrev pub sent_by : Answer → Sent
sent_by (answer.Took count) = SentSome count
sent_by answer.Again = SentNone
sent_by answer.Broken = SendFailed
sent_by (answer.Turn now items) = SendFailed
sent_by answer.Done = SendFailed
sent_by answer.Refused = SendFailed
sent_by answer.Conn = SendFailed
sent_by (answer.Data bytes) = SendFailed
sent_by answer.Eof = SendFailed
sent_by answer.Child = SendFailed
sent_by (answer.Extra bytes) = SendFailed

-- to a `listen`: the listener is open
abbrev pub is_done : Answer → Bool
is_done answer.Done = true
is_done answer.Refused = false
is_done (answer.Turn now items) = false
is_done answer.Conn = false
is_done answer.Again = false
is_done answer.Broken = false
is_done (answer.Data bytes) = false
is_done answer.Eof = false
is_done (answer.Took count) = false
is_done answer.Child = false
is_done (answer.Extra bytes) = false

-- to an `accept` or a `connect`: there is a connection
abbrev pub is_conn : Answer → Bool
is_conn answer.Conn = true
is_conn answer.Again = false
is_conn answer.Broken = false
is_conn answer.Refused = false
is_conn (answer.Turn now items) = false
is_conn answer.Done = false
is_conn (answer.Data bytes) = false
is_conn answer.Eof = false
is_conn (answer.Took count) = false
is_conn answer.Child = false
is_conn (answer.Extra bytes) = false

-- to a `launch`: a child was started
abbrev pub is_child : Answer → Bool
is_child answer.Child = true
is_child answer.Refused = false
is_child (answer.Turn now items) = false
is_child answer.Done = false
is_child answer.Conn = false
is_child answer.Again = false
is_child answer.Broken = false
is_child (answer.Data bytes) = false
is_child answer.Eof = false
is_child (answer.Took count) = false
is_child (answer.Extra bytes) = false
