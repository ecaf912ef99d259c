-- The futures that streams keep: those that drains wait on and the one that `wait_closed` awaits, the one that a read waits on,
-- the one that a connect waits on, and those that waits for a child's exit are on. Of each kind, that all of them are so, and
-- how often a future is one of them.
use Rattle.std.specs.Prelude.{◌≡◌, ℕ, ◌+◌, List, [], ◌∷◌, Option, Some, None, nat_eq, slice_get, if◌then◌else◌}
use Rattle.std.specs.List.{count_by, sum_by}
use Rattle.model_stream.specs.Children.{Child}
use Rattle.model_stream.specs.Connections.{Connection}
use Rattle.model_stream.specs.Receivers.{Receiver}
use Rattle.model_stream.specs.Senders.{Sender}
use Rattle.model_stream.specs.Streams.{Streams}

abbrev pub AllAre : (ℕ → Type 0) → List ℕ → Type 0
AllAre P [] = Unit {0}
AllAre P (future ∷ futures) = P future × AllAre P futures

abbrev pub OneIs : (ℕ → Type 0) → Option ℕ → Type 0
OneIs P None = Unit {0}
OneIs P (Some future) = P future

abbrev pub SenderKeeps : (ℕ → Type 0) → Sender → Type 0
SenderKeeps P s = P s.closed_future × AllAre P s.drains

abbrev pub ReceiverKeeps : (ℕ → Type 0) → Receiver → Type 0
ReceiverKeeps P r = OneIs P r.waiter

abbrev pub ConnectionKeeps : (ℕ → Type 0) → Connection → Type 0
ConnectionKeeps P c = OneIs P c.making × SenderKeeps P c.sender × ReceiverKeeps P c.receiver

abbrev pub ChildKeeps : (ℕ → Type 0) → Child → Type 0
ChildKeeps P p = SenderKeeps P p.stdin × ReceiverKeeps P p.out × ReceiverKeeps P p.errs × AllAre P p.waits

pub record StreamsKeep (P : ℕ → Type 0) (s : Streams) : Type 0 where
  pub connections : (id : ℕ) (c : Connection) → slice_get s.connections id ≡ Some c → ConnectionKeeps P c
  pub children : (id : ℕ) (p : Child) → slice_get s.children id ≡ Some p → ChildKeeps P p

-- ---- how often a future is kept
abbrev pub one_time : (future : ℕ) → Option ℕ → ℕ
one_time future None = 0
one_time future (Some other) = if nat_eq future other then 1 else 0

abbrev pub sender_times : (future : ℕ) → Sender → ℕ
sender_times future s = one_time future (Some s.closed_future) + count_by (nat_eq future) s.drains

abbrev pub receiver_times : (future : ℕ) → Receiver → ℕ
receiver_times future r = one_time future r.waiter

abbrev pub connection_times : (future : ℕ) → Connection → ℕ
connection_times future c = one_time future c.making + sender_times future c.sender + receiver_times future c.receiver

abbrev pub child_times : (future : ℕ) → Child → ℕ
child_times future p =
    sender_times future p.stdin + receiver_times future p.out + receiver_times future p.errs + count_by (nat_eq future) p.waits

-- how often otherwise than by a connect that waits on it
abbrev pub connection_asked : (future : ℕ) → Connection → ℕ
connection_asked future c = sender_times future c.sender + receiver_times future c.receiver

abbrev pub times_asked : (future : ℕ) → Streams → ℕ
times_asked future s = sum_by (connection_asked future) s.connections + sum_by (child_times future) s.children

abbrev pub times_kept : (future : ℕ) → Streams → ℕ
times_kept future s = sum_by (connection_times future) s.connections + sum_by (child_times future) s.children
