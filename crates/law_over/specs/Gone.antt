-- What is gone of all that was opened: a listener that is closed, and a connection or a child that is over.
use Rattle.std.specs.Prelude.{◌≡◌, Bool, true, false, not, ◌&&◌, Option, Some, None, is_none, is_some, slice_get}
use Rattle.model_stream.specs.Children.{Child}
use Rattle.model_stream.specs.Connections.{Connection}
use Rattle.model_stream.specs.Doing.{Doing}
use Rattle.model_stream.specs.Listeners.{Server}
use Rattle.model_stream.specs.Senders.{Sender, has_unsent, is_lost}
use Rattle.model_stream.specs.Streams.{Streams, Opened, OpenedServer, OpenedConn, OpenedChild}
use Rattle.law_over.specs.AllEnds.{AllEnds}

-- its loss is done, and nothing is left to send
abbrev pub is_spent : Sender → Bool
is_spent s = is_lost s && s.writer.ended && not (has_unsent s)

-- it isn't being made any more, and its loss is done
abbrev pub is_over : Connection → Bool
is_over c = is_none c.making && is_spent c.sender

-- its standard input's loss is done, both pipes ended, and its exit is known
abbrev pub is_over_child : Child → Bool
is_over_child p = is_spent p.stdin && p.out.reader.eof && p.errs.reader.eof && is_some p.code

abbrev pub is_closed : Server → Bool
is_closed server = not server.is_open

-- so is the one with this number, if there is one
abbrev pub holds_at : {A : Type 0} → (A → Bool) → Option A → Bool
holds_at test None = false
holds_at test (Some one) = test one

abbrev pub is_gone : Opened → Streams → Bool
is_gone (OpenedServer id) s = holds_at is_closed (slice_get s.servers id)
is_gone (OpenedConn id) s = holds_at is_over (slice_get s.connections id)
is_gone (OpenedChild id) s = holds_at is_over_child (slice_get s.children id)

-- what was gone is gone after it, however a tree ends
abbrev pub StaysGone : (Streams → Doing Streams) → Type 0
StaysGone tree =
    (one : Opened) (s : Streams) → is_gone one s ≡ true → AllEnds (λ after. is_gone one after ≡ true) (tree s)

-- the same of a tree with an answer
abbrev pub StaysGoneWith : {R : Type 0} → (Streams → Doing (Streams × R)) → Type 0
StaysGoneWith tree =
    (one : Opened) (s : Streams) → is_gone one s ≡ true → AllEnds (λ done. is_gone one done.0 ≡ true) (tree s)
