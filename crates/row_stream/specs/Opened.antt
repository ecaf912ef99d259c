-- All that is open: listener 0, whose handler is coroutine 3, and connections. A hundred of each kind can be numbered.
use Rattle.std.specs.Prelude.{ℕ, true, false, List, [], ◌∷◌, ◌++◌}
use Rattle.model_wire.specs.declared.event.Handed.{Handed}
use Rattle.model_stream.specs.Children.{Child}
use Rattle.model_stream.specs.Connections.{Connection}
use Rattle.model_stream.specs.Streams.{Streams, Opened, OpenedServer, OpenedConn, OpenedChild, no_streams}

abbrev pub open_with : List Connection → List Opened → Streams
open_with connections opened =
    record {
      servers = record { handler = 3; is_open = true } ∷ [];
      connections = connections;
      children = [];
      opened = opened;
      written = [];
      most = 100;
    }

abbrev pub listening : Streams
listening = open_with [] (OpenedServer 0 ∷ [])

-- connection 0 was opened after the listener
abbrev pub one_open : Connection → Streams
one_open c = open_with (c ∷ []) (OpenedServer 0 ∷ OpenedConn 0 ∷ [])

abbrev pub not_listening : Streams
not_listening = record listening { servers = record { handler = 3; is_open = false } ∷ [] }

-- connection 0 alone, or child 0
abbrev pub only : Connection → Streams
only c = record (no_streams 100) { connections = c ∷ []; opened = OpenedConn 0 ∷ [] }

abbrev pub only_child : Child → Streams
only_child p = record (no_streams 100) { children = p ∷ []; opened = OpenedChild 0 ∷ [] }

-- so many of each kind can be numbered
abbrev pub at_most : ℕ → Streams → Streams
at_most most s = record s { most = most }

-- a piece was written
abbrev pub with_piece : Handed → (piece : List ℕ) → Streams → Streams
with_piece whom piece s = record s { written = s.written ++ record { to = whom; piece = piece } ∷ [] }
