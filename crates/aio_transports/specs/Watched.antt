-- What is watched of one that was opened, and whether it is gone, by what is kept.
use Rattle.std.specs.Prelude.{Bool, not, List, slice_get}
use Rattle.std.specs.List.{filter}
use Rattle.model_wire.specs.declared.watch.Watch.{Watch}
use Rattle.model_stream.specs.Streams.{Opened, OpenedServer, OpenedConn, OpenedChild}
use Rattle.model_stream.specs.Watching.{watched_child, watched_connection, watched_server}
use Rattle.law_over.specs.Gone.{holds_at, is_closed, is_over, is_over_child}
use Rattle.aio_children.specs.Kept.{Kept as Children}
use Rattle.aio_stream.specs.Kept.{Kept as Conns, may_connect}
use Rattle.aio_transports.specs.Kept.{Kept, Remaining}

abbrev pub watched_of : Kept → Opened → List Watch
watched_of k (OpenedServer id) = watched_server (may_connect k.streams) id (slice_get k.streams.servers id)
watched_of k (OpenedConn id) = watched_connection id (slice_get k.streams.connections id)
watched_of k (OpenedChild id) = watched_child id (slice_get k.children.children id)

abbrev pub gone_of : Conns → Children → Opened → Bool
gone_of c p (OpenedServer id) = holds_at is_closed (slice_get c.servers id)
gone_of c p (OpenedConn id) = holds_at is_over (slice_get c.connections id)
gone_of c p (OpenedChild id) = holds_at is_over_child (slice_get p.children id)

-- what is gone is left out
abbrev pub without_gone : Conns → Children → Remaining → Remaining
without_gone c p r = record r { those = filter (λ one. not (gone_of c p one)) r.those }
