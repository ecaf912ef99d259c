use Rattle.std.proofs.Common.{slice_get, ◌∙◌, sym, ap}
use Rattle.model_stream.specs.Streams.{OpenedChild, OpenedConn, OpenedServer}
use Rattle.model_stream.specs.Watching.{watched_child}
use Rattle.aio_stream.specs.declared.opened.Opened.{Opened}
use Rattle.aio_stream.specs.Kept.{opened_as}
use Rattle.aio_transports.specs.Kept.{Kept}
use Rattle.aio_transports.specs.Watched.{watched_of}
use Rattle.aio_transports.proofs.Watches.{one_entry}
use Rattle.aio_transports.proofs.transports.Transports.watched.Goals as goal

pub returns-in-Server : goal.returns-in-Server
returns-in-Server c =
    c.watched_server.ensures ∙ ap (λ (k : Kept). watched_of k (OpenedServer c.in-Server.id)) c.self.view_is
    ∙ ap (λ (one : Opened). watched_of c.args.self.now (opened_as one)) (sym c.in-Server.is)

pub returns-in-Conn : goal.returns-in-Conn
returns-in-Conn c =
    c.watched_connection.ensures ∙ ap (λ (k : Kept). watched_of k (OpenedConn c.in-Conn.id)) c.self.view_is
    ∙ ap (λ (one : Opened). watched_of c.args.self.now (opened_as one)) (sym c.in-Conn.is)

pub returns-in-Child : goal.returns-in-Child
returns-in-Child c =
    one_entry c.watch.result (watched_child c.in-Child.id (slice_get c.self.inside.children.children c.in-Child.id)) c.watch.ensures
    ∙ ap (λ (k : Kept). watched_of k (OpenedChild c.in-Child.id)) c.self.view_is
    ∙ ap (λ (one : Opened). watched_of c.args.self.now (opened_as one)) (sym c.in-Child.is)
