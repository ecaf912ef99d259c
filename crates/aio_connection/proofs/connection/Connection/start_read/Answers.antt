use Rattle.std.proofs.Common.{sym, subst}
use Rattle.model_stream.specs.Connections.{Connection}
use Rattle.aio_connection.specs.Owned.{OwnsConnection}
use Rattle.aio_connection.proofs.connection.Connection.start_read.Goals as goal

pub returns-clause-own : goal.returns-clause-own
returns-clause-own c v own =
    let i = c.self.inside in
    let before : Connection = record { making = i.making; handler = i.handler; began = i.began; sender = i.sender; receiver = i.receiver } in
    let was : OwnsConnection v before = subst (OwnsConnection v) (sym c.self.view_is) own in
    record { making = was.making; sender = was.sender; waiter = was.waiter }
