use Rattle.std.proofs.Common.{◌∙◌, sym}
use Rattle.aio_exchange.specs.Follows.{Reach, reach}
use Rattle.aio_task.specs.View.{View}
use Rattle.aio_connection.proofs.Calling.{down_before}
use Rattle.aio_connection.proofs.connection.Connection.down.Goals as goal

pub returns-in-None-clause-follows : goal.returns-in-None-clause-follows
returns-in-None-clause-follows g c =
    let at : Reach View g.row.W.Denot = reach c.args.parts.now c.args.port.now.wire.now c.args.port.now.events.now in
    down_before g.W.Wire.outside c.args.id c.args.self.now at (sym c.in-None.is ∙ c.making.ensures)
