use Rattle.std.proofs.Common.{length, sym}
use Rattle.aio_exchange.specs.Follows.{Reach, reach}
use Rattle.aio_task.specs.View.{View}
use Rattle.aio_listener.proofs.Accepts.{listens_not, listens_so}
use Rattle.aio_listener.proofs.accepting.readable_server.Goals as goal

pub returns-in-None-clause-comes : goal.returns-in-None-clause-comes
returns-in-None-clause-comes g c =
    let at : Reach View g.row.W.Denot = reach c.args.parts.now c.args.port.now.wire.now c.args.port.now.events.now in
    listens_not g.W.Wire.outside c.args.id (length c.args.parts.now.futures) c.args.streams.now at (sym c.in-None.ensures)

pub returns-in-Some-clause-comes : goal.returns-in-Some-clause-comes
returns-in-Some-clause-comes g c =
    let old : Reach View g.row.W.Denot = reach c.args.parts.now c.args.port.now.wire.now c.args.port.now.events.now in
    let new : Reach View g.row.W.Denot = reach c.accept_most.new.parts c.accept_most.new.port.wire.now c.accept_most.new.port.events.now in
    listens_so g.W.Wire.outside c.args.id (length c.args.parts.now.futures) c.args.streams.now c.in-Some.handler c.accept_most.new.streams old new
    c.accept_most.result (sym c.in-Some.ensures) c.accept_most.ensures.comes
