use Rattle.std.proofs.Common.{refl, sym}
use Rattle.std.proofs.lemmas.Result.{err_from_is_err_and}
use Rattle.aio_exchange.specs.Follows.{Reach, reach}
use Rattle.aio_task.specs.View.{View}
use Rattle.aio_listener.proofs.Listens.{closes_met, closes_not, closes_open}
use Rattle.aio_listener.proofs.listening.close_server.Goals as goal

pub returns-in_default-clause-comes : goal.returns-in_default-clause-comes
returns-in_default-clause-comes g c v =
    let at : Reach View g.row.W.Denot = reach v c.args.port.now.wire.now c.args.port.now.events.now in
    closes_not g.W.Wire.outside c.args.id c.args.streams.now at (sym c.in_default.ensures)

pub returns-in_err-ask-clause-comes : goal.returns-in_err-ask-clause-comes
returns-in_err-ask-clause-comes g c v =
    let p = err_from_is_err_and c.from_residual.result c.from_residual.ensures.1 in
    let old : Reach View g.row.W.Denot = reach v c.args.port.now.wire.now c.args.port.now.events.now in
    let new : Reach View g.row.W.Denot = reach v c.ask.new.port.wire.now c.ask.new.port.events.now in
    rw (p.1, p.2)
    (closes_met g.W.Wire.outside c.args.id c.args.streams.now c.in-Some._handler old new refl (sym c.in-Some.ensures) c.args.streams.now
    c.in_err-ask.field-0.0 c.in_err-ask.ensures.asks)

pub returns-clause-comes : goal.returns-clause-comes
returns-clause-comes g c v =
    let old : Reach View g.row.W.Denot = reach v c.args.port.now.wire.now c.args.port.now.events.now in
    let new : Reach View g.row.W.Denot = reach v c.ask.new.port.wire.now c.ask.new.port.events.now in
    closes_open g.W.Wire.outside c.args.id c.args.streams.now c.in-Some._handler old new refl (sym c.in-Some.ensures) c.close_listener.new.self
    c.in_ok-ask.field-0 c.in_ok-ask.ensures.asks c.close_listener.ensures
