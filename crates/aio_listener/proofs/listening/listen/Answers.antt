use Rattle.std.proofs.Common.{◌∙◌, refl, sym}
use Rattle.std.proofs.lemmas.Result.{err_from_is_err_and}
use Rattle.aio_exchange.specs.Follows.{Reach, reach}
use Rattle.aio_task.specs.View.{View}
use Rattle.aio_listener.proofs.Listens.{listen_met, listen_opens, listen_refused, listen_starved}
use Rattle.aio_listener.proofs.listening.listen.Goals as goal

pub returns-in_err-came-clause-comes : goal.returns-in_err-came-clause-comes
returns-in_err-came-clause-comes g c v =
    let p = err_from_is_err_and c.from_residual.result c.from_residual.ensures.1 in
    let old : Reach View g.row.W.Denot = reach v c.args.port.now.wire.now c.args.port.now.events.now in
    let new : Reach View g.row.W.Denot = reach v c.ask.new.port.wire.now c.ask.new.port.events.now in
    rw (p.1, p.2)
    (listen_met g.W.Wire.outside c.args.number c.args.handler c.args.streams.now old new c.args.streams.now c.in_err-came.field-0.0
    c.in_err-came.ensures.asks refl)

pub returns-then-not-opens-clause-comes : goal.returns-then-not-opens-clause-comes
returns-then-not-opens-clause-comes g c v =
    let old : Reach View g.row.W.Denot = reach v c.args.port.now.wire.now c.args.port.now.events.now in
    let new : Reach View g.row.W.Denot = reach v c.ask.new.port.wire.now c.ask.new.port.events.now in
    listen_refused g.W.Wire.outside c.args.number c.args.handler c.args.streams.now old new c.in_ok-came.came c.in_ok-came.ensures.asks refl
    (sym c.is_done-opens.ensures ∙ c.if-not-opens.true)

pub returns-in_err-id-clause-comes : goal.returns-in_err-id-clause-comes
returns-in_err-id-clause-comes g c v =
    let p = err_from_is_err_and c.from_residual-in_err-id.result c.from_residual-in_err-id.ensures.1 in
    let old : Reach View g.row.W.Denot = reach v c.args.port.now.wire.now c.args.port.now.events.now in
    let new : Reach View g.row.W.Denot = reach v c.ask.new.port.wire.now c.ask.new.port.events.now in
    rw (p.1, p.2)
    (listen_starved g.W.Wire.outside c.args.number c.args.handler c.args.streams.now old new c.in_ok-came.came c.in_ok-came.ensures.asks refl
    c.add_server.new.self)

pub returns-clause-comes : goal.returns-clause-comes
returns-clause-comes g c v =
    let old : Reach View g.row.W.Denot = reach v c.args.port.now.wire.now c.args.port.now.events.now in
    let new : Reach View g.row.W.Denot = reach v c.ask.new.port.wire.now c.ask.new.port.events.now in
    listen_opens g.W.Wire.outside c.args.number c.args.handler c.args.streams.now old new c.in_ok-came.came c.in_ok-came.ensures.asks refl
    c.add_server.new.self c.in_ok-id.id (sym c.is_done-opens.ensures ∙ c.if-not-opens.false) c.in_ok-id.ensures.after c.in_ok-id.ensures.number
