use Rattle.std.proofs.Common.{length, ◌∙◌, refl, sym}
use Rattle.std.proofs.lemmas.Result.{err_from_is_err_and}
use Rattle.aio_exchange.specs.Follows.{Reach, reach}
use Rattle.aio_task.specs.View.{View}
use Rattle.aio_listener.proofs.Connects.{connect_begins, connect_met, connect_refused, connect_starved}
use Rattle.aio_listener.proofs.beginning.connect.Goals as goal

pub returns-in_err-came-clause-comes : goal.returns-in_err-came-clause-comes
returns-in_err-came-clause-comes g c =
    let p = err_from_is_err_and c.from_residual.result c.from_residual.ensures.1 in
    let old : Reach View g.row.W.Denot = reach c.args.parts.now c.args.port.now.wire.now c.args.port.now.events.now in
    let mid : Reach View g.row.W.Denot = reach c.args.parts.now c.ask.new.port.wire.now c.ask.new.port.events.now in
    rw (p.1, p.2)
    (connect_met g.W.Wire.outside c.args.number (length c.args.parts.now.futures) c.args.streams.now old mid c.args.streams.now
    c.in_err-came.field-0.0 c.in_err-came.ensures.asks refl)

pub returns-then-not-comes-clause-comes : goal.returns-then-not-comes-clause-comes
returns-then-not-comes-clause-comes g c =
    let old : Reach View g.row.W.Denot = reach c.args.parts.now c.args.port.now.wire.now c.args.port.now.events.now in
    let mid : Reach View g.row.W.Denot = reach c.args.parts.now c.ask.new.port.wire.now c.ask.new.port.events.now in
    connect_refused g.W.Wire.outside c.args.number (length c.args.parts.now.futures) c.args.streams.now old mid c.in_ok-came.came
    c.in_ok-came.ensures.asks refl (sym c.is_conn-comes.ensures ∙ c.if-not-comes.true)

pub returns-in_err-begin-clause-comes : goal.returns-in_err-begin-clause-comes
returns-in_err-begin-clause-comes g c =
    let p = err_from_is_err_and c.from_residual-in_err-begin.result c.from_residual-in_err-begin.ensures.1 in
    let old : Reach View g.row.W.Denot = reach c.args.parts.now c.args.port.now.wire.now c.args.port.now.events.now in
    let mid : Reach View g.row.W.Denot = reach c.args.parts.now c.ask.new.port.wire.now c.ask.new.port.events.now in
    let new : Reach View g.row.W.Denot = reach c.begin.new.parts c.ask.new.port.wire.now c.ask.new.port.events.now in
    rw (p.1, p.2)
    (connect_starved g.W.Wire.outside c.args.number (length c.args.parts.now.futures) c.args.streams.now old mid c.in_ok-came.came
    c.in_ok-came.ensures.asks refl c.begin.new.streams new refl)

pub returns-clause-comes : goal.returns-clause-comes
returns-clause-comes g c =
    let old : Reach View g.row.W.Denot = reach c.args.parts.now c.args.port.now.wire.now c.args.port.now.events.now in
    let mid : Reach View g.row.W.Denot = reach c.args.parts.now c.ask.new.port.wire.now c.ask.new.port.events.now in
    let new : Reach View g.row.W.Denot = reach c.begin.new.parts c.ask.new.port.wire.now c.ask.new.port.events.now in
    connect_begins g.W.Wire.outside c.args.number (length c.args.parts.now.futures) c.args.streams.now old mid c.in_ok-came.came
    c.in_ok-came.ensures.asks refl c.begin.new.streams new c.in_ok-begin.field-0 (sym c.is_conn-comes.ensures ∙ c.if-not-comes.false) refl
    c.in_ok-begin.ensures.told
