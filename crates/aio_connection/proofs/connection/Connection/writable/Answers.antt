use Rattle.std.proofs.Common.{◌∙◌, sym}
use Rattle.std.proofs.lemmas.Result.{err_from_is_err_and}
use Rattle.aio_exchange.specs.Follows.{Reach, after_of, reach}
use Rattle.aio_task.specs.View.{View}
use Rattle.aio_connection.proofs.Calling.{nothing_unsent, sends_stopped, sends_then}
use Rattle.aio_connection.proofs.connection.Connection.writable.Goals as goal

pub returns-then-not-has_unsent-clause-follows : goal.returns-then-not-has_unsent-clause-follows
returns-then-not-has_unsent-clause-follows g c =
    let at : Reach View g.row.W.Denot = reach c.args.parts.now c.args.port.now.wire.now c.args.port.now.events.now in
    nothing_unsent g.W.Wire.outside c.args.id c.args.self.now at (sym c.has_unsent.ensures ∙ c.if-not-has_unsent.true)

pub returns-in_err-send_more-clause-follows : goal.returns-in_err-send_more-clause-follows
returns-in_err-send_more-clause-follows g c =
    let p = err_from_is_err_and c.from_residual.result c.from_residual.ensures.1 in
    let old : Reach View g.row.W.Denot = reach c.args.parts.now c.args.port.now.wire.now c.args.port.now.events.now in
    let new : Reach View g.row.W.Denot = reach c.send_more.new.parts c.send_more.new.port.wire.now c.send_more.new.port.events.now in
    rw (p.1, p.2)
    (sends_stopped g.W.Wire.outside c.args.id c.args.self.now c.in_err-send_more.field-0.0 old new
    (sym c.has_unsent.ensures ∙ c.if-not-has_unsent.false) c.in_err-send_more.ensures.follows)

pub returns-clause-follows : goal.returns-clause-follows
returns-clause-follows g c =
    let old : Reach View g.row.W.Denot = reach c.args.parts.now c.args.port.now.wire.now c.args.port.now.events.now in
    let mid : Reach View g.row.W.Denot = reach c.send_more.new.parts c.send_more.new.port.wire.now c.send_more.new.port.events.now in
    let new : Reach View g.row.W.Denot = reach c.flushed.new.parts c.flushed.new.port.wire.now c.flushed.new.port.events.now in
    sends_then g.W.Wire.outside c.args.id c.args.self.now c.send_more.new.self old mid new (after_of c.flushed.new.self c.flushed.result)
    (sym c.has_unsent.ensures ∙ c.if-not-has_unsent.false) c.in_ok-send_more.ensures.follows c.flushed.ensures.follows
