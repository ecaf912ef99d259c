use Rattle.std.proofs.Common.{◌∙◌, refl, sym}
use Rattle.std.proofs.lemmas.Result.{err_from_is_err_and}
use Rattle.model_wire.specs.declared.call.Call.TheVariants as call
use Rattle.model_stream.specs.Connections.{received}
use Rattle.aio_exchange.specs.Follows.{Reach, reach}
use Rattle.aio_task.specs.View.{View}
use Rattle.aio_change.proofs.AfterAsking.{asks_met, asks_starved, asks_told}
use Rattle.aio_connection.proofs.Calling.{reads_no_more, reads_so}
use Rattle.aio_connection.proofs.connection.Connection.readable.Goals as goal

pub returns-then-not-reads-clause-follows : goal.returns-then-not-reads-clause-follows
returns-then-not-reads-clause-follows g c =
    let at : Reach View g.row.W.Denot = reach c.args.parts.now c.args.port.now.wire.now c.args.port.now.events.now in
    reads_no_more g.W.Wire.outside c.args.id c.args.self.now at (sym c.reads.ensures ∙ c.if-not-reads.true)

pub returns-in_err-answer-clause-follows : goal.returns-in_err-answer-clause-follows
returns-in_err-answer-clause-follows g c =
    let p = err_from_is_err_and c.from_residual.result c.from_residual.ensures.1 in
    let old : Reach View g.row.W.Denot = reach c.args.parts.now c.args.port.now.wire.now c.args.port.now.events.now in
    let new : Reach View g.row.W.Denot = reach c.args.parts.now c.ask.new.port.wire.now c.ask.new.port.events.now in
    rw (p.1, p.2)
    (reads_so g.W.Wire.outside c.args.id c.args.self.now old new _ (sym c.reads.ensures ∙ c.if-not-reads.false)
    (asks_met g.W.Wire.outside (call.Recv c.args.id) (call.Recv c.args.id) (received c.args.id c.args.self.now) refl c.in_err-answer.field-0.0
    old new c.in_err-answer.ensures.asks refl))

pub returns-in_err-done-clause-follows : goal.returns-in_err-done-clause-follows
returns-in_err-done-clause-follows g c =
    let p = err_from_is_err_and c.from_residual-in_err-done.result c.from_residual-in_err-done.ensures.1 in
    let old : Reach View g.row.W.Denot = reach c.args.parts.now c.args.port.now.wire.now c.args.port.now.events.now in
    let mid : Reach View g.row.W.Denot = reach c.args.parts.now c.ask.new.port.wire.now c.ask.new.port.events.now in
    let new : Reach View g.row.W.Denot = reach c.received-done.new.parts c.ask.new.port.wire.now c.ask.new.port.events.now in
    rw (p.1, p.2)
    (reads_so g.W.Wire.outside c.args.id c.args.self.now old new _ (sym c.reads.ensures ∙ c.if-not-reads.false)
    (asks_starved g.W.Wire.outside (call.Recv c.args.id) (call.Recv c.args.id) (received c.args.id c.args.self.now) refl c.in_ok-answer.answer
    old mid new c.in_ok-answer.ensures.asks refl refl))

pub returns-clause-follows : goal.returns-clause-follows
returns-clause-follows g c =
    let old : Reach View g.row.W.Denot = reach c.args.parts.now c.args.port.now.wire.now c.args.port.now.events.now in
    let mid : Reach View g.row.W.Denot = reach c.args.parts.now c.ask.new.port.wire.now c.ask.new.port.events.now in
    let new : Reach View g.row.W.Denot = reach c.received-done.new.parts c.ask.new.port.wire.now c.ask.new.port.events.now in
    reads_so g.W.Wire.outside c.args.id c.args.self.now old new _ (sym c.reads.ensures ∙ c.if-not-reads.false)
    (asks_told g.W.Wire.outside (call.Recv c.args.id) (call.Recv c.args.id) (received c.args.id c.args.self.now) refl c.in_ok-answer.answer
    old mid new c.received-done.new.self c.in_ok-answer.ensures.asks refl refl c.in_ok-done.ensures.tells)
