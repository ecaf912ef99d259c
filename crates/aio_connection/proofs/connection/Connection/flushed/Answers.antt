use Rattle.std.proofs.Common.{◌∙◌, refl, sym}
use Rattle.std.proofs.lemmas.Result.{err_from_is_err_and}
use Rattle.model_wire.specs.declared.call.Call.TheVariants as call
use Rattle.model_stream.specs.Doing.{Ends}
use Rattle.aio_exchange.specs.Follows.{Reach, after_of, reach}
use Rattle.aio_exchange.proofs.Following.{follows_ends}
use Rattle.aio_task.specs.View.{View}
use Rattle.aio_change.specs.Seen.{seen_changed}
use Rattle.aio_change.proofs.AfterAsking.{asks_met, asks_on}
use Rattle.aio_connection.proofs.Calling.{flushed_loses, flushed_on, flushed_shuts, not_flushed}
use Rattle.aio_connection.proofs.connection.Connection.flushed.Goals as goal

pub returns-then-not-is_flushed-clause-follows : goal.returns-then-not-is_flushed-clause-follows
returns-then-not-is_flushed-clause-follows g c =
    let at : Reach View g.row.W.Denot = reach c.args.parts.now c.args.port.now.wire.now c.args.port.now.events.now in
    not_flushed g.W.Wire.outside c.args.id c.args.self.now at (sym c.is_flushed.ensures ∙ c.if-not-is_flushed.true)

pub returns-then-is_closing-clause-follows : goal.returns-then-is_closing-clause-follows
returns-then-is_closing-clause-follows g c =
    let old : Reach View g.row.W.Denot = reach c.args.parts.now c.args.port.now.wire.now c.args.port.now.events.now in
    let new : Reach View g.row.W.Denot = reach c.lose.new.parts c.lose.new.port.wire.now c.lose.new.port.events.now in
    flushed_loses g.W.Wire.outside c.args.id c.args.self.now old new (after_of c.lose.new.self c.lose.result)
    (sym c.is_flushed.ensures ∙ c.if-not-is_flushed.false) (sym c.is_closing.ensures ∙ c.if-is_closing.true) c.lose.ensures.follows

pub returns-then-not-wrote_eof-clause-follows : goal.returns-then-not-wrote_eof-clause-follows
returns-then-not-wrote_eof-clause-follows g c =
    let at : Reach View g.row.W.Denot = reach c.args.parts.now c.args.port.now.wire.now c.args.port.now.events.now in
    flushed_on g.W.Wire.outside c.args.id c.args.self.now at (sym c.is_flushed.ensures ∙ c.if-not-is_flushed.false)
    (sym c.is_closing.ensures ∙ c.if-is_closing.false) (sym c.wrote_eof.ensures ∙ c.if-not-wrote_eof.true)

pub returns-in_err-ask-clause-follows : goal.returns-in_err-ask-clause-follows
returns-in_err-ask-clause-follows g c =
    let p = err_from_is_err_and c.from_residual.result c.from_residual.ensures.1 in
    let old : Reach View g.row.W.Denot = reach c.args.parts.now c.args.port.now.wire.now c.args.port.now.events.now in
    let new : Reach View g.row.W.Denot = reach c.args.parts.now c.ask.new.port.wire.now c.ask.new.port.events.now in
    rw (p.1, p.2)
    (flushed_shuts g.W.Wire.outside c.args.id c.args.self.now old new _ (sym c.is_flushed.ensures ∙ c.if-not-is_flushed.false)
    (sym c.is_closing.ensures ∙ c.if-is_closing.false) (sym c.wrote_eof.ensures ∙ c.if-not-wrote_eof.false)
    (asks_met g.W.Wire.outside (call.Shut c.args.id) (call.Shut c.args.id) (λ came. Ends c.args.self.now) refl c.in_err-ask.field-0.0 old new
    c.in_err-ask.ensures.asks refl))

pub returns-clause-follows : goal.returns-clause-follows
returns-clause-follows g c =
    let old : Reach View g.row.W.Denot = reach c.args.parts.now c.args.port.now.wire.now c.args.port.now.events.now in
    let new : Reach View g.row.W.Denot = reach c.args.parts.now c.ask.new.port.wire.now c.ask.new.port.events.now in
    flushed_shuts g.W.Wire.outside c.args.id c.args.self.now old new _ (sym c.is_flushed.ensures ∙ c.if-not-is_flushed.false)
    (sym c.is_closing.ensures ∙ c.if-is_closing.false) (sym c.wrote_eof.ensures ∙ c.if-not-wrote_eof.false)
    (asks_on g.W.Wire.outside (call.Shut c.args.id) (call.Shut c.args.id) (λ came. Ends c.args.self.now) refl c.in_ok-ask.field-0 old new new _
    c.in_ok-ask.ensures.asks refl (follows_ends g.W.Wire.outside seen_changed c.args.self.now new))
