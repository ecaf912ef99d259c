use Rattle.std.proofs.Common.{◌∙◌, refl, sym}
use Rattle.std.proofs.lemmas.Result.{err_from_is_err_and}
use Rattle.model_wire.specs.declared.call.Call.TheVariants as call
use Rattle.model_stream.specs.Doing.{Ends}
use Rattle.aio_exchange.specs.Follows.{Reach, reach}
use Rattle.aio_exchange.proofs.Following.{follows_end}
use Rattle.aio_task.specs.View.{View}
use Rattle.aio_change.specs.Seen.{seen_changed}
use Rattle.aio_change.proofs.AfterAsking.{asks_met, asks_on}
use Rattle.aio_connection.proofs.Calling.{end_before, end_later, end_now, with_eof}
use Rattle.aio_connection.proofs.Owning.{own_eof}
use Rattle.aio_connection.proofs.connection.Connection.write_eof.Goals as goal

pub returns-then-ends_writing-clause-follows : goal.returns-then-ends_writing-clause-follows
returns-then-ends_writing-clause-follows g c =
    let at : Reach View g.row.W.Denot = reach c.args.parts.now c.args.port.now.wire.now c.args.port.now.events.now in
    end_before g.W.Wire.outside c.args.id c.args.self.now at (sym c.ends_writing.ensures ∙ c.if-ends_writing.true)

pub returns-then-unsent-clause-follows : goal.returns-then-unsent-clause-follows
returns-then-unsent-clause-follows g c =
    let at : Reach View g.row.W.Denot = reach c.args.parts.now c.args.port.now.wire.now c.args.port.now.events.now in
    end_later g.W.Wire.outside c.args.id c.args.self.now c.set_eof.new.self at (sym c.ends_writing.ensures ∙ c.if-ends_writing.false)
    (sym c.has_unsent-unsent.ensures ∙ c.if-unsent.true) c.set_eof.ensures

pub returns-then-unsent-clause-own : goal.returns-then-unsent-clause-own
returns-then-unsent-clause-own g c = own_eof c.args.parts.now c.args.self.now c.set_eof.new.self c.set_eof.ensures

pub returns-in_err-ask-clause-follows : goal.returns-in_err-ask-clause-follows
returns-in_err-ask-clause-follows g c =
    let p = err_from_is_err_and c.from_residual.result c.from_residual.ensures.1 in
    let old : Reach View g.row.W.Denot = reach c.args.parts.now c.args.port.now.wire.now c.args.port.now.events.now in
    let new : Reach View g.row.W.Denot = reach c.args.parts.now c.ask.new.port.wire.now c.ask.new.port.events.now in
    rw (p.1, p.2)
    (end_now g.W.Wire.outside c.args.id c.args.self.now old new _ (sym c.ends_writing.ensures ∙ c.if-ends_writing.false)
    (sym c.has_unsent-unsent.ensures ∙ c.if-unsent.false)
    (asks_met g.W.Wire.outside (call.Shut c.args.id) (call.Shut c.args.id) (λ came. Ends (with_eof g.W.Wire.outside c.args.id c.args.self.now)) refl
    c.in_err-ask.field-0.0 old new c.in_err-ask.ensures.asks refl))

pub returns-clause-follows : goal.returns-clause-follows
returns-clause-follows g c =
    let old : Reach View g.row.W.Denot = reach c.args.parts.now c.args.port.now.wire.now c.args.port.now.events.now in
    let new : Reach View g.row.W.Denot = reach c.args.parts.now c.ask.new.port.wire.now c.ask.new.port.events.now in
    let eof = with_eof g.W.Wire.outside c.args.id c.args.self.now in
    end_now g.W.Wire.outside c.args.id c.args.self.now old new _ (sym c.ends_writing.ensures ∙ c.if-ends_writing.false)
    (sym c.has_unsent-unsent.ensures ∙ c.if-unsent.false)
    (asks_on g.W.Wire.outside (call.Shut c.args.id) (call.Shut c.args.id) (λ came. Ends eof) refl c.in_ok-ask.field-0 old new new _
    c.in_ok-ask.ensures.asks refl (follows_end g.W.Wire.outside seen_changed eof c.set_eof.new.self new c.set_eof.ensures))

pub returns-clause-own : goal.returns-clause-own
returns-clause-own g c = own_eof c.args.parts.now c.args.self.now c.set_eof.new.self c.set_eof.ensures
