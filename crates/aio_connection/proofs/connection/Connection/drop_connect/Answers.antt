use Rattle.std.proofs.Common.{◌∙◌, refl, sym, ap, is_some}
use Rattle.std.proofs.lemmas.Result.{err_from_is_err_and}
use Rattle.model_wire.specs.declared.call.Call.TheVariants as call
use Rattle.model_stream.specs.Connections.{close, unmade}
use Rattle.model_stream.specs.Doing.{Ends}
use Rattle.aio_exchange.specs.Follows.{Reach, reach}
use Rattle.aio_exchange.proofs.Following.{follows_end, follows_starved}
use Rattle.aio_exchange.proofs.Telling.{tells_follow}
use Rattle.aio_task.specs.View.{View}
use Rattle.aio_change.specs.Seen.{seen_changed}
use Rattle.aio_change.proofs.AfterAsking.{asks_met, asks_on}
use Rattle.aio_connection.proofs.Calling.{drop_closes, drops}
use Rattle.aio_connection.proofs.Owning.{own_unmade}
use Rattle.aio_connection.proofs.connection.Connection.drop_connect.Goals as goal

pub returns-in_err-ask-clause-follows : goal.returns-in_err-ask-clause-follows
returns-in_err-ask-clause-follows g c =
    let p = err_from_is_err_and c.from_residual.result c.from_residual.ensures.1 in
    let old : Reach View g.row.W.Denot = reach c.args.parts.now c.args.port.now.wire.now c.args.port.now.events.now in
    let new : Reach View g.row.W.Denot = reach c.args.parts.now c.ask.new.port.wire.now c.ask.new.port.events.now in
    rw (p.1, p.2)
    (drops g.W.Wire.outside c.args.id c.args.self.now old new _
    (ap is_some (sym c.making.ensures) ∙ sym c.is_some.ensures ∙ c.if-is_some.true)
    (asks_met g.W.Wire.outside (call.Close c.args.id) (call.Close c.args.id) (λ came. Ends (unmade c.args.self.now)) refl c.in_err-ask.field-0.0
    old new c.in_err-ask.ensures.asks refl))

pub returns-then-is_some-clause-follows : goal.returns-then-is_some-clause-follows
returns-then-is_some-clause-follows g c =
    let old : Reach View g.row.W.Denot = reach c.args.parts.now c.args.port.now.wire.now c.args.port.now.events.now in
    let new : Reach View g.row.W.Denot = reach c.args.parts.now c.ask.new.port.wire.now c.ask.new.port.events.now in
    drops g.W.Wire.outside c.args.id c.args.self.now old new _ (ap is_some (sym c.making.ensures) ∙ sym c.is_some.ensures ∙ c.if-is_some.true)
    (asks_on g.W.Wire.outside (call.Close c.args.id) (call.Close c.args.id) (λ came. Ends (unmade c.args.self.now)) refl c.in_ok-ask.field-0
    old new new _ c.in_ok-ask.ensures.asks refl
    (follows_end g.W.Wire.outside seen_changed (unmade c.args.self.now) c.unmake.new.self new c.unmake.ensures))

pub returns-then-is_some-clause-own : goal.returns-then-is_some-clause-own
returns-then-is_some-clause-own g c =
    own_unmade c.args.parts.now c.args.parts.now (λ future own. own) c.args.self.now c.unmake.new.self c.unmake.ensures

pub returns-in_err-close-clause-follows : goal.returns-in_err-close-clause-follows
returns-in_err-close-clause-follows g c =
    let p = err_from_is_err_and c.from_residual-in_err-close.result c.from_residual-in_err-close.ensures.1 in
    let old : Reach View g.row.W.Denot = reach c.args.parts.now c.args.port.now.wire.now c.args.port.now.events.now in
    let new : Reach View g.row.W.Denot = reach c.close.new.parts c.args.port.now.wire.now c.args.port.now.events.now in
    rw (p.1, p.2)
    (drop_closes g.W.Wire.outside c.args.id c.args.self.now old new _
    (ap is_some (sym c.making.ensures) ∙ sym c.is_some.ensures ∙ c.if-is_some.false)
    (follows_starved g.W.Wire.outside seen_changed (close c.args.id c.args.self.now) old new refl))

pub returns-clause-follows : goal.returns-clause-follows
returns-clause-follows g c =
    let old : Reach View g.row.W.Denot = reach c.args.parts.now c.args.port.now.wire.now c.args.port.now.events.now in
    let new : Reach View g.row.W.Denot = reach c.close.new.parts c.args.port.now.wire.now c.args.port.now.events.now in
    drop_closes g.W.Wire.outside c.args.id c.args.self.now old new _
    (ap is_some (sym c.making.ensures) ∙ sym c.is_some.ensures ∙ c.if-is_some.false)
    (tells_follow seen_changed g.W.Wire.outside (close c.args.id c.args.self.now) old new c.close.new.self c.in_ok-close.ensures.tells refl)
