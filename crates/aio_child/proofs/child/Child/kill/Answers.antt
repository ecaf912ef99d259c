use Rattle.std.proofs.Common.{◌∙◌, refl, sym}
use Rattle.std.proofs.lemmas.Result.{err_from_is_err_and}
use Rattle.model_wire.specs.declared.call.Call.TheVariants as call
use Rattle.model_stream.specs.Doing.{Ends}
use Rattle.aio_exchange.specs.Follows.{Reach, reach}
use Rattle.aio_task.specs.View.{View}
use Rattle.aio_exchange.proofs.Following.{follows_ends}
use Rattle.aio_change.specs.Seen.{seen_changed}
use Rattle.aio_change.proofs.AfterAsking.{asks_met, asks_on}
use Rattle.aio_child.proofs.Calling.{kills, kills_none}
use Rattle.aio_child.proofs.child.Child.kill.Goals as goal

pub returns-then-not-is_running-clause-follows : goal.returns-then-not-is_running-clause-follows
returns-then-not-is_running-clause-follows g c v =
    let at : Reach View g.row.W.Denot = reach v c.args.port.now.wire.now c.args.port.now.events.now in
    kills_none g.W.Wire.outside c.args.id c.args.self.now at (sym c.is_running.ensures ∙ c.if-not-is_running.true)

pub returns-in_err-ask-clause-follows : goal.returns-in_err-ask-clause-follows
returns-in_err-ask-clause-follows g c v =
    let p = err_from_is_err_and c.from_residual.result c.from_residual.ensures.1 in
    let old : Reach View g.row.W.Denot = reach v c.args.port.now.wire.now c.args.port.now.events.now in
    let new : Reach View g.row.W.Denot = reach v c.ask.new.port.wire.now c.ask.new.port.events.now in
    rw (p.1, p.2)
    (kills g.W.Wire.outside c.args.id c.args.self.now old new _ (sym c.is_running.ensures ∙ c.if-not-is_running.false)
    (asks_met g.W.Wire.outside (call.Kill c.args.id) (call.Kill c.args.id) (λ came. Ends c.args.self.now) refl c.in_err-ask.field-0.0 old new
    c.in_err-ask.ensures.asks refl))

pub returns-clause-follows : goal.returns-clause-follows
returns-clause-follows g c v =
    let old : Reach View g.row.W.Denot = reach v c.args.port.now.wire.now c.args.port.now.events.now in
    let new : Reach View g.row.W.Denot = reach v c.ask.new.port.wire.now c.ask.new.port.events.now in
    kills g.W.Wire.outside c.args.id c.args.self.now old new _ (sym c.is_running.ensures ∙ c.if-not-is_running.false)
    (asks_on g.W.Wire.outside (call.Kill c.args.id) (call.Kill c.args.id) (λ came. Ends c.args.self.now) refl c.in_ok-ask.field-0 old new new _
    c.in_ok-ask.ensures.asks refl (follows_ends g.W.Wire.outside seen_changed c.args.self.now new))
