use Rattle.std.proofs.Common.{◌∙◌, refl, sym, ap, subst}
use Rattle.std.proofs.lemmas.Result.{err_from_is_err_and}
use Rattle.model_wire.specs.declared.call.Call.TheVariants as call
use Rattle.model_stream.specs.Connections.{down, unmade}
use Rattle.model_stream.specs.Doing.{Ends, Settle}
use Rattle.aio_exchange.specs.Follows.{Reach, reach}
use Rattle.aio_exchange.proofs.Following.{follows_end, follows_starved}
use Rattle.aio_task.specs.View.{View}
use Rattle.aio_change.specs.Seen.{seen_changed}
use Rattle.aio_change.specs.Owned.{IsOwn, IsOwnIfAny}
use Rattle.aio_change.proofs.AfterAsking.{asks_met, asks_on}
use Rattle.aio_change.proofs.Owning.{own_changed}
use Rattle.aio_connection.proofs.Calling.{down_now}
use Rattle.aio_connection.proofs.Owning.{own_unmade}
use Rattle.aio_connection.proofs.connection.Connection.fall.Goals as goal

pub resolve-was_pending-requires-clause-no_task : goal.resolve-was_pending-requires-clause-no_task
resolve-was_pending-requires-clause-no_task g c = subst (IsOwnIfAny c.args.parts.now) c.requires.making c.requires.own.making

pub returns-in_err-refused-clause-follows : goal.returns-in_err-refused-clause-follows
returns-in_err-refused-clause-follows g c =
    let p = err_from_is_err_and c.from_residual.result c.from_residual.ensures.1 in
    let at : Reach View g.row.W.Denot = reach c.args.parts.now c.args.port.now.wire.now c.args.port.now.events.now in
    rw (p.1, p.2) (follows_starved g.W.Wire.outside seen_changed (down c.args.id c.args.self.now) at at refl)

pub returns-in_err-ask-clause-follows : goal.returns-in_err-ask-clause-follows
returns-in_err-ask-clause-follows g c =
    let p = err_from_is_err_and c.from_residual-in_err-ask.result c.from_residual-in_err-ask.ensures.1 in
    let old : Reach View g.row.W.Denot = reach c.args.parts.now c.args.port.now.wire.now c.args.port.now.events.now in
    let mid : Reach View g.row.W.Denot = reach c.resolve-was_pending.new.self c.args.port.now.wire.now c.args.port.now.events.now in
    let new : Reach View g.row.W.Denot = reach c.resolve-was_pending.new.self c.ask.new.port.wire.now c.ask.new.port.events.now in
    rw (p.1, p.2)
    (down_now g.W.Wire.outside c.args.id c.args.self.now c.args.on old mid new _ (sym c.requires.making)
    (c.resolve-was_pending.ensures.after ∙ ap (λ it. seen_changed (Settle c.args.on it) c.args.parts.now) c.in_ok-refused.ensures) refl
    (asks_met g.W.Wire.outside (call.Close c.args.id) (call.Close c.args.id) (λ came. Ends (unmade c.args.self.now)) refl c.in_err-ask.field-0.0
    mid new c.in_err-ask.ensures.asks refl))

pub returns-clause-follows : goal.returns-clause-follows
returns-clause-follows g c =
    let old : Reach View g.row.W.Denot = reach c.args.parts.now c.args.port.now.wire.now c.args.port.now.events.now in
    let mid : Reach View g.row.W.Denot = reach c.resolve-was_pending.new.self c.args.port.now.wire.now c.args.port.now.events.now in
    let new : Reach View g.row.W.Denot = reach c.resolve-was_pending.new.self c.ask.new.port.wire.now c.ask.new.port.events.now in
    down_now g.W.Wire.outside c.args.id c.args.self.now c.args.on old mid new _ (sym c.requires.making)
    (c.resolve-was_pending.ensures.after ∙ ap (λ it. seen_changed (Settle c.args.on it) c.args.parts.now) c.in_ok-refused.ensures) refl
    (asks_on g.W.Wire.outside (call.Close c.args.id) (call.Close c.args.id) (λ came. Ends (unmade c.args.self.now)) refl c.in_ok-ask.field-0
    mid new new _ c.in_ok-ask.ensures.asks refl
    (follows_end g.W.Wire.outside seen_changed (unmade c.args.self.now) c.unmake.new.self new c.unmake.ensures))

pub returns-clause-own : goal.returns-clause-own
returns-clause-own g c =
    let old = c.args.parts.now in
    let new = c.resolve-was_pending.new.self in
    own_unmade old new
    (λ future own. subst (λ (v : View). IsOwn v future) (sym c.resolve-was_pending.ensures.after)
    (own_changed (Settle c.args.on c.in_ok-refused.refused) old future own))
    c.args.self.now c.unmake.new.self c.unmake.ensures c.requires.own
