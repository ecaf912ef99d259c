use Rattle.std.proofs.Common.{refl, sym, subst, ◌∙◌}
use Rattle.std.proofs.lemmas.Result.{err_from_is_err_and}
use Rattle.model_stream.specs.Connections.{down}
use Rattle.aio_exchange.specs.Follows.{Follows, Reach, after_of, reach}
use Rattle.aio_exchange.proofs.Following.{follows_starved}
use Rattle.aio_task.specs.View.{View}
use Rattle.aio_change.specs.Seen.{seen_changed}
use Rattle.aio_connection.specs.Owned.{OwnsConnection}
use Rattle.aio_stream.proofs.held.HeldConnection.down.Goals as goal

pub returns-in_err-connection-clause-follows : goal.returns-in_err-connection-clause-follows
returns-in_err-connection-clause-follows g c =
    let p = err_from_is_err_and c.from_residual.result c.from_residual.ensures.1 in
    let at : Reach View g.row.W.Denot = reach c.args.parts.now c.args.port.now.wire.now c.args.port.now.events.now in
    rw (p.1, p.2) (follows_starved g.W.Wire.outside seen_changed (down c.args.id c.args.self.now) at at refl)

pub down-done-requires-clause-own : goal.down-done-requires-clause-own
down-done-requires-clause-own g c =
    subst (OwnsConnection c.args.parts.now) (sym (c.deref_mut.ensures.value ∙ c.in_ok-connection.ensures)) c.requires.own

pub returns-clause-follows : goal.returns-clause-follows
returns-clause-follows g c =
    rw c.lay.ensures
    (subst (λ it. Follows g.W.Wire.outside seen_changed (down c.args.id it)
    (reach c.args.parts.now c.args.port.now.wire.now c.args.port.now.events.now)
    (reach c.down-done.new.parts c.down-done.new.port.wire.now c.down-done.new.port.events.now)
    (after_of c.down-done.new.self c.down-done.result))
    (c.deref_mut.ensures.value ∙ c.in_ok-connection.ensures) c.down-done.ensures.follows)

pub returns-clause-own : goal.returns-clause-own
returns-clause-own g c = rw c.lay.ensures c.down-done.ensures.own
