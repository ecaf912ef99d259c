use Rattle.std.proofs.Common.{◌∙◌, sym, ap, subst}
use Rattle.model_value.specs.declared.outcome.Outcome.TheVariants.{Value as Returned}
use Rattle.model_stream.specs.Connections.{stand_up}
use Rattle.model_stream.specs.Doing.{Settle}
use Rattle.aio_exchange.specs.Tells.{Tells}
use Rattle.aio_task.specs.View.{View}
use Rattle.aio_change.specs.Owned.{IsOwn, IsOwnIfAny}
use Rattle.aio_change.specs.Seen.{seen_changed}
use Rattle.aio_change.proofs.Owning.{told_keeps}
use Rattle.aio_connection.proofs.Calling.{stands_up}
use Rattle.aio_connection.proofs.Owning.{own_standing}
use Rattle.aio_connection.proofs.connection.Connection.stand_up.Goals as goal

pub resolve-was_pending-requires-clause-no_task : goal.resolve-was_pending-requires-clause-no_task
resolve-was_pending-requires-clause-no_task c =
    let own = subst (IsOwnIfAny c.args.parts.now) c.requires.making c.requires.own.making in
    subst (λ (v : View). IsOwn v c.args.on) (sym c.in_ok-call_soon-2.ensures.after)
    (subst (λ (v : View). IsOwn v c.args.on) (sym c.in_ok-call_soon.ensures.after) own)

stood : (c : goal.After-stands)
    → Tells seen_changed (stand_up c.args.id c.args.on c.args.self.now) c.args.parts.now c.resolve-was_pending.new.self c.stands.new.self
stood c =
    stands_up c.args.id c.args.self.now c.args.on c.stands.new.self c.call_soon.new.parts c.call_soon-2.new.parts c.args.parts.now
    c.resolve-was_pending.new.self c.in_ok-call_soon.ensures.after c.in_ok-call_soon-2.ensures.after
    (c.resolve-was_pending.ensures.after ∙ ap (λ v. seen_changed (Settle c.args.on (Returned v)) c.call_soon-2.new.parts) c.conn.ensures)
    c.stands.ensures

pub returns-clause-tells : goal.returns-clause-tells
returns-clause-tells c = stood c

pub returns-clause-own : goal.returns-clause-own
returns-clause-own c =
    let old = c.args.parts.now in
    let new = c.resolve-was_pending.new.self in
    own_standing old new (told_keeps (stand_up c.args.id c.args.on c.args.self.now) old new c.stands.new.self (stood c)) c.args.self.now
    c.stands.new.self c.stands.ensures c.requires.own
