use Rattle.std.proofs.Common.{◌∙◌, ap}
use Rattle.model_stream.specs.Connections.{Connection}
use Rattle.aio_stream.specs.Kept.{with_connection}
use Rattle.aio_listener.proofs.Connects.{begins_own, begins_told}
use Rattle.aio_listener.proofs.beginning.begin.Goals as goal

pub returns-clause-told : goal.returns-clause-told
returns-clause-told c =
    begins_told c.args.streams.now c.add_connection.new.self c.in_ok-closed.closed c.in_ok-on.on c.in_ok-id.id c.args.parts.now
    c.make_future.new.parts c.make_future-2.new.parts c.in_ok-closed.ensures.number c.in_ok-on.ensures.number c.in_ok-id.ensures.number
    c.in_ok-closed.ensures.after c.in_ok-on.ensures.after
    (c.in_ok-id.ensures.after ∙ ap (λ (it : Connection). with_connection it c.args.streams.now) c.connecting.ensures) c.new.result c.new.ensures

pub returns-clause-own : goal.returns-clause-own
returns-clause-own c =
    begins_own c.args.streams.now c.add_connection.new.self c.in_ok-closed.closed c.in_ok-on.on c.in_ok-id.id c.args.parts.now
    c.make_future.new.parts c.make_future-2.new.parts c.in_ok-closed.ensures.number c.in_ok-on.ensures.number c.in_ok-id.ensures.number
    c.in_ok-closed.ensures.after c.in_ok-on.ensures.after
    (c.in_ok-id.ensures.after ∙ ap (λ (it : Connection). with_connection it c.args.streams.now) c.connecting.ensures) c.requires.own
