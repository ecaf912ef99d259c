use Rattle.std.proofs.Common.{rules}
use Rattle.model_stream.specs.Requests.{drop_connect as plain_drop_connect}
use Rattle.aio_exchange.specs.Follows.{reach}
use Rattle.aio_transports.specs.Standing.{Comes as Changes}
use Rattle.aio_streaming.proofs.Through.{through}
use Rattle.aio_streaming.proofs.resuming.drop_made.Goals as goal

pub returns-clause-comes : goal.returns-clause-comes
returns-clause-comes g c =
    through
    (λ x e y f. Changes g.W.Wire.outside (plain_drop_connect c.args.conn)
    c.args.body.now.transports c.drop_connect.new.self (reach c.args.body.now.parts x e) (reach c.drop_connect.new.parts y f)
    c.drop_connect.result)
    _ _ _ _ _ _ _ _ c.new-port.ensures.wire c.new-port.ensures.events (search rules) c.drop-port.ensures.events
    c.drop_connect.ensures.comes
