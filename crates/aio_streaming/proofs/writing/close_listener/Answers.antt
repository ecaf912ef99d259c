use Rattle.std.proofs.Common.{rules}
use Rattle.model_stream.specs.Streams.{close_server}
use Rattle.aio_exchange.specs.Follows.{reach}
use Rattle.aio_transports.specs.Standing.{Comes as Changes}
use Rattle.aio_streaming.proofs.Through.{through}
use Rattle.aio_streaming.proofs.writing.close_listener.Goals as goal

pub returns-clause-comes : goal.returns-clause-comes
returns-clause-comes g c =
    through
    (λ x e y f. Changes g.W.Wire.outside
    (close_server c.args.id) c.args.body.now.transports
    c.close_server.new.self (reach c.args.body.now.parts x e) (reach c.args.body.now.parts y f) c.close_server.result)
    _ _ _ _ _ _ _ _ c.new-port.ensures.wire c.new-port.ensures.events (search rules) c.drop-port.ensures.events
    (c.close_server.ensures.comes c.args.body.now.parts)
