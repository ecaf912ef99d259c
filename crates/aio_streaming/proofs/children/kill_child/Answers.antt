use Rattle.std.proofs.Common.{rules}
use Rattle.model_stream.specs.Requests.{kill as plain_kill}
use Rattle.aio_exchange.specs.Follows.{reach}
use Rattle.aio_transports.specs.Standing.{Comes as Changes}
use Rattle.aio_streaming.proofs.Through.{through}
use Rattle.aio_streaming.proofs.children.kill_child.Goals as goal

pub returns-clause-comes : goal.returns-clause-comes
returns-clause-comes g c =
    through
    (λ x e y f. Changes g.W.Wire.outside (plain_kill c.args.child) c.args.body.now.transports
    c.args.body.now.transports (reach c.args.body.now.parts x e) (reach c.args.body.now.parts y f) c.kill.result)
    _ _ _ _ _ _ _ _ c.new-port.ensures.wire c.new-port.ensures.events (search rules) c.drop-port.ensures.events (c.kill.ensures.comes c.args.body.now.parts)
