use Rattle.std.proofs.Common.{length, rules}
use Rattle.model_stream.specs.Streams as plain
use Rattle.aio_exchange.specs.Follows.{reach}
use Rattle.aio_transports.specs.Standing.{Comes as Changes}
use Rattle.aio_streaming.proofs.Through.{through}
use Rattle.aio_streaming.proofs.acting.run.Goals as goal

pub returns-clause-comes : goal.returns-clause-comes
returns-clause-comes g c =
    through
    (λ x e y f. Changes g.W.Wire.outside
    (plain.act (length c.args.body.now.parts.futures) c.args.returned c.args.action.now) c.args.body.now.transports c.act.new.self
    (reach c.args.body.now.parts x e) (reach c.act.new.parts y f) c.act.result)
    _ _ _ _ _ _ _ _ c.new-port.ensures.wire c.new-port.ensures.events (search rules) c.drop-port.ensures.events
    c.act.ensures.comes
