use Rattle.std.proofs.Common.{rules}
use Rattle.model_stream.specs.Streams.{listen as plain_listen}
use Rattle.aio_exchange.specs.Follows.{reach}
use Rattle.aio_transports.specs.Standing.{Answers as AnswersTree}
use Rattle.aio_streaming.proofs.Through.{through}
use Rattle.aio_streaming.proofs.opening.listen_at.Goals as goal

pub returns-clause-comes : goal.returns-clause-comes
returns-clause-comes g c =
    through
    (λ x e y f. AnswersTree g.W.Wire.outside (plain_listen c.args.number c.args.handler)
    c.args.body.now.transports c.listen.new.self (reach c.args.body.now.parts x e) (reach c.args.body.now.parts y f) c.listen.result)
    _ _ _ _ _ _ _ _ c.new-port.ensures.wire c.new-port.ensures.events (search rules) c.drop-port.ensures.events
    (c.listen.ensures.comes c.args.body.now.parts)
