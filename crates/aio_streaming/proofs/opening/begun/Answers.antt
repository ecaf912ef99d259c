use Rattle.std.proofs.Common.{length, rules}
use Rattle.model_stream.specs.Streams.{connect as plain_connect}
use Rattle.aio_exchange.specs.Follows.{reach}
use Rattle.aio_transports.specs.Standing.{Answers as AnswersTree}
use Rattle.aio_streaming.proofs.Through.{through}
use Rattle.aio_streaming.proofs.opening.begun.Goals as goal

pub returns-clause-comes : goal.returns-clause-comes
returns-clause-comes g c =
    through
    (λ x e y f. AnswersTree g.W.Wire.outside
    (plain_connect c.args.number (length c.args.body.now.parts.futures)) c.args.body.now.transports c.connect.new.self
    (reach c.args.body.now.parts x e) (reach c.connect.new.parts y f) c.connect.result)
    _ _ _ _ _ _ _ _ c.new-port.ensures.wire c.new-port.ensures.events (search rules) c.drop-port.ensures.events c.connect.ensures.comes
