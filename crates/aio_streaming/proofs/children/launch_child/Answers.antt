use Rattle.std.proofs.Common.{length, rules}
use Rattle.model_stream.specs.Streams.{launch as plain_launch}
use Rattle.aio_exchange.specs.Follows.{reach}
use Rattle.aio_transports.specs.Standing.{Answers as AnswersTree}
use Rattle.aio_streaming.proofs.Through.{through}
use Rattle.aio_streaming.proofs.children.launch_child.Goals as goal

pub returns-clause-comes : goal.returns-clause-comes
returns-clause-comes g c =
    through
    (λ x e y f. AnswersTree g.W.Wire.outside
    (plain_launch c.args.words (length c.args.body.now.parts.futures)) c.args.body.now.transports c.launch.new.self
    (reach c.args.body.now.parts x e) (reach c.launch.new.parts y f) c.launch.result)
    _ _ _ _ _ _ _ _ c.new-port.ensures.wire c.new-port.ensures.events (search rules) c.drop-port.ensures.events c.launch.ensures.comes
