use Rattle.std.proofs.Common.{rules}
use Rattle.model_stream.specs.Requests.{write as plain_write}
use Rattle.aio_exchange.specs.Follows.{reach}
use Rattle.aio_transports.specs.Standing.{Answers as AnswersTree}
use Rattle.aio_streaming.proofs.Through.{through}
use Rattle.aio_streaming.proofs.writing.write_piece.Goals as goal

pub returns-clause-comes : goal.returns-clause-comes
returns-clause-comes g c =
    through
    (λ x e y f. AnswersTree g.W.Wire.outside
    (plain_write c.args.whom c.args.piece.now)
    c.args.body.now.transports c.write.new.self (reach c.args.body.now.parts x e) (reach c.write.new.parts y f) c.write.result)
    _ _ _ _ _ _ _ _ c.new-port.ensures.wire c.new-port.ensures.events
    (search rules) c.drop-port.ensures.events c.write.ensures.comes
