use Rattle.std.proofs.Common.{rules}
use Rattle.model_stream.specs.Requests.{write_eof as plain_write_eof}
use Rattle.aio_exchange.specs.Follows.{reach}
use Rattle.aio_transports.specs.Standing.{Comes as Changes}
use Rattle.aio_streaming.proofs.Through.{through}
use Rattle.aio_streaming.proofs.writing.write_end.Goals as goal

pub returns-clause-comes : goal.returns-clause-comes
returns-clause-comes g c =
    through
    (λ x e y f. Changes g.W.Wire.outside (plain_write_eof c.args.conn) c.args.body.now.transports
    c.write_eof.new.self (reach c.args.body.now.parts x e) (reach c.write_eof.new.parts y f) c.write_eof.result)
    _ _ _ _ _ _ _ _ c.new-port.ensures.wire c.new-port.ensures.events (search rules) c.drop-port.ensures.events c.write_eof.ensures.comes
