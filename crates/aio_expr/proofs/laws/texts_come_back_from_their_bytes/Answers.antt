use Rattle.aio_expr.proofs.Decoded.{text-of-bytes}
use Rattle.aio_expr.proofs.laws.texts_come_back_from_their_bytes.Goals as goal

pub returns : goal.returns
returns c = text-of-bytes
