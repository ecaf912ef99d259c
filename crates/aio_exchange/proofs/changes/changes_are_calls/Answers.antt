use Rattle.aio_exchange.proofs.Telling.{tells_follow}
use Rattle.aio_exchange.proofs.changes.changes_are_calls.Goals as goal

pub returns : goal.returns
returns g c = λ change. tells_follow change g.W.Wire.outside
