use Rattle.aio_exchange.proofs.Telling.{tells_changed, tells_ends, tells_then}
use Rattle.aio_exchange.proofs.changes.trees_are_told.Goals as goal

pub returns : goal.returns
returns g c = record {
  ends = λ change. tells_ends change;
  changes = λ change. tells_changed change;
  goes = λ change. tells_then change;
}
