use Rattle.aio_exchange.proofs.Exchanging.{exchanged_none, exchanged_starved, exchanged_then}
use Rattle.aio_exchange.proofs.laws.asks_go_on.Goals as goal

pub returns : goal.returns
returns g c = record {
  none = exchanged_none g.W.Wire.outside;
  more = λ xs ys last old mid new first second. exchanged_then g.W.Wire.outside xs ys old mid new first last second;
  starved = exchanged_starved g.W.Wire.outside;
}
