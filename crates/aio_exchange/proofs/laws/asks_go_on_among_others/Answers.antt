use Rattle.aio_exchange.proofs.Among.{on_then, on_wire, told_then}
use Rattle.aio_exchange.proofs.laws.asks_go_on_among_others.Goals as goal

pub returns : goal.returns
returns g c = record {
  wire = on_then g.W.Wire.outside;
  port = on_wire _;
  events = told_then;
}
