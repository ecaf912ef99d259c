use Rattle.aio_exchange.proofs.Following.{follows_stopped, follows_then}
use Rattle.aio_exchange.proofs.calls.calls_go_on.Goals as goal

pub returns : goal.returns
returns g c = record {
  goes = λ change. follows_then g.W.Wire.outside change;
  stops = λ change. follows_stopped g.W.Wire.outside change;
}
