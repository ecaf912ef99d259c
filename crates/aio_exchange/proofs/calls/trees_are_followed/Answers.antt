use Rattle.aio_exchange.proofs.Following.{follows_asked, follows_changed, follows_ends, follows_met, follows_starved}
use Rattle.aio_exchange.proofs.calls.trees_are_followed.Goals as goal

pub returns : goal.returns
returns g c = record {
  ends = λ change. follows_ends g.W.Wire.outside change;
  changes = λ change. follows_changed g.W.Wire.outside change;
  asks = λ change. follows_asked g.W.Wire.outside change;
  met = λ change. follows_met g.W.Wire.outside change;
  starved = λ change. follows_starved g.W.Wire.outside change;
}
