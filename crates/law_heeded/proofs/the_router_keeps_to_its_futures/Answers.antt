use Rattle.law_heeded.proofs.Sharing.{reach_keeps}
use Rattle.law_heeded.proofs.the_router_keeps_to_its_futures.Goals as goal

pub returns : goal.returns
returns c laws = λ gather sync exec dgram a b e d. reach_keeps gather sync exec dgram a b e d
