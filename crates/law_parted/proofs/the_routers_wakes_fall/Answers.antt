use Rattle.law_parted.proofs.Reaching.{reach_falls, reach_keeps}
use Rattle.law_parted.proofs.the_routers_wakes_fall.Goals as goal

pub returns-clause-falls : goal.returns-clause-falls
returns-clause-falls g c = λ gather sync exec dgram a b d e keys_a keys_b keys_d keys_e.
    reach_falls gather sync exec dgram keys_a keys_b keys_d keys_e a b d e

pub returns-clause-keys : goal.returns-clause-keys
returns-clause-keys g c = λ gather sync exec dgram. reach_keeps gather sync exec dgram
