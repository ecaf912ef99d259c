use Rattle.law_parted.proofs.Reaching.{reach_allowed}
use Rattle.law_parted.proofs.the_router_makes_allowed_steps.Goals as goal

pub returns : goal.returns
returns g c = λ gather sync exec dgram. reach_allowed gather sync exec dgram
