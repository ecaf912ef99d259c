use Rattle.refine_streams.proofs.Owning.{transports_own}
use Rattle.refine_streams.proofs.futures.transports_own_their_futures.Goals as goal

pub returns : goal.returns
returns c = λ t v p kept s k. transports_own t v p k kept s
