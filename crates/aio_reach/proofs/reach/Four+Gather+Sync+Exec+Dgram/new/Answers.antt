use Rattle.aio_reach.proofs.Beginning.{begins}
use Rattle.aio_reach.proofs.reach.Four+Gather+Sync+Exec+Dgram.new.Goals as goal

pub returns : goal.returns
returns c = begins _ c.new.ensures c.new-2.ensures c.new-3.ensures c.new-4.ensures
