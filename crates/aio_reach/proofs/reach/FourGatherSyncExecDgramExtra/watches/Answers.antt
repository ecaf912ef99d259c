use Rattle.aio_reach.specs.Routed.{keyed}
use Rattle.aio_reach.proofs.reach.FourGatherSyncExecDgramExtra.watches.Goals as goal

pub returns : goal.returns
returns c = c.watches_any.ensures keyed
