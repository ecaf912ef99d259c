-- What falls below neither serves for both.
use Rattle.aio_ready.proofs.Reaching.{lowered}
use Rattle.aio_ready.proofs.ready.least_at_bar.Goals as goal

pub returns-else-is_empty-clause-below : goal.returns-else-is_empty-clause-below
returns-else-is_empty-clause-below c = lowered c.and.result c.args.least_below c.args.below.now c.and.ensures.own c.requires
