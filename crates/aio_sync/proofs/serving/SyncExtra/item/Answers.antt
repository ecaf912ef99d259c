use Rattle.aio_sync.proofs.Lifting.{stays_by}
use Rattle.aio_sync.proofs.serving.SyncExtra.item.Goals as goal

pub returns : goal.returns
returns c = λ t s h. stays_by t s c.args.self.now c.args._parts.now h 0
