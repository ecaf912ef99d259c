use Rattle.aio_dgram.proofs.Lifting.{stays_by}
use Rattle.aio_dgram.proofs.serving.DgramExtra.act.Goals as goal

pub returns : goal.returns
returns c = λ t s h. stays_by t s c.args.self.now c.args._parts.now h c.args._key
