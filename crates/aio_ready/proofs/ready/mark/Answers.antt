-- A number that falls below names none of them.
use Rattle.std.proofs.Common.{refl}
use Rattle.aio_ready.proofs.Reaching.{passed_by}
use Rattle.aio_ready.proofs.ready.mark.Goals as goal

pub returns-else-reaches : goal.returns-else-reaches
returns-else-reaches c =
    rw (passed_by c.args.least c.args.name c.args.handles.now (rw (← c.reaches.ensures) c.if-reaches.false) c.requires) refl
