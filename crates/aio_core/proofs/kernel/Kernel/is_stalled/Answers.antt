use Rattle.aio_core.specs.Turning.{resting}
use Rattle.aio_core.proofs.kernel.Kernel.is_stalled.Goals as goal

pub returns : goal.returns
returns g c = λ past answers s h. c.is_stalled.ensures (resting g.X.Extra.added past answers h.rests.0) s h.rests.1
