use Rattle.std.proofs.lemmas.Result.{IfOk-weaker}
use Rattle.aio_reach.specs.Routed.{keyed}
use Rattle.aio_reach.proofs.reach.FourGatherSyncExecDgramExtra.wake.Goals as goal

pub wake_part-requires : goal.wake_part-requires
wake_part-requires c = record { runs = c.requires.runs; serves = (keyed, c.requires.serves) }

pub returns : goal.returns
returns c = IfOk-weaker c.wake_part.result _ _ (λ asked so. so.says) (c.wake_part.ensures keyed)
