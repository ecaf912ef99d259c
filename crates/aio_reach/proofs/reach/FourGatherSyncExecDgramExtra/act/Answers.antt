use Rattle.std.proofs.lemmas.Result.{on_ok_weaker}
use Rattle.aio_reach.specs.Routed.{keyed}
use Rattle.aio_reach.proofs.reach.FourGatherSyncExecDgramExtra.act.Goals as goal

pub act_part-requires : goal.act_part-requires
act_part-requires c = (keyed, c.requires.serves)

pub returns : goal.returns
returns c = on_ok_weaker c.act_part.result (λ so. so.calls) (c.act_part.ensures keyed)
