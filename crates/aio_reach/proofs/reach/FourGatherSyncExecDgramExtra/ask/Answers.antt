use Rattle.std.proofs.Common.{w64, subst}
use Rattle.std.proofs.lemmas.Int.{to_z-of_z}
use Rattle.std.proofs.lemmas.Result.{IfOk-weaker}
use Rattle.aio_reach.specs.Called.{Asks}
use Rattle.aio_reach.specs.Routed.{keyed, routed}
use Rattle.aio_reach.proofs.reach.FourGatherSyncExecDgramExtra.ask.Goals as goal

pub ask_part-requires : goal.ask_part-requires
ask_part-requires c = (keyed, c.requires)

pub returns : goal.returns
returns c =
    let a = c.args in
    IfOk-weaker c.ask_part.result _ _
    (λ asked so. (subst (λ n. Asks routed a.self.now c.ask_part.new.self a.parts.now c.ask_part.new.parts a.task n a.futures.now a.arguments.now asked)
    (to_z-of_z w64 a.code c.ranges.code) so).says) (c.ask_part.ensures keyed)
