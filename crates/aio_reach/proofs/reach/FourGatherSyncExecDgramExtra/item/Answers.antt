use Rattle.std.proofs.Common.{w64, subst}
use Rattle.std.proofs.lemmas.Int.{to_z-of_z}
use Rattle.std.proofs.lemmas.Result.{on_ok_weaker}
use Rattle.aio_reach.specs.Called.{Hears}
use Rattle.aio_reach.specs.Routed.{keyed, routed}
use Rattle.aio_reach.proofs.reach.FourGatherSyncExecDgramExtra.item.Goals as goal

pub hear_part-requires : goal.hear_part-requires
hear_part-requires c = (keyed, c.requires.serves)

pub returns : goal.returns
returns c =
    let a = c.args in
    on_ok_weaker c.hear_part.result
    (λ so. (subst (λ n. Hears routed a.self.now c.hear_part.new.self a.parts.now c.hear_part.new.parts n a.bytes.now)
    (to_z-of_z w64 a.code c.ranges.code) so).calls) (c.hear_part.ensures keyed)
