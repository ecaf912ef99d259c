use Rattle.std.specs.Prelude.{refl}
use Rattle.row_work.proofs.work.work_of_zero.Goals as goal

pub returns : goal.returns
returns c = record { first = refl; size = refl; second = refl; delay = refl }
