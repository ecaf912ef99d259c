use Rattle.std.specs.Prelude.{refl}
use Rattle.row_work.proofs.work.numbers_are_those_of_the_standard.Goals as goal

pub returns : goal.returns
returns c = refl
