use Rattle.std.specs.Prelude.{refl}
use Rattle.std.specs.Fmt.{digits}
use Rattle.model_work.specs.Work.{numbers_from}
use Rattle.row_work.proofs.work.texts_of_work.Goals as goal

pub returns : goal.returns
unfolding digits numbers_from
returns c = record { numbers = refl; lines = refl; create = refl; arrival = refl; empty = refl; quiet = refl }
