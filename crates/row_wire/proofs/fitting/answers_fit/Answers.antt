use Rattle.std.specs.Prelude.{refl}
use Rattle.row_wire.proofs.fitting.answers_fit.Goals as goal

pub returns : goal.returns
returns c = refl
