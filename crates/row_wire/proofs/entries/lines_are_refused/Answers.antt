use Rattle.std.specs.Prelude.{refl}
use Rattle.row_wire.proofs.entries.lines_are_refused.Goals as goal

pub returns : goal.returns
returns c = refl
