use Rattle.std.specs.Prelude.{refl}
use Rattle.row_wire.proofs.entries.entries_are_read.Goals as goal

pub returns : goal.returns
returns c = refl
