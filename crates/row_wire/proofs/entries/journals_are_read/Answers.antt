use Rattle.std.specs.Prelude.{refl}
use Rattle.row_wire.proofs.entries.journals_are_read.Goals as goal

pub returns : goal.returns
returns c = record { none = refl; some = refl; bad = refl; empty = refl }
