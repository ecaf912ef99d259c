use Rattle.std.specs.Prelude.{refl}
use Rattle.row_wire.proofs.entries.numbers_at_their_bounds.Goals as goal

pub returns : goal.returns
returns c = refl
