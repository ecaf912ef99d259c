use Rattle.std.specs.Prelude.{refl}
use Rattle.row_work.proofs.work.seeds_at_the_modulus.Goals as goal

pub returns : goal.returns
returns c = record { dead = refl; dead_size = refl; dead_delay = refl; same = refl; greatest = refl }
