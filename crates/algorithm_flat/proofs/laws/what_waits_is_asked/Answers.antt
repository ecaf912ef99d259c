use Rattle.algorithm_flat.proofs.Tapes.{waits-says}
use Rattle.algorithm_flat.proofs.laws.what_waits_is_asked.Goals as goal

pub returns : goal.returns
returns c = waits-says
