use Rattle.algorithm_flat.proofs.Nearer.{goes-nearer}
use Rattle.algorithm_flat.proofs.laws.moves_come_to_an_end.Goals as goal

pub returns : goal.returns
returns c = λ codes code size forward within. goes-nearer codes code forward size within
