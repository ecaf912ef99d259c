use Rattle.algorithm_flat.proofs.Tapes.{move-comes}
use Rattle.algorithm_flat.proofs.laws.a_move_comes_to_what_the_coroutine_does.Goals as goal

pub returns : goal.returns
returns c = move-comes
