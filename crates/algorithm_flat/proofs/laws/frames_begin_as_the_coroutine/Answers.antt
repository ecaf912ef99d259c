use Rattle.algorithm_flat.proofs.Tapes.{unbegun-waits}
use Rattle.algorithm_flat.proofs.laws.frames_begin_as_the_coroutine.Goals as goal

pub returns : goal.returns
returns c = unbegun-waits
