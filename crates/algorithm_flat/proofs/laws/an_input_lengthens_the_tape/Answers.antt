use Rattle.algorithm_flat.proofs.Tapes.{input-moves}
use Rattle.algorithm_flat.proofs.laws.an_input_lengthens_the_tape.Goals as goal

pub returns : goal.returns
returns c = input-moves
