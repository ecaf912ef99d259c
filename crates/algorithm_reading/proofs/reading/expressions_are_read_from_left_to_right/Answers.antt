use Rattle.algorithm_reading.proofs.Read.{read-is}
use Rattle.algorithm_reading.proofs.reading.expressions_are_read_from_left_to_right.Goals as goal

pub returns : goal.returns
returns c = read-is
