use Rattle.algorithm_reading.proofs.RowLaws.{arguments-read}
use Rattle.algorithm_reading.proofs.reading.arguments_are_read_between_commas.Goals as goal

pub returns : goal.returns
returns c = arguments-read
