use Rattle.algorithm_reading.proofs.RowLaws.{items-read}
use Rattle.algorithm_reading.proofs.reading.items_are_read_between_commas.Goals as goal

pub returns : goal.returns
returns c = items-read
