use Rattle.law_stream.proofs.WriterOrder.{front_of_front}
use Rattle.law_stream.proofs.writers.offers_are_fronts.Goals as goal

pub returns : goal.returns
returns c = λ count w. front_of_front count 65536 w.unsent
