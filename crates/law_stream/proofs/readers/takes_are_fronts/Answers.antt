use Rattle.law_stream.proofs.ReaderOrder.{takes_front}
use Rattle.law_stream.proofs.readers.takes_are_fronts.Goals as goal

pub returns : goal.returns
returns c = takes_front
