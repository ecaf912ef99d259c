use Rattle.law_stream.proofs.WriterOrder.{all_in_order}
use Rattle.law_stream.proofs.writers.writers_keep_order.Goals as goal

pub returns : goal.returns
returns c = all_in_order
