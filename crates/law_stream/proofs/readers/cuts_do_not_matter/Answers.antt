use Rattle.law_stream.proofs.ReaderOrder.{two_cuts, all_cuts}
use Rattle.law_stream.proofs.readers.cuts_do_not_matter.Goals as goal

pub returns : goal.returns
returns c = record { two = two_cuts; all = all_cuts }
