use Rattle.law_stream.proofs.ReaderOrder.{raises_alone}
use Rattle.law_received.proofs.Replies.{failed_empty}
use Rattle.law_received.proofs.received.a_failed_reader_holds_nothing.Goals as goal

pub returns : goal.returns
returns c laws = record {
  empty = failed_empty;
  raises = raises_alone;
}
