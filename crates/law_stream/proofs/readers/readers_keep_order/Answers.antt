use Rattle.std.proofs.Common.{ap}
use Rattle.std.specs.Prelude.{is_some}
use Rattle.law_stream.proofs.ReaderOrder.{all_in_order, none_let_go, none_taken}
use Rattle.law_stream.proofs.readers.readers_keep_order.Goals as goal

pub returns : goal.returns
returns c = record {
  order = all_in_order;
  kept = none_let_go;
  failed = λ steps r fault is. none_taken steps r (ap is_some is);
}
