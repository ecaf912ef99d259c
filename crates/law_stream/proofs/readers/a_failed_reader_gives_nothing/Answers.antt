use Rattle.std.proofs.Common.{refl}
use Rattle.law_stream.proofs.ReaderOrder.{raises_alone}
use Rattle.law_stream.proofs.readers.a_failed_reader_gives_nothing.Goals as goal

pub returns : goal.returns
returns c = record { lets_go = λ fault r. refl; raises = raises_alone }
