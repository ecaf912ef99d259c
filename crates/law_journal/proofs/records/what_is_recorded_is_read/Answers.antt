use Rattle.law_journal.proofs.Recorded.{recorded-read}
use Rattle.law_journal.proofs.records.what_is_recorded_is_read.Goals as goal

pub returns : goal.returns
returns c = recorded-read
