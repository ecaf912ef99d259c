use Rattle.law_journal.proofs.Readings.{answer-read}
use Rattle.law_journal.proofs.entries.written_answers_are_read.Goals as goal

pub returns : goal.returns
returns c = answer-read
