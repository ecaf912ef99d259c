use Rattle.law_journal.proofs.Journals.{journal-read}
use Rattle.law_journal.proofs.entries.written_journals_are_read.Goals as goal

pub returns : goal.returns
returns c = journal-read
