use Rattle.law_journal.proofs.WorkJournals.{entries-of-journal}
use Rattle.law_journal.proofs.works.the_journal_is_read.Goals as goal

pub returns : goal.returns
returns c = entries-of-journal
