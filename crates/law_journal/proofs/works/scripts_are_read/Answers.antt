use Rattle.law_journal.proofs.Scripts.{script-read}
use Rattle.law_journal.proofs.Texts.{program-written}
use Rattle.law_journal.proofs.works.scripts_are_read.Goals as goal

pub returns-clause-read : goal.returns-clause-read
returns-clause-read c = script-read

pub returns-clause-canonical : goal.returns-clause-canonical
returns-clause-canonical c = program-written
