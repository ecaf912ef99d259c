use Rattle.aio_journal.proofs.Bounds.{token-fits}
use Rattle.aio_journal.proofs.words.Words.next.Goals as goal

pub returns-clause-bounded : goal.returns-clause-bounded
returns-clause-bounded c = rw c.in_ok-token.ensures (token-fits c.in-Some.word.now)
