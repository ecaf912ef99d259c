use Rattle.aio_inbox.proofs.Keeping.{begins}
use Rattle.aio_inbox.proofs.unnamed.UnnamedInbox.new.Goals as goal

pub ruled-requires-clause-rule : goal.ruled-requires-clause-rule
ruled-requires-clause-rule c = begins
