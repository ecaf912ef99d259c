use Rattle.aio_body.proofs.Slotting.{stands_back, stands_over, stands_resumed}
use Rattle.aio_body.proofs.laws.slots.a_coroutine_goes_on.Goals as goal

pub returns-clause-resumed : goal.returns-clause-resumed
returns-clause-resumed g c = stands_resumed

pub returns-clause-back : goal.returns-clause-back
returns-clause-back g c = stands_back

pub returns-clause-over : goal.returns-clause-over
returns-clause-over g c = stands_over
