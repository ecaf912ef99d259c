use Rattle.aio_timeout.proofs.Keeping.{timeouts_count, timeouts_stay}
use Rattle.aio_timeout.proofs.laws.timeouts_go_on.Goals as goal

pub returns-clause-count : goal.returns-clause-count
returns-clause-count c = timeouts_count

pub returns-clause-on : goal.returns-clause-on
returns-clause-on c = timeouts_stay
