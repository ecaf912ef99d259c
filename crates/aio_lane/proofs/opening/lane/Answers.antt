use Rattle.std.proofs.Common.{rules}
use Rattle.aio_lane.proofs.Steps.{begins, forks}
use Rattle.aio_lane.proofs.opening.lane.Goals as goal

pub ruled-requires-clause-rule : goal.ruled-requires-clause-rule
ruled-requires-clause-rule c = begins

pub another-other-requires-clause-rule : goal.another-other-requires-clause-rule
another-other-requires-clause-rule c = forks _ _ (search rules) (search rules)
