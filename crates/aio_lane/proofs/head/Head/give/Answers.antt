use Rattle.std.proofs.Common.{rules}
use Rattle.aio_lane.proofs.Steps.{gives, counts, stands}
use Rattle.aio_lane.proofs.head.Head.give.Goals as goal

pub push_as-requires-clause-rule : goal.push_as-requires-clause-rule
push_as-requires-clause-rule g c = let is = c.self.invariant in (gives _ _ _ _ (search rules) is.2.0, stands _ _ is.2.0)

pub another-idle-requires-clause-rule : goal.another-idle-requires-clause-rule
another-idle-requires-clause-rule g c = counts _ _
