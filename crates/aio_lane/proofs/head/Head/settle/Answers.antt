use Rattle.std.proofs.Common.{rules}
use Rattle.aio_lane.proofs.Steps.{merges, settles}
use Rattle.aio_lane.proofs.head.Head.settle.Goals as goal

pub absorb-requires-clause-rule : goal.absorb-requires-clause-rule
absorb-requires-clause-rule g c = merges _ _ _ _ c.self.invariant.2.0 (search rules)

pub learn_as-requires-clause-rule : goal.learn_as-requires-clause-rule
learn_as-requires-clause-rule g c = settles _ _ (search rules) (search rules)
