use Rattle.std.proofs.Common.{rules}
use Rattle.aio_lane.proofs.Steps.{takes}
use Rattle.aio_lane.proofs.tail.Tail.take.Goals as goal

pub pop_as-requires-clause-rule : goal.pop_as-requires-clause-rule
pop_as-requires-clause-rule g c = (takes _ _ (search rules), λ items views h at. tt)
