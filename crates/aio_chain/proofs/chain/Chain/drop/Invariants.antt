-- Each turn takes one value out.
use Rattle.std.proofs.Common.{length}
use Rattle.aio_chain.proofs.chain.Chain.drop.Given as goal

abbrev pub decreases-loop-value : goal.decreases-loop-value
decreases-loop-value g l = length l.self
