-- An exception is one deeper than its deepest member.
use Rattle.std.proofs.Common.{arith}
use Rattle.law_value.proofs.Depths.{exc_depth-parts}
use Rattle.aio_base.proofs.nesting.depth_of_exc.Goals as goal

pub returns : goal.returns
returns c = omega (arith, exc_depth-parts c.args.exc.now)
