-- The parts of an exception weigh what it weighs.
use Rattle.std.proofs.Common.{length, ap, arith}
use Rattle.law_value.proofs.Weights.{exc_weight-parts}
use Rattle.aio_base.proofs.weigh.weight_of_exc.Goals as goal

pub returns : goal.returns
returns c = omega (arith, exc_weight-parts c.args.exc.now, ap length c.text.ensures, ap length c.bytes.ensures)
