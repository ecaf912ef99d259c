use Rattle.std.proofs.Common.{◌∙◌, arith}
use Rattle.aio_closing.proofs.Pass.{told_step}
use Rattle.aio_closing.proofs.taking.take_all.Goals as goal

pub loop-k-preserved : goal.loop-k-preserved
loop-k-preserved g c =
    let before = c.loop-k.invariant in
    let one = c.take_one.ensures in
    record {
      told =
          told_step c.args.roster.now c.loop-k.k c.loop-k.telling c.take_one.new.telling c.count_running-count.ensures.numbered one.told
          before.told;
      settled = omega (arith, one.settled, before.settled);
      runs = one.runs;
      none = (one.none.0 ∙ before.none.0, one.none.1 ∙ before.none.1);
      monotone = omega (arith, one.monotone, before.monotone);
    }
