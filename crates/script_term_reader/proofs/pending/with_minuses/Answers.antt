use Rattle.std.proofs.Common.{sym, ◌∙◌}
use Rattle.script_term_reader.proofs.Counts.{with_minuses-one_less}
use Rattle.script_term_reader.proofs.pending.with_minuses.Goals as goal

pub loop-count-preserved : goal.loop-count-preserved
loop-count-preserved c =
    rw c.in_ok-made.ensures (sym (with_minuses-one_less c.args.minuses c.loop-count._count _ c.loop-count-test.true) ∙ c.loop-count.invariant)
