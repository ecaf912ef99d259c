use Rattle.std.proofs.Common.{sym, ◌∙◌}
use Rattle.script_term_reader.proofs.Counts.{with_nots-one_less}
use Rattle.script_term_reader.proofs.pending.with_nots.Goals as goal

pub loop-count-preserved : goal.loop-count-preserved
loop-count-preserved c =
    rw c.in_ok-made.ensures (sym (with_nots-one_less c.args.nots c.loop-count._count _ c.loop-count-test.true) ∙ c.loop-count.invariant)
