use Rattle.model_tree.specs.Syntax.{Program}
use Rattle.aio_core.specs.Turned.{Begins}
use Rattle.aio_tally.proofs.TalliedRuns.{IsUnderWay}
use Rattle.aio_tally.proofs.tallying.tally_kernel.Given as goal

abbrev pub invariant-loop-made : goal.invariant-loop-made
invariant-loop-made g l =
    (kept : g.X.Extra.added.Kept) (program : Program) → Begins g.X.Extra.added kept program l.fn.kernel
    → IsUnderWay g.X.Extra.added kept program l.fn.turns l._made l.kernel (g.W.Wire.outside.seen l.fn.wire) (g.W.Wire.outside.seen l.wire) l.counts
