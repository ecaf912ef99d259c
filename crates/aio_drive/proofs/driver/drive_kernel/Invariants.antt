use Rattle.std.proofs.Common.{◌≡◌}
use Rattle.std.specs.Option.{option_copied}
use Rattle.model_tree.specs.Syntax.{Program}
use Rattle.aio_wire.specs.Replied.{Stays}
use Rattle.aio_core.specs.Turned.{Begins}
use Rattle.aio_drive.proofs.Rounds.{IsUnderWay}
use Rattle.aio_drive.proofs.driver.drive_kernel.Given as goal

abbrev pub invariant-loop-made : goal.invariant-loop-made
invariant-loop-made g l = record {
  running : (kept : g.X.Extra.added.Kept) (program : Program) → Begins g.X.Extra.added kept program l.fn.kernel
      → IsUnderWay g.X.Extra.added kept program l.fn.manner l._made l.kernel (g.W.Wire.outside.seen l.fn.wire) (g.W.Wire.outside.seen l.wire)
      (g.K.Sink.seen l.fn.out) (g.K.Sink.seen l.out)
      (record {
        name = option_copied l.fn.journal;
        old = g.F.Shelf.seen l.fn.shelf;
        new = g.F.Shelf.seen l.shelf;
      })
      (g.W.Wire.outside.fails l.fn.wire) (g.W.Wire.outside.fails l.wire) (g.W.Wire.outside.quiet l.fn.wire l.wire) (l.shelf ≡ l.fn.shelf);
  stays : Stays (g.W.Wire.outside.seen l.fn.wire) (g.W.Wire.outside.seen l.wire);
  keeps : g.W.Wire.outside.keeps l.fn.wire l.wire;
}
