use Rattle.std.proofs.Common.{◌≡◌, true}
use Rattle.model_wire.specs.Fits.{turn_fits}
use Rattle.model_hub.specs.declared.halt.Halt.TheVariants as is
use Rattle.aio_select.specs.Answered.{gathering, Goes, Notes}
use Rattle.aio_select.proofs.gathering.gather.Given as goal

abbrev pub invariant-loop-count : goal.invariant-loop-count
invariant-loop-count g l =
    (turn_fits l.watch 0 l.answering.items.items ≡ true)
    × Goes l.watch
    (gathering l.initial.answering.items.items l.initial.answering.kept.items (g.P.Pumps.children l.initial.pumps) (g.P.Pumps.taken l.initial.pumps) 0 is.Going)
    (gathering l.answering.items.items l.answering.kept.items (g.P.Pumps.children l.pumps) (g.P.Pumps.taken l.pumps) l.count is.Going)
    (g.P.Pumps.nones l.initial.pumps) (g.P.Pumps.nones l.pumps)
    × Notes (g.P.Pumps.children l.initial.pumps) (g.P.Pumps.taken l.initial.pumps) (g.P.Pumps.children l.pumps) (g.P.Pumps.taken l.pumps)
