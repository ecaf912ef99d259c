use Rattle.std.proofs.Common.{◌≡◌, true, take}
use Rattle.std.specs.List.{flat_map}
use Rattle.model_wire.specs.Fits.{turn_fits}
use Rattle.model_hub.specs.Gathering.{stdin_items}
use Rattle.aio_select.specs.Answered.{AddsAll}
use Rattle.aio_select.proofs.beginning.add_stdins.Given as goal

abbrev pub invariant-loop-entry : goal.invariant-loop-entry
invariant-loop-entry g l =
    (turn_fits l.watch 0 l.answering.items.items ≡ true)
    × AddsAll l.watch l.initial.answering.items.items l.initial.answering.kept.items
    (flat_map (stdin_items (g.P.Pumps.children l.pumps)) (take l.entry-index l.entry-items)) l.answering.items.items
    l.answering.kept.items
