use Rattle.std.proofs.Common.{◌≡◌, true, take}
use Rattle.std.specs.List.{list_all}
use Rattle.model_wire.specs.Fits.{is_awaited}
use Rattle.aio_wire.proofs.awaited.are_awaited_by.Given as goal

abbrev pub invariant-loop-item : goal.invariant-loop-item
invariant-loop-item l = list_all (is_awaited l.watch) (take l.item-index l.items) ≡ true
