use Rattle.std.proofs.Common.{◌≡◌, take}
use Rattle.aio_wire.proofs.copying.copy_of_items.Given as goal

abbrev pub invariant-loop-item : goal.invariant-loop-item
invariant-loop-item l = l.copies.items ≡ take l.item-index l.item-items
