use Rattle.std.proofs.Common.{◌≡◌, map, sum, take}
use Rattle.model_wire.specs.Fits.{bytes_in}
use Rattle.aio_interest.specs.Keys.{Marks}
use Rattle.aio_select.proofs.answering.Answering.new.Given as goal

abbrev pub invariant-loop-item : goal.invariant-loop-item
invariant-loop-item l = (l.bytes ≡ sum (map bytes_in (take l.item-index l.fn.items.items))) × Marks l.taken (take l.item-index l.fn.items.items)
