use Rattle.std.proofs.Common.{◌≡◌, ◌-◌, map, sum, take}
use Rattle.model_wire.specs.Fits.{bytes_in, most_bytes}
use Rattle.aio_outside.proofs.eager.room_beside.Given as goal

abbrev pub invariant-loop-item : goal.invariant-loop-item
invariant-loop-item l = l.room ≡ most_bytes - sum (map bytes_in (take l.item-index l.items))
