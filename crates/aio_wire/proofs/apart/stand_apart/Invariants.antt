use Rattle.std.proofs.Common.{◌≡◌, true, filter_map, take}
use Rattle.model_wire.specs.Fits.{interest_of, stand_apart}
use Rattle.aio_wire.proofs.apart.stand_apart.Given as goal

abbrev pub invariant-loop-item : goal.invariant-loop-item
invariant-loop-item l =
    (l.taken.keys ≡ filter_map interest_of (take l.item-index l.items)) × (stand_apart (take l.item-index l.items) ≡ true)
