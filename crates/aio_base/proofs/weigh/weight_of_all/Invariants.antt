use Rattle.std.proofs.Common.{◌≡◌, ◌-◌, ◌^◌, min, take}
use Rattle.model_value.specs.Value.{values}
use Rattle.model_value.specs.Weight.{items_weight}
use Rattle.aio_base.proofs.weigh.weight_of_all.Given as goal

abbrev pub invariant-loop-item : goal.invariant-loop-item
invariant-loop-item l = l.total ≡ min (items_weight (values (take l.item-index l.items))) (2 ^ 64 - 1)
