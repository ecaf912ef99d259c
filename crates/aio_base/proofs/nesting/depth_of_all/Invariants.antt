use Rattle.std.proofs.Common.{◌≡◌, ◌-◌, ◌^◌, min, take}
use Rattle.model_value.specs.Value.{values}
use Rattle.model_value.specs.Depth.{items_depth}
use Rattle.aio_base.proofs.nesting.depth_of_all.Given as goal

abbrev pub invariant-loop-item : goal.invariant-loop-item
invariant-loop-item l = l.deepest ≡ min (items_depth (values (take l.item-index l.items))) (2 ^ 64 - 1)
