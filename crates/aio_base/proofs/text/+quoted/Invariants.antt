use Rattle.std.proofs.Common.{◌≡◌, ◌++◌, take}
use Rattle.model_value.specs.Value.{values}
use Rattle.model_value.specs.Shown.{quoted_items}
use Rattle.law_value.proofs.Joined.{separator}
use Rattle.aio_base.specs.Size.{value_size, list_size}
use Rattle.aio_base.proofs.text.+quoted.Given as goal

abbrev pub decreases-push_quoted : goal.decreases-push_quoted
decreases-push_quoted l = value_size l.value.now

abbrev pub decreases-push_items : goal.decreases-push_items
decreases-push_items l = list_size l.items.now

abbrev pub invariant-push_items-loop-item : goal.invariant-push_items-loop-item
invariant-push_items-loop-item l =
    (l.out.items ≡ l.initial.out.items ++ quoted_items (values (take l.item-index l.items)))
    × (l.separator ≡ separator (take l.item-index l.items))
