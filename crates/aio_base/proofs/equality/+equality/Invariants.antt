use Rattle.std.proofs.Common.{◌≡◌, length, drop}
use Rattle.model_value.specs.Value.{values}
use Rattle.model_value.specs.Equality.{same_items}
use Rattle.aio_base.specs.Size.{value_size, list_size}
use Rattle.aio_base.proofs.equality.+equality.Given as goal

abbrev pub decreases-equal : goal.decreases-equal
decreases-equal l = value_size l.a.now

abbrev pub decreases-all_equal : goal.decreases-all_equal
decreases-all_equal l = list_size l.a.now

abbrev pub invariant-all_equal-loop-i : goal.invariant-all_equal-loop-i
invariant-all_equal-loop-i l =
    (length l.a ≡ length l.b)
    × (same_items (values (drop l.i l.a)) (values (drop l.i l.b)) ≡ same_items (values l.a) (values l.b))
