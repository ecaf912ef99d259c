use Rattle.std.proofs.Common.{◌≡◌, length, drop}
use Rattle.model_value.specs.Value.{excs}
use Rattle.model_value.specs.Equality.{same_members}
use Rattle.aio_base.specs.Size.{exc_size, excs_size}
use Rattle.aio_base.proofs.equality.+exc_equality.Given as goal

abbrev pub decreases-equal_excs : goal.decreases-equal_excs
decreases-equal_excs l = exc_size l.a.now

abbrev pub decreases-all_excs_equal : goal.decreases-all_excs_equal
decreases-all_excs_equal l = excs_size l.a.now

abbrev pub invariant-all_excs_equal-loop-i : goal.invariant-all_excs_equal-loop-i
invariant-all_excs_equal-loop-i l =
    (length l.a ≡ length l.b)
    × (same_members (excs (drop l.i l.a)) (excs (drop l.i l.b)) ≡ same_members (excs l.a) (excs l.b))
