use Rattle.std.proofs.Common.{nat_cmp, refl}
use Rattle.std.specs.Cmp.Lexicographic.{slice_cmp, nat_list_cmp_total}
use Rattle.std.specs.FinMap.{slice_cmp-IsAntisymmetric, nat_cmp-IsAntisymmetric}
use Rattle.model_value.specs.Value.{Text, Bytes}
use Rattle.aio_expr.proofs.Orders.{is_ordered}
use Rattle.aio_expr.proofs.laws.comparisons_are_orders.Goals as goal

pub returns-clause-texts : goal.returns-clause-texts
returns-clause-texts c = is_ordered Text (slice_cmp nat_cmp) nat_list_cmp_total (slice_cmp-IsAntisymmetric nat_cmp-IsAntisymmetric) (λ a b. refl)

pub returns-clause-bytes : goal.returns-clause-bytes
returns-clause-bytes c = is_ordered Bytes (slice_cmp nat_cmp) nat_list_cmp_total (slice_cmp-IsAntisymmetric nat_cmp-IsAntisymmetric) (λ a b. refl)
