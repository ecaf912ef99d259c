-- Variables as a tree of numbers, and back.
use Rattle.std.specs.Prelude.{ℕ, List, refl}
use Rattle.std.specs.Coded.{Coded, code_by, coded×, coded_ℕ, coded_list}
use Rattle.model_value.specs.Value.{Value}
use Rattle.model_says.specs.Variables.{Binding}
use Rattle.aio_base.specs.Code.{coded_value}

abbrev pub coded_binding : Coded Binding
coded_binding =
    code_by (List ℕ × Value) (coded× (coded_list coded_ℕ) coded_value) (λ b. (b.name, b.value)) (λ p. record { name = p.0; value = p.1 }) (λ _. refl)

abbrev pub coded_env : Coded (List Binding)
coded_env = coded_list coded_binding
