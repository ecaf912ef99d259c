-- What a fault tells of a meaning.
use Rattle.std.specs.Prelude.{◌≡◌, Option, Some, Err, ⊤}
use Rattle.model_value.specs.Value.{Exc}
use Rattle.model_says.specs.Operations.{ValueOrException}
use Rattle.aio_expr.specs.declared.value.ExprFault.{ExprFault}
use Rattle.aio_expr.specs.declared.value.ExprFault.TheVariants.{Raised, Memory}

-- the meaning raises this exception; want of memory tells nothing
abbrev pub Raises : ValueOrException → ExprFault → Type 0
Raises answer (Raised fault) = answer ≡ Err fault
Raises answer Memory = ⊤

abbrev pub IsFaultOf : Option Exc → ExprFault → Type 0
IsFaultOf cause (Raised fault) = cause ≡ Some fault
IsFaultOf cause Memory = ⊤
