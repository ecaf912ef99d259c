-- What code answers for a meaning: the same value or the same exception, but for want of memory.
use Rattle.std.specs.Prelude.{◌≡◌, List, Option, Some, None, Result, Ok, Err, ⊤}
use Rattle.model_value.specs.Value.{Value, Exc}
use Rattle.model_says.specs.Operations.{ValueOrException, bad_operand, out_of_range, division_by_zero, index_out_of_range, not_utf8}
use Rattle.aio_expr.specs.declared.operation_fault.OperationFault.{OperationFault}
use Rattle.aio_expr.specs.declared.operation_fault.OperationFault.TheVariants.{BadOperand, OutOfRange, DivisionByZero, IndexOutOfRange, NotUtf8, Memory}

-- the exception of a cause; want of memory has none
abbrev pub raised_for : OperationFault → Option Exc
raised_for BadOperand = Some bad_operand
raised_for OutOfRange = Some out_of_range
raised_for DivisionByZero = Some division_by_zero
raised_for IndexOutOfRange = Some index_out_of_range
raised_for NotUtf8 = Some not_utf8
raised_for Memory = None

abbrev pub IsRaised : {A : Type 0} → Result A Exc → Option Exc → Type 0
IsRaised answer (Some fault) = answer ≡ Err fault
IsRaised answer None = ⊤

-- the meaning raises the exception of the cause
abbrev pub Fails : ValueOrException → OperationFault → Type 0
Fails answer cause = IsRaised answer (raised_for cause)

-- the same of values in order
abbrev pub AllFail : Result (List Value) Exc → OperationFault → Type 0
AllFail answer cause = IsRaised answer (raised_for cause)

abbrev pub Gives : ValueOrException → Result Value OperationFault → Type 0
Gives answer (Ok value) = answer ≡ Ok value
Gives answer (Err cause) = Fails answer cause
