-- A line's fault against the cause of the definition: want of memory is none.
use Rattle.std.specs.Prelude.{◌≡◌, Option, Some, Result, Err}
use Rattle.model_text.specs.declared.cause.Cause.{Cause}
use Rattle.script_fault.specs.declared.line_fault.LineFault.{LineFault}
use Rattle.script_fault.specs.declared.line_fault.LineFault.TheVariants.{Refused, Memory}

-- the definition answers this very cause, unless memory ran out
abbrev pub IsCauseOf : {A : Type 0} → LineFault → Result A Cause → Type 0
IsCauseOf (Refused cause) answer = answer ≡ Err cause
IsCauseOf Memory answer = Unit {0}

-- the same of a form
abbrev pub IsCauseIn : LineFault → Option Cause → Type 0
IsCauseIn (Refused cause) answer = answer ≡ Some cause
IsCauseIn Memory answer = Unit {0}
