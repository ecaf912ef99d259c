-- Faults of the code against those of the definition: want of memory is none.
-- Source: the first fault of a text (model_text, specs/FirstPass.antt).
use Rattle.std.specs.Prelude.{◌≡◌, ℕ, ⊤, Result}
use Rattle.model_text.specs.declared.cause.Cause.{Cause}
use Rattle.model_text.specs.Causes.{cause_number}
use Rattle.model_text.specs.FirstPass.{Fault, fault_at}
use Rattle.script_fault.specs.declared.line_fault.LineFault.{LineFault}
use Rattle.script_fault.specs.declared.line_fault.LineFault.TheVariants as line
use Rattle.script_fault.specs.declared.script_fault.ScriptFault.{ScriptFault}
use Rattle.script_fault.specs.declared.script_fault.ScriptFault.TheVariants.{Refused, Memory}

-- this very fault is the first, unless memory was refused
abbrev pub IsFaultOf : {A : Type 0} → Result A Fault → ScriptFault → Type 0
IsFaultOf judged (Refused line number) =
    (why : Cause) × (judged ≡ fault_at line why) × (number ≡ cause_number why)
IsFaultOf judged Memory = ⊤

-- the fault of a text whose least faulty line this is
abbrev pub at_line : ℕ → LineFault → ScriptFault
at_line number (line.Refused cause) = Refused number (cause_number cause)
at_line number line.Memory = Memory
