-- What code answers for the second pass: the same meanings or the same first fault, but for want of memory.
-- Source: `SecondPass` of model_text, whose answers the code gives.
use Rattle.std.specs.Prelude.{◌≡◌, ℕ, Result, Ok, Err}
use Rattle.model_text.specs.SecondPass.{Judged}
use Rattle.script_fault.specs.declared.line_fault.LineFault.{LineFault}
use Rattle.script_fault.specs.declared.script_fault.ScriptFault.{ScriptFault}
use Rattle.script_fault.specs.Faults.{IsFaultOf, at_line}

-- these very meanings, seen by view, or this very fault
abbrev pub Judges : {A B : Type 0} → (A → B) → Judged B → Result A ScriptFault → Type 0
Judges view judged (Ok meaning) = judged ≡ Ok (view meaning)
Judges view judged (Err fault) = IsFaultOf judged fault

-- a fault at a line
abbrev pub found_at : {A : Type 0} → ℕ → Result A LineFault → Result A ScriptFault
found_at line (Ok meaning) = Ok meaning
found_at line (Err fault) = Err (at_line line fault)
