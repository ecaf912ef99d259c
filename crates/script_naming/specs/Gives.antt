-- What code answers for what a name means: the same meaning or the same cause, but for want of memory.
-- Source: `Naming` of model_text, whose answers the code gives.
use Rattle.std.specs.Prelude.{◌≡◌, ⊤, Result, Ok, Err}
use Rattle.model_text.specs.Naming.{Meant, lesser}
use Rattle.script_fault.specs.declared.line_fault.LineFault.{LineFault}
use Rattle.script_fault.specs.declared.line_fault.LineFault.TheVariants.{Refused, Memory}

-- there is no meaning for this very cause, unless memory ran out
abbrev pub Fails : {A : Type 0} → Meant A → LineFault → Type 0
Fails meant (Refused cause) = meant ≡ Err cause
Fails meant Memory = ⊤

-- this very meaning, seen by view, or this very cause
abbrev pub Gives : {A B : Type 0} → (A → B) → Meant B → Result A LineFault → Type 0
Gives view meant (Ok meaning) = meant ≡ Ok (view meaning)
Gives view meant (Err fault) = Fails meant fault

-- the cause that counts of two, where want of memory is told first
abbrev pub lesser_fault : LineFault → LineFault → LineFault
lesser_fault Memory other = Memory
lesser_fault (Refused cause) Memory = Memory
lesser_fault (Refused cause) (Refused other) = Refused (lesser cause other)

-- both, or the fault that counts
abbrev pub both_found : {A B : Type 0} → Result A LineFault → Result B LineFault → Result (A × B) LineFault
both_found (Ok a) (Ok b) = Ok (a, b)
both_found (Ok a) (Err fault) = Err fault
both_found (Err fault) (Ok b) = Err fault
both_found (Err fault) (Err other) = Err (lesser_fault fault other)
