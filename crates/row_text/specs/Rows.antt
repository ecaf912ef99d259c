-- What a row of a table holds: a text, and what the definitions must give for it.
use Rattle.std.specs.Prelude.{ℕ, List, [], ◌∷◌, ◌++◌, Option, Some, None, Result, Ok, Err, codes}
use Prim.Native.String.{String}
use Rattle.model_tree.specs.Syntax.{Program}
use Rattle.model_text.specs.declared.cause.Cause.{Cause}
use Rattle.model_text.specs.Canonical.{canonical}
use Rattle.model_text.specs.FirstPass.{Fault}
use Rattle.model_text.specs.Scripts.{script_of, fault_of}

-- lines that each end at a newline
abbrev pub text : List String → List ℕ
text [] = []
text (line ∷ lines) = codes line ++ (10 ∷ text lines)

-- ---- refused texts
pub record FaultRow : Type 0 where
  pub text : List ℕ
  pub expected : Option Fault

abbrev pub found : FaultRow → Option Fault
found row = fault_of row.text

abbrev pub expected : FaultRow → Option Fault
expected row = row.expected

abbrev pub refused : List ℕ → ℕ → Cause → FaultRow
refused text line cause = record { text = text; expected = Some (record { line = line; cause = cause }) }

abbrev pub accepted : List ℕ → FaultRow
accepted text = record { text = text; expected = None }

-- a text that is refused at this line
abbrev pub at : ℕ → Cause → List String → FaultRow
at line cause lines = refused (text lines) line cause

-- a line that is refused as the second of `main`
abbrev pub in_main : Cause → String → FaultRow
in_main cause line = at 2 cause ("def main()" ∷ line ∷ "end" ∷ [])

-- ---- texts that spell a script, with its canonical text
pub record CanonicalPair : Type 0 where
  pub text : List ℕ
  pub canonical : List ℕ

abbrev pub spells : List String → List String → CanonicalPair
spells lines canonical_lines = record { text = text lines; canonical = text canonical_lines }

abbrev pub canonical_or_fault : Result Program Fault → Result (List ℕ) Fault
canonical_or_fault (Ok program) = Ok (canonical program)
canonical_or_fault (Err fault) = Err fault

abbrev pub written : CanonicalPair → Result (List ℕ) Fault
written pair = canonical_or_fault (script_of pair.text)

abbrev pub wanted : CanonicalPair → Result (List ℕ) Fault
wanted pair = Ok pair.canonical

-- the program of a text and the program of its canonical text
abbrev pub first_read : CanonicalPair → Result Program Fault
first_read pair = script_of pair.text

abbrev pub read_again : CanonicalPair → Result Program Fault
read_again pair = script_of pair.canonical
