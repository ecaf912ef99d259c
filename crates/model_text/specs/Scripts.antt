-- The script of a text, or its first fault.
-- Source: the Python language reference, "Top-level components".
use Rattle.std.specs.Prelude.{ℕ, ◌+◌, List, [], ◌∷◌, length, map, Option, Some, None, Ok, Err, nat_le, if◌then◌else◌}
use Rattle.model_tree.specs.Syntax.{Coroutine, Program}
use Rattle.model_text.specs.declared.cause.Cause.TheVariants as cause
use Rattle.model_text.specs.Forms.{Profile, Spelled}
use Rattle.model_text.specs.TextLines.{text_lines}
use Rattle.model_text.specs.FirstPass.{Fault, fault_at, Numbered, first_pass}
use Rattle.model_text.specs.SecondPass.{Line, Part, ScriptParts, parts_of, Judged, second_pass}
use Rattle.model_text.specs.Bodies.{body_in}

-- the longest text, in bytes
abbrev pub most_bytes : ℕ
most_bytes = 1048576

abbrev pub profile_of : Spelled → ℕ → ℕ
profile_of (Profile number) others = number
profile_of _ others = others

-- the profile that the lines before the coroutines name, 1 where they name none
abbrev pub profile_in : List (Numbered Spelled) → ℕ
profile_in [] = 1
profile_in (line ∷ lines) = profile_of line.form (profile_in lines)

abbrev pub coroutine : Part Line → Coroutine
coroutine part = record { name = part.name; parameters = part.parameters; body = body_in part.lines }

abbrev pub program : ℕ → List (Part Line) → Program
program profile parts = record { profile = profile; coroutines = map coroutine parts }

abbrev pub judged_program : ℕ → Judged (List (Part Line)) → Judged Program
judged_program profile (Ok parts) = Ok (program profile parts)
judged_program profile (Err fault) = Err fault

-- the line after the last has this number
abbrev pub script_of_parts : ℕ → ScriptParts (Numbered Spelled) → Judged Program
script_of_parts line parts = judged_program (profile_in parts.front) (second_pass line parts.coroutines)

abbrev pub script_of_forms : ℕ → Judged (List (Numbered Spelled)) → Judged Program
script_of_forms line (Ok forms) = script_of_parts line (parts_of forms)
script_of_forms line (Err fault) = Err fault

abbrev pub script_of_lines : List (List ℕ) → Judged Program
script_of_lines lines = script_of_forms (length lines + 1) (first_pass lines)

-- The program that a text spells, or its first fault.
unfoldable pub script_of : List ℕ → Judged Program
script_of text = if nat_le (length text) most_bytes then script_of_lines (text_lines text) else fault_at 1 cause.TooLong

abbrev pub refusal : {A : Type 0} → Judged A → Option Fault
refusal (Ok script) = None
refusal (Err fault) = Some fault

-- the first fault of a text, if there is one
abbrev pub fault_of : List ℕ → Option Fault
fault_of text = refusal (script_of text)
