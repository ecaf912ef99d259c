-- The first pass over a text: each line has a form, and stands where it may. The least faulty line counts, with one cause:
-- its tokens before its form, its form before its nesting, its nesting before its profile.
-- Source: the Python language reference, "Full grammar specification": a text that no rule fits is refused at a line.
use Rattle.std.specs.Prelude.{ℕ, ◌+◌, List, [], ◌∷◌, Option, Some, None, Result, Ok, Err}
use Rattle.model_text.specs.declared.cause.Cause.{Cause}
use Rattle.model_text.specs.declared.cause.Cause.TheVariants as cause
use Rattle.model_text.specs.Faults.{TokenFault}
use Rattle.model_text.specs.Tokens.{Token, tokens_of}
use Rattle.model_text.specs.Words.{Lexeme, lexemes_of}
use Rattle.model_text.specs.Forms.{Spelled, form_of}
use Rattle.model_text.specs.Places.{Role, OpenBlock, role_of, open_blocks, cause_behind}

-- why a text is no script: a line, counted from 1, and a cause
pub record Fault : Type 0 where
  pub line : ℕ
  pub cause : Cause

abbrev pub fault_at : {A : Type 0} → ℕ → Cause → Result A Fault
fault_at line cause = Err (record { line = line; cause = cause })

-- a form, with the number of its line
pub record Numbered (F : Type 0) : Type 0 where
  pub line : ℕ
  pub form : F

-- a form that stands behind lines with these roles, if nothing is wrong with it
abbrev pub placed : Option Cause → Spelled → Result (Option Spelled) Cause
placed None form = Ok (Some form)
placed (Some cause) form = Err cause

abbrev pub form_behind_lines : List Role → Option Spelled → Result (Option Spelled) Cause
form_behind_lines before None = Err cause.Form
form_behind_lines before (Some form) = placed (cause_behind before form) form

abbrev pub lexemes_behind : List Role → List Lexeme → Result (Option Spelled) Cause
lexemes_behind before [] = Ok None
lexemes_behind before (lexeme ∷ lexemes) = form_behind_lines before (form_of (lexeme ∷ lexemes))

abbrev pub tokens_behind : List Role → Result (List Token) TokenFault → Result (Option Spelled) Cause
tokens_behind before (Err fault) = Err cause.Token
tokens_behind before (Ok tokens) = lexemes_behind before (lexemes_of tokens)

-- The form of a line behind lines with these roles, the latest first; nothing where it has no token; or what is wrong.
abbrev pub line_behind : List Role → List ℕ → Result (Option Spelled) Cause
line_behind before line = tokens_behind before (tokens_of line)

-- the end of the text, at the line after the last
abbrev pub ended : ℕ → List OpenBlock → Result (List (Numbered Spelled)) Fault
ended line [] = Ok []
ended line (block ∷ blocks) = fault_at line cause.Nesting

abbrev pub form_before : ℕ → Spelled → Result (List (Numbered Spelled)) Fault → Result (List (Numbered Spelled)) Fault
form_before line form (Ok forms) = Ok (record { line = line; form = form } ∷ forms)
form_before line form (Err fault) = Err fault

-- The forms of the lines, of which the first has this number and stands behind lines with these roles, or the first fault.
unfoldable pub forms_from : ℕ → List Role → List (List ℕ) → Result (List (Numbered Spelled)) Fault
forms_from number before [] = ended number (open_blocks before)
forms_from number before (line ∷ lines) =
    elim (line_behind before line) [
      | Err cause ↦ fault_at number cause
      | Ok form ↦ elim form [
        | None ↦ forms_from (number + 1) before lines
        | Some form ↦ form_before number form (forms_from (number + 1) (role_of form ∷ before) lines)
      ]
    ]

abbrev pub first_pass : List (List ℕ) → Result (List (Numbered Spelled)) Fault
first_pass lines = forms_from 1 [] lines
