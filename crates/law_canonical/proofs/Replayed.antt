-- The first pass over the canonical lines of a text that it accepted.
use Rattle.std.proofs.Common.{◌≡◌, ℕ, ◌+◌, Bool, true, false, List, [], ◌∷◌, Some, None, Ok, map, length, nat_eq, nat_le, sym, ap, ◌∙◌, subst}
use Rattle.std.specs.List.{AllZip}
use Rattle.model_text.specs.Forms.{Profile, Spelled}
use Rattle.model_text.specs.Places.{Role, after, OpenBlock, role_of, open_blocks, may_stand, fits, height_of_form, most_height, is_profile, cause_behind}
use Rattle.model_text.specs.FirstPass.{Numbered, placed, line_behind, ended, form_before, forms_from}
use Rattle.model_text.specs.SecondPass.{Line}
use Rattle.law_lines.specs.LineTexts.{spelled}
use Rattle.law_lines.specs.WellWritten.{WellWritten}
use Rattle.law_lines.proofs.FormReads.{line-inside}
use Rattle.law_canonical.proofs.Passed.{Fits, fitting, stepped, forms-step, forms-end}
use Rattle.law_canonical.proofs.Parted.{AllFit}
use Rattle.law_canonical.specs.ProgramLines.{Indented}
use Rattle.law_canonical.proofs.SpelledLines.{without_blocks}
use Rattle.law_canonical.proofs.TextLines.{line_bytes}

-- a form of a text, and the line that it is
pub record Written (form : Spelled) (line : Line) : Type 0 where
  pub same : spelled line ≡ form
  pub well : WellWritten line

stands-anywhere : (first : Bool) (blocks : List OpenBlock) (form : Spelled) → may_stand false blocks form ≡ true → may_stand first blocks form ≡ true
stands-anywhere first blocks (Profile number) e = cc
stands-anywhere first blocks form e = e

uncaused : (before : List Role) (form : Spelled) → Fits (open_blocks before) form → cause_behind before form ≡ None
uncaused before form f =
    let blocks : List OpenBlock = open_blocks before in
    fitting (may_stand (nat_eq (length before) 0) blocks form) (fits blocks (role_of form)) (nat_le (height_of_form form) most_height) (is_profile form)
    (stands-anywhere (nat_eq (length before) 0) blocks form f.stands) f.nests f.low f.known

-- the forms of lines, of which the first has this number
abbrev pub renumbered : ℕ → List Line → List (Numbered Spelled)
renumbered number [] = []
renumbered number (line ∷ lines) = record { line = number; form = spelled line } ∷ renumbered (number + 1) lines

line-again : (before : List Role) (form : Spelled) (line : Indented) → Written form line.line → Fits (open_blocks before) form
    → line_behind before (line_bytes line) ≡ Ok (Some (spelled line.line))
line-again before form line w f =
    line-inside before line.blocks line.line w.well ∙ ap (λ found. placed found (spelled line.line)) (ap (cause_behind before) w.same ∙ uncaused before form f)

pub replayed : (lines : List Indented) (forms : List Spelled) (number : ℕ) (before : List Role) → AllFit (open_blocks before) forms
    → AllZip Written forms (without_blocks lines) → forms_from number before (map line_bytes lines) ≡ Ok (renumbered number (without_blocks lines))
replayed [] [] number before f w = forms-end number before ∙ ap (ended number) f
replayed [] (form ∷ forms) number before f w = absurd w
replayed (line ∷ lines) [] number before f w = absurd w
replayed (line ∷ lines) (form ∷ forms) number before f w =
    let role : Role = role_of (spelled line.line) in
    let behind : AllFit (open_blocks (role ∷ before)) forms =
    subst (λ blocks. AllFit blocks forms) (ap (λ f. after (role_of f) (open_blocks before)) (sym w.0.same)) f.1 in
    forms-step number before (line_bytes line) (map line_bytes lines)
    ∙ (ap (stepped number before (map line_bytes lines)) (line-again before form line w.0 f.0)
    ∙ ap (form_before number (spelled line.line)) (replayed lines forms (number + 1) (role ∷ before) behind w.1))
