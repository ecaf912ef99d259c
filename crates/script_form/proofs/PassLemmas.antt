-- The first pass, one more line at a time.
use Rattle.std.proofs.Common.{◌≡◌, ℕ, ◌+◌, ◌==◌, true, false, List, [], ◌∷◌, ◌++◌, length, Option, Some, None, option_map, Result, Ok, Err, map, reverse, refl}
use Rattle.std.proofs.Common.{sym, ap, ◌∙◌, append_assoc, append-nil}
use Rattle.std.proofs.lemmas.Bool.{false≢true}
use Rattle.std.proofs.lemmas.List.{reverse-append, map-append}
use Rattle.model_text.specs.declared.cause.Cause.{Cause}
use Rattle.model_text.specs.declared.cause.Cause.TheVariants as cause
use Rattle.model_text.specs.Tokens.{Token, tokens_of}
use Rattle.model_text.specs.Words.{lexemes_of}
use Rattle.model_text.specs.Forms.{Spelled, form_of}
use Rattle.model_text.specs.Places.{Role, OpenBlock, role_of, open_blocks, is_outside, cause_behind}
use Rattle.model_text.specs.FirstPass.{Fault, Numbered, placed, form_behind_lines, lexemes_behind, tokens_behind, line_behind, forms_from, form_before}
use Rattle.model_text.specs.FirstPass.{fault_at, ended}
use Rattle.script_term.specs.declared.lexeme.Lexeme as code
use Rattle.script_term.specs.Lexeme.{plain_lexeme}
use Rattle.script_fault.specs.declared.line_fault.LineFault.{LineFault}
use Rattle.script_fault.specs.declared.line_fault.LineFault.TheVariants as line_fault
use Rattle.script_fault.specs.Faults.{IsFaultOf, at_line}
use Rattle.script_form.specs.declared.form_place.FormPlace.{FormPlace}
use Rattle.script_form.specs.Unplaced.{unplaced_of}
use Rattle.script_form.specs.Faults.{IsCauseOf}
use Rattle.script_form.specs.Behind.{roles_of, roles_behind}

-- forms in front of those of a pass
abbrev pub before_all : List (Numbered Spelled) → Result (List (Numbered Spelled)) Fault → Result (List (Numbered Spelled)) Fault
before_all forms (Ok others) = Ok (forms ++ others)
before_all forms (Err fault) = Err fault

-- forms, and one more behind them, if there is one
abbrev pub with_next : ℕ → Option Spelled → List (Numbered Spelled) → List (Numbered Spelled)
with_next number None forms = forms
with_next number (Some form) forms = forms ++ record { line = number; form = form } ∷ []

-- what a pass over more lines gives, by the form of the first
abbrev pub with_first : ℕ → Option Spelled → Result (List (Numbered Spelled)) Fault → Result (List (Numbered Spelled)) Fault
with_first number None forms = forms
with_first number (Some form) forms = form_before number form forms

pub forms_end : (number : ℕ) (roles : List Role) → forms_from number roles [] ≡ ended number (open_blocks roles)
unfolding forms_from
forms_end number roles = refl

-- what a pass gives from a line on, by the line's form
abbrev after_form : ℕ → List Role → List (List ℕ) → Option Spelled → Result (List (Numbered Spelled)) Fault
after_form number roles lines form =
    elim form [
      | None ↦ forms_from (number + 1) roles lines
      | Some form ↦ form_before number form (forms_from (number + 1) (role_of form ∷ roles) lines)
    ]

-- the same, by what was found of the line
abbrev after_line : ℕ → List Role → List (List ℕ) → Result (Option Spelled) Cause → Result (List (Numbered Spelled)) Fault
after_line number roles lines found =
    elim found [ Err cause ↦ fault_at number cause | Ok form ↦ after_form number roles lines form ]

pub forms_fail : (number : ℕ) (roles : List Role) (line : List ℕ) (lines : List (List ℕ)) (cause : Cause) → line_behind roles line ≡ Err cause
    → forms_from number roles (line ∷ lines) ≡ fault_at number cause
unfolding forms_from
forms_fail number roles line lines cause e =
    ap (after_line number roles lines) e

pub forms_more : (number : ℕ) (roles : List Role) (line : List ℕ) (lines : List (List ℕ)) (form : Option Spelled) → line_behind roles line ≡ Ok form
    → forms_from number roles (line ∷ lines) ≡ with_first number form (forms_from (number + 1) (roles_behind form roles) lines)
unfolding forms_from
forms_more number roles line lines form e =
    ap (after_line number roles lines) e ∙ by_form form
  where
    by_form : (form : Option Spelled) → after_form number roles lines form
        ≡ with_first number form (forms_from (number + 1) (roles_behind form roles) lines)
    by_form None = refl
    by_form (Some form) = refl

-- one more form
pub roles_of-more : (forms : List (Numbered Spelled)) (numbered : Numbered Spelled) → roles_of (forms ++ numbered ∷ []) ≡ role_of numbered.form ∷ roles_of forms
roles_of-more forms numbered =
    ap reverse (map-append (λ (n : Numbered Spelled). role_of n.form) forms (numbered ∷ []))
    ∙ reverse-append (map (λ (n : Numbered Spelled). role_of n.form) forms) (role_of numbered.form ∷ [])

pub before_all-more : (forms : List (Numbered Spelled)) (numbered : Numbered Spelled) (others : Result (List (Numbered Spelled)) Fault)
    → before_all forms (form_before numbered.line numbered.form others) ≡ before_all (forms ++ numbered ∷ []) others
before_all-more forms numbered (Ok others) = ap Ok (sym (append_assoc forms (numbered ∷ []) others))
before_all-more forms numbered (Err fault) = refl

-- a form that was read, by what is kept of it
pub record Read (kept : Option Spelled × FormPlace) (form : Option Spelled) : Type 0 where
  pub spelled : Spelled
  pub is : form ≡ Some spelled
  pub same : kept ≡ unplaced_of spelled

pub read_of : (kept : Option Spelled × FormPlace) (form : Option Spelled) → Some kept ≡ option_map unplaced_of form → Read kept form
read_of kept None e = cc
read_of kept (Some form) e = record { spelled = form; is = refl; same = cc }

-- a line with lexemes
line-lexemes : (roles : List Role) (line : List ℕ) (tokens : List Token) (lexemes : List code.Lexeme) → tokens_of line ≡ Ok tokens → map plain_lexeme lexemes
    ≡ lexemes_of tokens → (length lexemes == 0) ≡ false → line_behind roles line ≡ form_behind_lines roles (form_of (map plain_lexeme lexemes))
line-lexemes roles line tokens [] is lexed some = absurd (false≢true (sym some))
line-lexemes roles line tokens (lexeme ∷ lexemes) is lexed some =
    ap (tokens_behind roles) is ∙ ap (lexemes_behind roles) (sym lexed)

-- a line whose form stands where it may
pub line-read : (roles : List Role) (line : List ℕ) (tokens : List Token) (lexemes : List code.Lexeme) (kept : Option Spelled × FormPlace) (spelled : Spelled)
    → tokens_of line ≡ Ok tokens → map plain_lexeme lexemes ≡ lexemes_of tokens → (length lexemes == 0) ≡ false → Some kept
    ≡ option_map unplaced_of (form_of (map plain_lexeme lexemes))
    → ((form : Spelled) → kept ≡ unplaced_of form → (spelled ≡ form) × (cause_behind roles form ≡ None)) → line_behind roles line ≡ Ok (Some spelled)
line-read roles line tokens lexemes kept spelled is lexed some read fits =
    let r = read_of kept (form_of (map plain_lexeme lexemes)) read in
    let f = fits r.spelled r.same in
    line-lexemes roles line tokens lexemes is lexed some
    ∙ ap (form_behind_lines roles) r.is
    ∙ ap (λ cause. placed cause r.spelled) f.1
    ∙ ap (λ form. Ok (Some form)) (sym f.0)

-- a pass that stops at a line
pub pass_stops : (forms : List (Numbered Spelled)) (all : Result (List (Numbered Spelled)) Fault) (number : ℕ) (roles : List Role) (line : List ℕ)
    (lines others : List (List ℕ)) (fault : LineFault) → all ≡ before_all forms (forms_from number roles lines) → lines ≡ line ∷ others
    → IsCauseOf fault (line_behind roles line) → IsFaultOf all (at_line number fault)
pass_stops forms all number roles line lines others (line_fault.Refused cause) so_far split is =
    let failed =
    so_far ∙ ap (λ ls. before_all forms (forms_from number roles ls)) split
    ∙ ap (before_all forms) (forms_fail number roles line others cause is) in
    (cause, failed, refl)
pass_stops forms all number roles line lines others line_fault.Memory so_far split is = tt

-- a pass that goes on
pub pass_goes_on : (forms : List (Numbered Spelled)) (all : Result (List (Numbered Spelled)) Fault) (number : ℕ) (line : List ℕ) (lines others : List (List ℕ))
    (form : Option Spelled) → all ≡ before_all forms (forms_from number (roles_of forms) lines) → lines ≡ line ∷ others → line_behind (roles_of forms) line
    ≡ Ok form → all ≡ before_all (with_next number form forms) (forms_from (number + 1) (roles_of (with_next number form forms)) others)
pass_goes_on forms all number line lines others None so_far split is =
    so_far ∙ ap (λ ls. before_all forms (forms_from number (roles_of forms) ls)) split
    ∙ ap (before_all forms) (forms_more number (roles_of forms) line others None is)
pass_goes_on forms all number line lines others (Some form) so_far split is =
    let numbered : Numbered Spelled = record { line = number; form = form } in
    so_far ∙ ap (λ ls. before_all forms (forms_from number (roles_of forms) ls)) split
    ∙ ap (before_all forms) (forms_more number (roles_of forms) line others (Some form) is)
    ∙ before_all-more forms numbered (forms_from (number + 1) (role_of form ∷ roles_of forms) others)
    ∙ ap (λ roles. before_all (forms ++ numbered ∷ []) (forms_from (number + 1) roles others)) (sym (roles_of-more forms numbered))

pub roles_of-next : (number : ℕ) (form : Option Spelled) (forms : List (Numbered Spelled)) → roles_behind form (roles_of forms)
    ≡ roles_of (with_next number form forms)
roles_of-next number None forms = refl
roles_of-next number (Some form) forms = sym (roles_of-more forms (record { line = number; form = form }))

-- a pass at the end of its text
pub pass_ends : (forms : List (Numbered Spelled)) (all : Result (List (Numbered Spelled)) Fault) (number : ℕ) (roles : List Role) → all
    ≡ before_all forms (forms_from number roles []) → true ≡ is_outside (open_blocks roles) → all ≡ Ok forms
pass_ends forms all number roles so_far outside =
    so_far ∙ ap (before_all forms) (forms_end number roles) ∙ by_blocks (open_blocks roles) outside
  where
    by_blocks : (blocks : List OpenBlock) → true ≡ is_outside blocks → before_all forms (ended number blocks) ≡ Ok forms
    by_blocks [] e = ap Ok (append-nil forms)
    by_blocks (block ∷ blocks) e = cc

pub pass_lacks : (forms : List (Numbered Spelled)) (all : Result (List (Numbered Spelled)) Fault) (number : ℕ) (roles : List Role) → all
    ≡ before_all forms (forms_from number roles []) → false ≡ is_outside (open_blocks roles)
    → IsFaultOf all (at_line number (line_fault.Refused cause.Nesting))
pass_lacks forms all number roles so_far outside =
    (cause.Nesting, so_far ∙ ap (before_all forms) (forms_end number roles) ∙ by_blocks (open_blocks roles) outside, refl)
  where
    by_blocks : (blocks : List OpenBlock) → false ≡ is_outside blocks → before_all forms (ended number blocks)
        ≡ Err (record { line = number; cause = cause.Nesting })
    by_blocks [] e = cc
    by_blocks (block ∷ blocks) e = refl
