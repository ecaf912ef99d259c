-- What the first pass over lines says of their forms.
use Rattle.std.proofs.Common.{◌≡◌, ℕ, ◌+◌, Bool, true, false, List, [], ◌∷◌, Option, Some, None, Result, Ok, Err, length, nat_eq, nat_le, refl, sym, ◌∙◌, subst}
use Rattle.std.proofs.Common.{ne_eqb, arith}
use Rattle.std.specs.Prelude.{not, ◌&&◌, if◌then◌else◌}
use Rattle.model_text.specs.declared.cause.Cause.{Cause}
use Rattle.model_text.specs.declared.cause.Cause.TheVariants as cause
use Rattle.model_text.specs.Faults.{TokenFault}
use Rattle.model_text.specs.Tokens.{Token, tokens_of}
use Rattle.model_text.specs.Words.{Lexeme, lexemes_of}
use Rattle.model_text.specs.Forms.{Profile, Def, Spelled, form_of}
use Rattle.model_text.specs.Places.{Role, after, OpenBlock, role_of, open_blocks, may_stand, fits, height_of_form, most_height, is_profile, cause_behind}
use Rattle.model_text.specs.FirstPass.{Fault, fault_at, Numbered, placed, form_behind_lines, lexemes_behind, tokens_behind, line_behind, ended, form_before}
use Rattle.model_text.specs.FirstPass.{forms_from}
use Rattle.model_text.specs.SecondPass.{parts_of}
use Rattle.model_text.specs.Scripts.{profile_in}

-- A form fits the blocks that are open before it, behind some line.
pub record Fits (blocks : List OpenBlock) (form : Spelled) : Type 0 where
  pub stands : may_stand false blocks form ≡ true
  pub nests : fits blocks (role_of form) ≡ true
  pub low : nat_le (height_of_form form) most_height ≡ true
  pub known : is_profile form ≡ true

-- some line is taken as the form
pub record Read (form : Spelled) : Type 0 where
  pub before : List Role
  pub line : List ℕ
  pub taken : line_behind before line ≡ Ok (Some form)

abbrev pub Accepted : List OpenBlock → List (Numbered Spelled) → Type 0
Accepted blocks [] = blocks ≡ []
Accepted blocks (line ∷ lines) =
    Fits blocks line.form × Read line.form × Accepted (after (role_of line.form) blocks) lines

-- ---- a form with no cause against it
abbrev cause_by : (stands nests low known : Bool) → Option Cause
cause_by stands nests low known =
    if not stands then Some cause.Form
    else (if not (nests && low) then Some cause.Nesting
    else (if not known then Some cause.Profile
    else None))

no_cause : (stands nests low known : Bool) → cause_by stands nests low known ≡ None → (stands ≡ true) × (nests ≡ true) × (low ≡ true) × (known ≡ true)
no_cause true true true true e = (refl, refl, refl, refl)
no_cause true true true false e = cc
no_cause true true false known e = cc
no_cause true false low known e = cc
no_cause false nests low known e = cc

pub fitting : (stands nests low known : Bool) → stands ≡ true → nests ≡ true → low ≡ true → known ≡ true → cause_by stands nests low known ≡ None
fitting true true true true e f g h = refl
fitting true true true false e f g h = cc
fitting true true false known e f g h = cc
fitting true false low known e f g h = cc
fitting false nests low known e f g h = cc

placed-none : (found : Option Cause) (form other : Spelled) → placed found form ≡ Ok (Some other) → (found ≡ None) × (form ≡ other)
placed-none None form other e = (refl, cc)
placed-none (Some cause) form other e = cc

form-uncaused : (before : List Role) (found : Option Spelled) (form : Spelled) → form_behind_lines before found ≡ Ok (Some form) → cause_behind before form
    ≡ None
form-uncaused before None form e = cc
form-uncaused before (Some other) form e =
    let p : (cause_behind before other ≡ None) × (other ≡ form) = placed-none (cause_behind before other) other form e in
    subst (λ f. cause_behind before f ≡ None) p.1 p.0

lexemes-uncaused : (before : List Role) (lexemes : List Lexeme) (form : Spelled) → lexemes_behind before lexemes ≡ Ok (Some form) → cause_behind before form
    ≡ None
lexemes-uncaused before [] form e = cc
lexemes-uncaused before (lexeme ∷ lexemes) form e = form-uncaused before (form_of (lexeme ∷ lexemes)) form e

tokens-uncaused : (before : List Role) (tokens : Result (List Token) TokenFault) (form : Spelled) → tokens_behind before tokens ≡ Ok (Some form)
    → cause_behind before form ≡ None
tokens-uncaused before (Ok tokens) form e = lexemes-uncaused before (lexemes_of tokens) form e
tokens-uncaused before (Err fault) form e = cc

line-uncaused : (before : List Role) (line : List ℕ) (form : Spelled) → line_behind before line ≡ Ok (Some form) → cause_behind before form ≡ None
line-uncaused before line form e = tokens-uncaused before (tokens_of line) form e

not-first : (role : Role) (roles : List Role) → nat_eq (length (role ∷ roles)) 0 ≡ false
not-first role roles = ne_eqb (length (role ∷ roles)) 0 (omega arith)

fits-behind : (role : Role) (roles : List Role) (form : Spelled) → cause_behind (role ∷ roles) form ≡ None → Fits (open_blocks (role ∷ roles)) form
fits-behind role roles form e =
    let blocks : List OpenBlock = open_blocks (role ∷ roles) in
    let all = no_cause (may_stand (nat_eq (length (role ∷ roles)) 0) blocks form) (fits blocks (role_of form))
    (nat_le (height_of_form form) most_height) (is_profile form) e in
    record {
      stands = subst (λ first. may_stand first blocks form ≡ true) (not-first role roles) all.0;
      nests = all.1;
      low = all.2;
      known = all.3;
    }

-- ---- the forms of lines
abbrev Forms : Type 0
Forms = List (Numbered Spelled)

abbrev numbered : ℕ → Spelled → Numbered Spelled
numbered line form = record { line = line; form = form }

abbrev pub stepped : ℕ → List Role → List (List ℕ) → Result (Option Spelled) Cause → Result Forms Fault
stepped number before lines found =
    elim found [
      | Err cause ↦ fault_at number cause
      | Ok form ↦ elim form [
        | None ↦ forms_from (number + 1) before lines
        | Some form ↦ form_before number form (forms_from (number + 1) (role_of form ∷ before) lines)
      ]
    ]

pub forms-step : (number : ℕ) (before : List Role) (line : List ℕ) (lines : List (List ℕ)) → forms_from number before (line ∷ lines)
    ≡ stepped number before lines (line_behind before line)
unfolding forms_from
forms-step number before line lines = refl

pub forms-end : (number : ℕ) (before : List Role) → forms_from number before [] ≡ ended number (open_blocks before)
unfolding forms_from
forms-end number before = refl

form-before : (number : ℕ) (form : Spelled) (others : Result Forms Fault) (forms : Forms) → form_before number form others ≡ Ok forms
    → (rest : Forms) × (others ≡ Ok rest) × (forms ≡ numbered number form ∷ rest)
form-before number form (Ok rest) forms e = (rest, refl, cc)
form-before number form (Err fault) forms e = cc

ended-accepted : (number : ℕ) (blocks : List OpenBlock) (forms : Forms) → ended number blocks ≡ Ok forms → (blocks ≡ []) × (forms ≡ [])
ended-accepted number [] forms e = (refl, cc)
ended-accepted number (block ∷ blocks) forms e = cc

accepted : (lines : List (List ℕ)) (number : ℕ) (role : Role) (roles : List Role) (forms : Forms) → forms_from number (role ∷ roles) lines ≡ Ok forms
    → Accepted (open_blocks (role ∷ roles)) forms
accepted [] number role roles forms e =
    let p : (open_blocks (role ∷ roles) ≡ []) × (forms ≡ []) =
    ended-accepted number (open_blocks (role ∷ roles)) forms (sym (forms-end number (role ∷ roles)) ∙ e) in
    subst (Accepted (open_blocks (role ∷ roles))) (sym p.1) p.0
accepted (line ∷ lines) number role roles forms e =
    go (line_behind (role ∷ roles) line) refl (sym (forms-step number (role ∷ roles) line lines) ∙ e) (accepted lines (number + 1) role roles forms)
    (λ form rest. accepted lines (number + 1) (role_of form) (role ∷ roles) rest)
  where
    go : (found : Result (Option Spelled) Cause) → line_behind (role ∷ roles) line ≡ found → stepped number (role ∷ roles) lines found ≡ Ok forms
        → (forms_from (number + 1) (role ∷ roles) lines ≡ Ok forms → Accepted (open_blocks (role ∷ roles)) forms)
        → ((form : Spelled) (rest : Forms) → forms_from (number + 1) (role_of form ∷ role ∷ roles) lines ≡ Ok rest
        → Accepted (open_blocks (role_of form ∷ role ∷ roles)) rest) → Accepted (open_blocks (role ∷ roles)) forms
    go (Err cause) f g empty more = cc
    go (Ok None) f g empty more = empty g
    go (Ok (Some form)) f g empty more =
        let p = form-before number form (forms_from (number + 1) (role_of form ∷ role ∷ roles) lines) forms g in
        let read : Read form = record { before = role ∷ roles; line = line; taken = f } in
        subst (Accepted (open_blocks (role ∷ roles))) (sym p.2) (
          fits-behind role roles form (line-uncaused (role ∷ roles) line form f),
          read,
          more form p.0 p.1,
        )

-- ---- the forms of a whole text
-- what stands behind the line of the profile, if there is one
pub record Whole (forms : Forms) : Type 0 where
  pub others : Forms
  pub accepted : Accepted [] others
  pub profile : is_profile (Profile (profile_in (parts_of forms).front)) ≡ true
  pub coroutines : (parts_of forms).coroutines ≡ (parts_of others).coroutines

first-form : (number : ℕ) (form : Spelled) (rest : Forms) → Read form → cause_behind [] form ≡ None → Accepted (open_blocks (role_of form ∷ [])) rest
    → Whole (numbered number form ∷ rest)
first-form number (Profile profile) rest read e a =
    let all = no_cause true true true (is_profile (Profile profile)) e in
    record {
      others = rest;
      accepted = a;
      profile = all.3;
      coroutines = refl;
    }
first-form number (Def name parameters) rest read e a =
    record {
      others = numbered number (Def name parameters) ∷ rest;
      accepted = (record { stands = refl; nests = refl; low = refl; known = refl }, read, a);
      profile = refl;
      coroutines = refl;
    }
first-form number form rest read e a = cc

nothing-whole : (forms : Forms) → forms ≡ [] → Whole forms
nothing-whole forms e =
    subst Whole (sym e) (record { others = []; accepted = refl; profile = refl; coroutines = refl })

pub whole : (lines : List (List ℕ)) (number : ℕ) (forms : Forms) → forms_from number [] lines ≡ Ok forms → Whole forms
whole [] number forms e =
    nothing-whole forms (ended-accepted number [] forms (sym (forms-end number []) ∙ e)).1
whole (line ∷ lines) number forms e =
    go (line_behind [] line) refl (sym (forms-step number [] line lines) ∙ e) (whole lines (number + 1) forms)
  where
    go : (found : Result (Option Spelled) Cause) → line_behind [] line ≡ found → stepped number [] lines found ≡ Ok forms
        → (forms_from (number + 1) [] lines ≡ Ok forms → Whole forms) → Whole forms
    go (Err cause) f g empty = cc
    go (Ok None) f g empty = empty g
    go (Ok (Some form)) f g empty =
        let p = form-before number form (forms_from (number + 1) (role_of form ∷ []) lines) forms g in
        let read : Read form = record { before = []; line = line; taken = f } in
        subst Whole (sym p.2) (first-form number form p.0 read (line-uncaused [] line form f) (accepted lines (number + 1) (role_of form) [] p.0 p.1))
