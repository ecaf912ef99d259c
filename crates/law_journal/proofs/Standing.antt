-- The lines of a seed's script stand where they may.
use Rattle.std.proofs.Common.{◌≡◌, ℕ, Bool, true, false, List, [], ◌∷◌, ◌++◌, flat_map, nat_le, refl, sym, subst, append-nil}
use Rattle.std.specs.Prelude.{◌&&◌, not, codes}
use Rattle.std.specs.List.{AllByRecursion}
use Rattle.std.proofs.lemmas.Bool.{and_parts}
use Rattle.model_text.specs.Forms.{Def, Spelled}
use Rattle.model_text.specs.Places.{WithBlock, OpenBlock, after, role_of, may_stand, fits, height_of_form, most_height, is_outside, is_profile}
use Rattle.model_text.specs.SecondPass.{Line}
use Rattle.law_canonical.proofs.Nested.{is_inner, Nested}
use Rattle.law_canonical.proofs.Passed.{Fits}
use Rattle.law_canonical.proofs.Parted.{in_coroutine, part_forms, AllFit, forms_in}
use Rattle.law_journal.proofs.Lines.{create_lines, opening_lines, reading_lines, closing_lines, sleeper_lines, meant, parts, numbered}

-- ---- forms that fit one after the other, by a test
abbrev does_fit : List OpenBlock → Spelled → Bool
does_fit blocks form =
    may_stand false blocks form && (fits blocks (role_of form) && (nat_le (height_of_form form) most_height && is_profile form))

abbrev do_fit : List OpenBlock → List Spelled → Bool
do_fit blocks [] = true
do_fit blocks (form ∷ forms) = does_fit blocks form && do_fit (after (role_of form) blocks) forms

abbrev blocks_after : List OpenBlock → List Spelled → List OpenBlock
blocks_after blocks [] = blocks
blocks_after blocks (form ∷ forms) = blocks_after (after (role_of form) blocks) forms

fits-by : (blocks : List OpenBlock) (form : Spelled) → does_fit blocks form ≡ true → Fits blocks form
fits-by blocks form e =
    let a = and_parts (may_stand false blocks form) _ e in
    let b = and_parts (fits blocks (role_of form)) _ a.1 in
    let c = and_parts (nat_le (height_of_form form) most_height) (is_profile form) b.1 in
    record { stands = a.0; nests = b.0; low = c.0; known = c.1 }

fit-before : (blocks : List OpenBlock) (forms others : List Spelled) → do_fit blocks forms ≡ true → AllFit (blocks_after blocks forms) others
    → AllFit blocks (forms ++ others)
fit-before blocks [] others e f = f
fit-before blocks (form ∷ forms) others e f =
    let p = and_parts (does_fit blocks form) (do_fit (after (role_of form) blocks) forms) e in
    (fits-by blocks form p.0, fit-before (after (role_of form) blocks) forms others p.1 f)

-- ---- lines that nest, by a test
abbrev does_nest : List OpenBlock → Line → Bool
does_nest blocks line = is_inner line && (not (is_outside blocks) && fits blocks (role_of line))

abbrev do_nest : List OpenBlock → List Line → Bool
do_nest blocks [] = true
do_nest blocks (line ∷ lines) = does_nest blocks line && do_nest (after (role_of line) blocks) lines

abbrev blocks_behind : List OpenBlock → List Line → List OpenBlock
blocks_behind blocks [] = blocks
blocks_behind blocks (line ∷ lines) = blocks_behind (after (role_of line) blocks) lines

not-true : (b : Bool) → not b ≡ true → b ≡ false
not-true true e = cc
not-true false e = refl

nest-before : (blocks : List OpenBlock) (lines others : List Line) → do_nest blocks lines ≡ true → Nested (blocks_behind blocks lines) others
    → Nested blocks (lines ++ others)
nest-before blocks [] others e n = n
nest-before blocks (line ∷ lines) others e n =
    let p = and_parts (does_nest blocks line) (do_nest (after (role_of line) blocks) lines) e in
    let a = and_parts (is_inner line) _ p.0 in
    let b = and_parts (not (is_outside blocks)) (fits blocks (role_of line)) a.1 in
    (a.0, not-true (is_outside blocks) b.0, b.1, nest-before (after (role_of line) blocks) lines others p.1 n)

-- ---- the lines that make tasks
abbrev in_group : List OpenBlock
in_group = record { block = WithBlock; sections = [] } ∷ in_coroutine

creates-fit : (delay : ℕ → ℕ) (tasks : List ℕ) (others : List Line) → AllFit in_group (forms_in (numbered others))
    → AllFit in_group (forms_in (numbered (create_lines delay tasks ++ others)))
creates-fit delay [] others f = f
creates-fit delay (task ∷ tasks) others f =
    (record { stands = refl; nests = refl; low = refl; known = refl }, creates-fit delay tasks others f)

creates-nest : (delay : ℕ → ℕ) (tasks : List ℕ) (others : List Line) → Nested in_group others → Nested in_group (create_lines delay tasks ++ others)
creates-nest delay [] others n = n
creates-nest delay (task ∷ tasks) others n = (refl, refl, refl, creates-nest delay tasks others n)

-- ---- the whole script
abbrev front : List Spelled
front =
    Def (codes "w") (codes "i" ∷ codes "d" ∷ [])
    ∷ (forms_in (numbered sleeper_lines) ++ (Def (codes "main") [] ∷ forms_in (numbered opening_lines)))

abbrev rest : List Line
rest = reading_lines ++ closing_lines

pub all-fit : (delay : ℕ → ℕ) (tasks : List ℕ) → AllFit [] (flat_map part_forms (parts delay tasks))
all-fit delay tasks =
    let forms : List Spelled = forms_in (numbered (create_lines delay tasks ++ rest)) in
    fit-before [] front (forms ++ []) refl
    (subst (AllFit in_group) (sym (append-nil forms)) (creates-fit delay tasks rest (fit-before in_group (forms_in (numbered rest)) [] refl refl)))

pub all-nest : (delay : ℕ → ℕ) (tasks : List ℕ) → AllByRecursion (λ part. Nested in_coroutine part.lines) (meant delay tasks)
all-nest delay tasks = (
  nest-before in_coroutine sleeper_lines [] refl refl,
  (
    nest-before in_coroutine opening_lines (create_lines delay tasks ++ rest) refl
        (creates-nest delay tasks rest (nest-before in_group rest [] refl refl)),
    tt,
  ),
)
