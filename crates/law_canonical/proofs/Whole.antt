-- The canonical text of a program that some text spells, spells it.
use Rattle.std.proofs.Common.{◌≡◌, ℕ, ◌+◌, ◌≤◌, Bool, true, false, List, [], ◌∷◌, ◌++◌, Some, Ok, Err, map, flat_map, length, nat_eq, nat_le, refl, sym, ap, ap₂}
use Rattle.std.proofs.Common.{◌∙◌, subst, arith}
use Rattle.std.proofs.lemmas.Bool.{le-leb, eqb-true}
use Rattle.std.specs.List.{AllByRecursion, AllZip}
use Rattle.std.specs.Prelude.{◌||◌, if◌then◌else◌}
use Rattle.model_tree.specs.Syntax.{Name, Coroutine, Program}
use Rattle.model_text.specs.declared.cause.Cause.TheVariants as cause
use Rattle.model_text.specs.Forms.{Profile, Def, Spelled}
use Rattle.model_text.specs.Places.{role_of, is_profile}
use Rattle.model_text.specs.TextLines.{text_lines}
use Rattle.model_text.specs.FirstPass.{fault_at, Numbered, line_behind, form_before, first_pass}
use Rattle.model_text.specs.Naming.{Callee, Scope}
use Rattle.model_text.specs.SecondPass.{Line, Part, parts_of, callee, Judged, second_pass}
use Rattle.model_text.specs.Canonical.{canonical}
use Rattle.model_text.specs.Scripts.{most_bytes, profile_in, coroutine, program, judged_program, script_of_forms, script_of_lines, script_of}
use Rattle.law_lines.specs.LineTexts.{line_text, spelled}
use Rattle.law_lines.specs.WellWritten.{WellWritten}
use Rattle.law_lines.proofs.FormReads.{line-inside}
use Rattle.law_lines.proofs.Printable.{line-allowed}
use Rattle.law_canonical.proofs.Nested.{Nested}
use Rattle.law_canonical.proofs.Passed.{Whole, whole, stepped, forms-step}
use Rattle.law_canonical.proofs.Parted.{forms_in, in_coroutine, part_forms, AllFit, Coroutines, coroutines}
use Rattle.law_canonical.proofs.Judged.{scope_of, LinesMean, PartMeans, PartsMean, Meaning, second-passed}
use Rattle.law_canonical.proofs.Bodies.{lines-nested, bodies-spelled}
use Rattle.law_canonical.specs.ProgramLines.{Indented, indented, coroutines_lines}
use Rattle.law_canonical.proofs.SpelledLines.{without_blocks}
use Rattle.law_canonical.proofs.Texts.{program-texts}
use Rattle.law_canonical.proofs.CoroutineLines.{part_lines, coroutines-again}
use Rattle.law_canonical.proofs.TextLines.{Clean, line_bytes, written-lines}
use Rattle.law_canonical.proofs.Replayed.{Written, renumbered, replayed}
use Rattle.law_canonical.proofs.Reparted.{Spelling, renumbered-spelling, PartSpelled, PartsSpelled, parted-again}
use Rattle.law_canonical.proofs.Rejudged.{Again, judged-again}

-- ---- what a text that is a script is
record Script (text : List ℕ) (result : Program) : Type 0 where
  forms : List (Numbered Spelled)
  passed : first_pass (text_lines text) ≡ Ok forms
  line : ℕ
  meant : List (Part Line)
  judged : second_pass line (parts_of forms).coroutines ≡ Ok meant
  spelled : result ≡ program (profile_in (parts_of forms).front) meant

program-judged : (profile : ℕ) (found : Judged (List (Part Line))) (result : Program) → judged_program profile found ≡ Ok result
    → (meant : List (Part Line)) × (found ≡ Ok meant) × (result ≡ program profile meant)
program-judged profile (Ok meant) result e = (meant, refl, cc)
program-judged profile (Err fault) result e = cc

of-forms : (text : List ℕ) (result : Program) (line : ℕ) (found : Judged (List (Numbered Spelled))) → first_pass (text_lines text) ≡ found
    → script_of_forms line found ≡ Ok result → Script text result
of-forms text result line (Ok forms) f e =
    let p = program-judged (profile_in (parts_of forms).front) (second_pass line (parts_of forms).coroutines) result e in
    record { forms = forms; passed = f; line = line; meant = p.0; judged = p.1; spelled = p.2 }
of-forms text result line (Err fault) f e = cc

of-length : (text : List ℕ) (result : Program) (fits : Bool)
    → (let j : Judged Program = if fits then script_of_lines (text_lines text) else fault_at 1 cause.TooLong in j) ≡ Ok result → Script text result
of-length text result true e = of-forms text result (length (text_lines text) + 1) (first_pass (text_lines text)) refl e
of-length text result false e = cc

script : (text : List ℕ) (result : Program) → script_of text ≡ Ok result → Script text result
unfolding script_of
script text result e = of-length text result (nat_le (length text) most_bytes) e

-- ---- what lines make a script
spells : (text : List ℕ) (profile : ℕ) (forms : List (Numbered Spelled)) (meant : List (Part Line)) → length text ≤ most_bytes
    → first_pass (text_lines text) ≡ Ok forms → profile_in (parts_of forms).front ≡ profile
    → second_pass (length (text_lines text) + 1) (parts_of forms).coroutines ≡ Ok meant → script_of text ≡ Ok (program profile meant)
unfolding script_of
spells text profile forms meant h e f g =
    ap (λ fits. if fits then script_of_lines (text_lines text) else fault_at 1 cause.TooLong) (le-leb (length text) most_bytes h)
    ∙ (ap (script_of_forms (length (text_lines text) + 1)) e
    ∙ (ap (λ (p : ℕ). judged_program p (second_pass (length (text_lines text) + 1) (parts_of forms).coroutines)) f ∙ ap (judged_program profile) g))

-- ---- the lines of a text, and those of its canonical text
zip-append : (first : List Spelled) (others : List Spelled) (lines more : List Line) → AllZip Written first lines → AllZip Written others more
    → AllZip Written (first ++ others) (lines ++ more)
zip-append [] others [] more z w = w
zip-append [] others (line ∷ lines) more z w = absurd z
zip-append (form ∷ first) others [] more z w = absurd z
zip-append (form ∷ first) others (line ∷ lines) more z w = (z.0, zip-append first others lines more z.1 w)

lines-written : (scope : Scope) (lines : List (Numbered Spelled)) (meant : List Line) → LinesMean scope lines meant → AllZip Written (forms_in lines) meant
lines-written scope [] [] m = tt
lines-written scope [] (meaning ∷ meant) m = absurd m
lines-written scope (line ∷ lines) [] m = absurd m
lines-written scope (line ∷ lines) (meaning ∷ meant) m =
    (record { same = m.0.same; well = m.0.well }, lines-written scope lines meant m.1)

head-written : (callees : List Callee) (earlier : List Name) (part : Part (Numbered Spelled)) (meant : Part Line) → PartMeans callees earlier part meant
    → Written (Def part.name part.parameters) (Def meant.name meant.parameters)
head-written callees earlier part meant m =
    subst (Written (Def part.name part.parameters))
    (sym (ap₂ (λ (name : Name) (parameters : List Name). let line : Line = Def name parameters in line) m.name m.parameters))
    (record { same = refl; well = m.well })

parts-written : (callees : List Callee) (earlier : List Name) (parts : List (Part (Numbered Spelled))) (meant : List (Part Line))
    → PartsMean callees earlier parts meant → AllZip Written (flat_map part_forms parts) (flat_map part_lines meant)
parts-written callees earlier [] [] m = tt
parts-written callees earlier [] (meaning ∷ meant) m = absurd m
parts-written callees earlier (part ∷ parts) [] m = absurd m
parts-written callees earlier (part ∷ parts) (meaning ∷ meant) m = (
  head-written callees earlier part meaning m.0,
  zip-append (forms_in part.lines) (flat_map part_forms parts) meaning.lines (flat_map part_lines meant)
      (lines-written (scope_of callees part) part.lines meaning.lines m.0.lines) (parts-written callees (part.name ∷ earlier) parts meant m.1),
)

written-clean : (forms : List Spelled) (lines : List Indented) → AllZip Written forms (without_blocks lines)
    → AllByRecursion (λ placed. Clean (line_text placed.line)) lines
written-clean [] [] w = tt
written-clean [] (line ∷ lines) w = absurd w
written-clean (form ∷ forms) [] w = tt
written-clean (form ∷ forms) (line ∷ lines) w = (line-allowed line.line w.0.well, written-clean forms lines w.1)

no-front : (front : List (Numbered Spelled)) → Spelling front [] → front ≡ []
no-front [] e = refl
no-front (form ∷ front) e = absurd e

-- ---- the canonical text of coroutines that have their meanings
record Rewritten (profile : ℕ) (meant : List (Part Line)) : Type 0 where
  forms : List (Numbered Spelled)
  passed : first_pass (text_lines (canonical (program profile meant))) ≡ Ok forms
  named : profile_in (parts_of forms).front ≡ profile
  coroutines : AllZip PartSpelled (parts_of forms).coroutines meant

-- the line of the other profile
abbrev second_line : Line
second_line = Profile 2

second-well : WellWritten second_line
second-well = omega arith

second-taken : line_behind [] (line_bytes (indented 0 second_line)) ≡ Ok (Some (spelled second_line))
second-taken = line-inside [] 0 second_line second-well

module _ (parts : List (Part (Numbered Spelled))) (meant : List (Part Line)) (nested : AllByRecursion (λ part. Nested in_coroutine part.lines) meant)
    (fit : AllFit [] (flat_map part_forms parts)) (m : Meaning parts meant) where
  abbrev lines : List Indented
  lines = coroutines_lines (map coroutine meant)

  -- the forms of these lines, the first of which has this number
  abbrev forms_at : ℕ → List (Numbered Spelled)
  forms_at number = renumbered number (without_blocks lines)

  same : without_blocks lines ≡ flat_map part_lines meant
  same = coroutines-again meant (bodies-spelled meant nested)

  written : AllZip Written (flat_map part_forms parts) (without_blocks lines)
  written = subst (AllZip Written (flat_map part_forms parts)) (sym same) (parts-written (map callee parts) [] parts meant m.each)

  clean : AllByRecursion (λ placed. Clean (line_text placed.line)) lines
  clean = written-clean (flat_map part_forms parts) lines written

  parted : (number : ℕ) → PartsSpelled (parts_of (forms_at number)) [] meant
  parted number =
      parted-again (forms_at number) meant nested (subst (Spelling (forms_at number)) same (renumbered-spelling number (without_blocks lines)))

  rewritten-one : Rewritten 1 meant
  rewritten-one = record {
    forms = forms_at 1;
    passed = ap first_pass (ap text_lines (program-texts (program 1 meant)) ∙ written-lines lines clean)
        ∙ replayed lines (flat_map part_forms parts) 1 [] fit written;
    named = ap profile_in (no-front (parts_of (forms_at 1)).front (parted 1).front);
    coroutines = (parted 1).coroutines;
  }

  abbrev second_form : Numbered Spelled
  second_form = record { line = 1; form = spelled second_line }

  rewritten-two : Rewritten 2 meant
  rewritten-two = record {
    forms = second_form ∷ forms_at 2;
    passed = ap first_pass (ap text_lines (program-texts (program 2 meant))
        ∙ written-lines (indented 0 second_line ∷ lines) (line-allowed second_line second-well, clean))
        ∙ (forms-step 1 [] (line_bytes (indented 0 second_line)) (map line_bytes lines)
        ∙ (ap (stepped 1 [] (map line_bytes lines)) second-taken
        ∙ ap (form_before 1 (spelled second_line))
        (replayed lines (flat_map part_forms parts) 2 (role_of (spelled second_line) ∷ []) fit written)));
    named = refl;
    coroutines = (parted 2).coroutines;
  }

  rewritten : (profile : ℕ) → is_profile (Profile profile) ≡ true → Rewritten profile meant
  rewritten profile known = go (nat_eq profile 1) refl known
    where
      go : (first : Bool) → nat_eq profile 1 ≡ first → first || nat_eq profile 2 ≡ true → Rewritten profile meant
      go true e k = subst (λ p. Rewritten p meant) (sym (eqb-true profile 1 e)) rewritten-one
      go false e k = subst (λ p. Rewritten p meant) (sym (eqb-true profile 2 k)) rewritten-two

-- Coroutines whose lines nest, fit where they stand and have these meanings are read from their canonical text, in each profile.
pub spelled-again : (profile : ℕ) (parts : List (Part (Numbered Spelled))) (meant : List (Part Line)) → is_profile (Profile profile) ≡ true
    → AllByRecursion (λ part. Nested in_coroutine part.lines) meant → AllFit [] (flat_map part_forms parts) → Meaning parts meant
    → length (canonical (program profile meant)) ≤ most_bytes → script_of (canonical (program profile meant)) ≡ Ok (program profile meant)
spelled-again profile parts meant known nested fit m h =
    let r : Rewritten profile meant = rewritten parts meant nested fit m profile known in
    let last : ℕ = length (text_lines (canonical (program profile meant))) + 1 in
    let a : Again last (parts_of r.forms).coroutines meant = judged-again last parts (parts_of r.forms).coroutines meant m r.coroutines in
    spells (canonical (program profile meant)) profile r.forms a.remade h r.passed r.named a.judged
    ∙ ap (λ (all : List Coroutine). let p : Program = record { profile = profile; coroutines = all } in let j : Judged Program = Ok p in j) a.same

again : (text : List ℕ) (result : Program) → Script text result → length (canonical result) ≤ most_bytes → script_of (canonical result) ≡ Ok result
again text result s h =
    let w : Whole s.forms = whole (text_lines text) 1 s.forms s.passed in
    let parts : List (Part (Numbered Spelled)) = (parts_of w.others).coroutines in
    let c : Coroutines parts = coroutines w.others w.accepted in
    let m : Meaning parts s.meant = second-passed s.line parts s.meant c.fit (ap (second_pass s.line) (sym w.coroutines) ∙ s.judged) in
    subst (λ (p : Program). length (canonical p) ≤ most_bytes → script_of (canonical p) ≡ Ok p) (sym s.spelled)
    (spelled-again (profile_in (parts_of s.forms).front) parts s.meant w.profile
    (lines-nested (map callee parts) [] parts s.meant c.fit m.each) c.forms m) h

pub canonical-again : (text : List ℕ) (result : Program) → script_of text ≡ Ok result → length (canonical result) ≤ most_bytes → script_of (canonical result)
    ≡ Ok result
canonical-again text result e h = again text result (script text result e) h

-- programs that texts spell, with one canonical text
pub one-program : (text other : List ℕ) (first second : Program) → script_of text ≡ Ok first → script_of other ≡ Ok second → canonical first ≡ canonical second
    → length (canonical first) ≤ most_bytes → first ≡ second
one-program text other first second e f g h =
    let a : script_of (canonical first) ≡ Ok first = canonical-again text first e h in
    let b : script_of (canonical second) ≡ Ok second = canonical-again other second f (subst (λ (t : List ℕ). length t ≤ most_bytes) g h) in
    same-ok first second (sym a ∙ (ap script_of g ∙ b))
  where
    same-ok : (x y : Program) → (let j : Judged Program = Ok x in j) ≡ Ok y → x ≡ y
    same-ok x y e = cc
