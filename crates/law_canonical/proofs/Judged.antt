-- What the second pass says of the coroutines of a text.
use Rattle.std.proofs.Common.{◌≡◌, ℕ, Bool, List, [], ◌∷◌, Ok, Err, map, refl, sym, ap, ◌∙◌, subst}
use Rattle.std.specs.List.{AllByRecursion, AllZip}
use Rattle.model_tree.specs.Syntax.{Name}
use Rattle.model_text.specs.Forms.{Profile, Def, Spelled}
use Rattle.model_text.specs.Places.{OpenBlock, after, role_of, fits}
use Rattle.model_text.specs.FirstPass.{Numbered}
use Rattle.model_text.specs.Naming.{Callee, Scope, Meant}
use Rattle.model_text.specs.SecondPass.{Line, Part, variables_in, callee, line_meant, head_meant, Judged, judged_at, in_turn, lines_judged, named_part}
use Rattle.model_text.specs.SecondPass.{part_judged, parts_judged, main_judged, second_pass}
use Rattle.law_lines.specs.LineTexts.{spelled}
use Rattle.law_lines.specs.WellWritten.{WellWritten}
use Rattle.law_lines.proofs.MeantLines.{taken-back}
use Rattle.law_canonical.proofs.Nested.{is_inner, Nested}
use Rattle.law_canonical.proofs.Passed.{Read}
use Rattle.law_canonical.proofs.Parted.{forms_in, PartFits}

-- ---- one thing after another
module _ {A B C : Type 0} where
  in-turn : (f : A → B → C) (x : Judged A) (y : Judged B) (c : C) → in_turn f x y ≡ Ok c → (a : A) × (b : B) × (x ≡ Ok a) × (y ≡ Ok b) × (c ≡ f a b)
  in-turn f (Ok a) (Ok b) c e = (a, b, refl, refl, cc)
  in-turn f (Ok a) (Err fault) c e = cc
  in-turn f (Err fault) y c e = cc

  pub turned : (f : A → B → C) (x : Judged A) (y : Judged B) (a : A) (b : B) → x ≡ Ok a → y ≡ Ok b → in_turn f x y ≡ Ok (f a b)
  turned f x y a b e g = ap (λ j. in_turn f j y) e ∙ ap (in_turn f (Ok a)) g

module _ {A : Type 0} where
  judged-meant : (line : ℕ) (x : Meant A) (a : A) → judged_at line x ≡ Ok a → x ≡ Ok a
  judged-meant line (Ok b) a e = ap Ok (let same : b ≡ a = cc in same)
  judged-meant line (Err cause) a e = cc

-- ---- the lines of a coroutine
abbrev pub scope_of : List Callee → Part (Numbered Spelled) → Scope
scope_of callees part = record { callees = callees; variables = variables_in part }

-- what a line was read as, and what it means
pub record Means (scope : Scope) (form : Spelled) (line : Line) : Type 0 where
  pub means : line_meant scope form ≡ Ok line
  pub same : spelled line ≡ form
  pub well : WellWritten line

line-means : (scope : Scope) (form : Spelled) (line : Line) → Read form → line_meant scope form ≡ Ok line → Means scope form line
line-means scope form line r e =
    let b : (spelled line ≡ form) × WellWritten line = taken-back scope r.before r.line form line r.taken e in
    record { means = e; same = b.0; well = b.1 }

abbrev pub LinesMean : Scope → List (Numbered Spelled) → List Line → Type 0
LinesMean scope lines meant = AllZip (λ line meaning. Means scope line.form meaning) lines meant

lines-mean : (scope : Scope) (lines : List (Numbered Spelled)) (meant : List Line) → AllByRecursion (λ line. Read line.form) lines → lines_judged scope lines
    ≡ Ok meant → LinesMean scope lines meant
lines-mean scope [] meant r e =
    let g : [] ≡ meant = cc in
    subst (LinesMean scope []) g tt
lines-mean scope (line ∷ lines) meant r e =
    let p = in-turn (λ (first : Line) (others : List Line). first ∷ others) (judged_at line.line (line_meant scope line.form))
    (lines_judged scope lines) meant e in
    subst (LinesMean scope (line ∷ lines)) (sym p.4)
    (line-means scope line.form p.0 r.0 (judged-meant line.line (line_meant scope line.form) p.0 p.2), lines-mean scope lines p.1 r.1 p.3)

role-spelled : (line : Line) → role_of (spelled line) ≡ role_of line
role-spelled (Profile number) = refl
role-spelled line = refl

inner-spelled : (line : Line) → is_inner (spelled line) ≡ is_inner line
inner-spelled (Profile number) = refl
inner-spelled line = refl

pub nested-lines : (scope : Scope) (blocks : List OpenBlock) (lines : List (Numbered Spelled)) (meant : List Line) → LinesMean scope lines meant
    → Nested blocks (forms_in lines) → Nested blocks meant
nested-lines scope blocks [] [] m n = n
nested-lines scope blocks [] (meaning ∷ meant) m n = absurd m
nested-lines scope blocks (line ∷ lines) [] m n = absurd m
nested-lines scope blocks (line ∷ lines) (meaning ∷ meant) m n =
    let role : role_of meaning ≡ role_of line.form = sym (role-spelled meaning) ∙ ap role_of m.0.same in (
      sym (inner-spelled meaning) ∙ (ap is_inner m.0.same ∙ n.0),
      n.1,
      ap (fits blocks) role ∙ n.2,
      subst (λ r. Nested (after r blocks) meant) (sym role) (nested-lines scope (after (role_of line.form) blocks) lines meant m.1 n.3),
    )

-- ---- the coroutines
pub record PartMeans (callees : List Callee) (earlier : List Name) (part : Part (Numbered Spelled)) (meant : Part Line) : Type 0 where
  pub found : Name
  pub head : head_meant earlier part ≡ Ok found
  pub name : meant.name ≡ part.name
  pub parameters : meant.parameters ≡ part.parameters
  pub lines : LinesMean (scope_of callees part) part.lines meant.lines
  pub well : WellWritten (Def part.name part.parameters)

abbrev pub PartsMean : List Callee → List Name → List (Part (Numbered Spelled)) → List (Part Line) → Type 0
PartsMean callees earlier [] [] = Unit {0}
PartsMean callees earlier (part ∷ parts) (meaning ∷ meant) =
    PartMeans callees earlier part meaning × PartsMean callees (part.name ∷ earlier) parts meant
PartsMean callees earlier _ _ = ⊥

part-means : (callees : List Callee) (earlier : List Name) (part : Part (Numbered Spelled)) (meant : Part Line) → PartFits part
    → part_judged callees earlier part ≡ Ok meant → PartMeans callees earlier part meant
part-means callees earlier part meant f e =
    let p = in-turn (λ (name : Name) (lines : List Line). named_part part lines) (judged_at part.line (head_meant earlier part))
    (lines_judged (scope_of callees part) part.lines) meant e in
    subst (PartMeans callees earlier part) (sym p.4) (record {
      found = p.0;
      head = judged-meant part.line (head_meant earlier part) p.0 p.2;
      name = refl;
      parameters = refl;
      lines = lines-mean (scope_of callees part) part.lines p.1 f.reads p.3;
      well = (line-means (scope_of callees part) (Def part.name part.parameters) (Def part.name part.parameters) f.head refl).well;
    })

parts-mean : (callees : List Callee) (earlier : List Name) (parts : List (Part (Numbered Spelled))) (meant : List (Part Line)) → AllByRecursion PartFits parts
    → parts_judged callees earlier parts ≡ Ok meant → PartsMean callees earlier parts meant
parts-mean callees earlier [] meant f e =
    let g : [] ≡ meant = cc in
    subst (PartsMean callees earlier []) g tt
parts-mean callees earlier (part ∷ parts) meant f e =
    let p = in-turn (λ (first : Part Line) (others : List (Part Line)). first ∷ others) (part_judged callees earlier part)
    (parts_judged callees (part.name ∷ earlier) parts) meant e in
    subst (PartsMean callees earlier (part ∷ parts)) (sym p.4)
    (part-means callees earlier part p.0 f.0 p.2, parts-mean callees (part.name ∷ earlier) parts p.1 f.1 p.3)

pub record Meaning (parts : List (Part (Numbered Spelled))) (meant : List (Part Line)) : Type 0 where
  pub each : PartsMean (map callee parts) [] parts meant
  pub line : ℕ
  pub truth : Bool
  pub main : main_judged line (map callee parts) ≡ Ok truth

pub second-passed : (line : ℕ) (parts : List (Part (Numbered Spelled))) (meant : List (Part Line)) → AllByRecursion PartFits parts → second_pass line parts
    ≡ Ok meant → Meaning parts meant
unfolding second_pass
second-passed line parts meant f e =
    let callees : List Callee = map callee parts in
    let p = in-turn (λ (judged : List (Part Line)) (main : Bool). judged) (parts_judged callees [] parts) (main_judged line callees) meant e in
    record {
      each = parts-mean callees [] parts meant f (subst (λ m. parts_judged callees [] parts ≡ Ok m) (sym p.4) p.2);
      line = line;
      truth = p.1;
      main = p.3;
    }
