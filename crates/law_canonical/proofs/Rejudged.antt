-- The second pass over the canonical lines of coroutines that have their meanings.
use Rattle.std.proofs.Common.{◌≡◌, ℕ, Bool, true, false, List, [], ◌∷◌, ◌++◌, Ok, map, flat_map, length, find, refl, ap, ap₂, ◌∙◌}
use Rattle.std.specs.Prelude.{if◌then◌else◌}
use Rattle.std.specs.Str.{bytes_eq}
use Rattle.std.specs.List.{AllZip}
use Rattle.model_tree.specs.Syntax.{Name, Coroutine}
use Rattle.model_text.specs.declared.cause.Cause.TheVariants as cause
use Rattle.model_text.specs.Forms.{Spelled}
use Rattle.model_text.specs.FirstPass.{fault_at, Numbered}
use Rattle.model_text.specs.Naming.{Callee, Scope, Meant}
use Rattle.model_text.specs.SecondPass.{Line, Part, bound_by, variables_in, callee, line_meant, head_meant, Judged, judged_at, in_turn, lines_judged}
use Rattle.model_text.specs.SecondPass.{named_part, part_judged, parts_judged, main_text, is_main, main_judged, second_pass}
use Rattle.model_text.specs.Bodies.{body_in}
use Rattle.model_text.specs.Scripts.{coroutine}
use Rattle.law_canonical.proofs.Judged.{turned, scope_of, LinesMean, PartMeans, PartsMean, Meaning}
use Rattle.law_canonical.proofs.Reparted.{Spelling, PartSpelled}

-- ---- the lines of a coroutine
lines-again : (scope : Scope) (lines again : List (Numbered Spelled)) (meant : List Line) → LinesMean scope lines meant → Spelling again meant
    → lines_judged scope again ≡ Ok meant
lines-again scope [] [] [] m s = refl
lines-again scope [] (form ∷ again) [] m s = absurd s
lines-again scope [] again (meaning ∷ meant) m s = absurd m
lines-again scope (line ∷ lines) again [] m s = absurd m
lines-again scope (line ∷ lines) [] (meaning ∷ meant) m s = absurd s
lines-again scope (line ∷ lines) (form ∷ again) (meaning ∷ meant) m s =
    turned (λ (first : Line) (others : List Line). first ∷ others) (judged_at form.line (line_meant scope form.form)) (lines_judged scope again) meaning meant
    (ap (λ f. judged_at form.line (line_meant scope f)) (s.0 ∙ m.0.same) ∙ ap (judged_at form.line) m.0.means) (lines-again scope lines again meant m.1 s.1)

bound-again : (scope : Scope) (lines again : List (Numbered Spelled)) (meant : List Line) → LinesMean scope lines meant → Spelling again meant
    → flat_map (λ line. bound_by line.form) again ≡ flat_map (λ line. bound_by line.form) lines
bound-again scope [] [] [] m s = refl
bound-again scope [] (form ∷ again) [] m s = absurd s
bound-again scope [] again (meaning ∷ meant) m s = absurd m
bound-again scope (line ∷ lines) again [] m s = absurd m
bound-again scope (line ∷ lines) [] (meaning ∷ meant) m s = absurd s
bound-again scope (line ∷ lines) (form ∷ again) (meaning ∷ meant) m s =
    ap₂ (λ (x y : List Name). x ++ y) (ap bound_by (s.0 ∙ m.0.same)) (bound-again scope lines again meant m.1 s.1)

-- ---- a coroutine
abbrev headed : List Name → Name → List Name → Meant Name
headed earlier name parameters =
    head_meant earlier (record { line = 0; name = name; parameters = parameters; lines = [] })

module _ (callees : List Callee) (earlier : List Name) (part again : Part (Numbered Spelled)) (meant : Part Line) (m : PartMeans callees earlier part meant)
    (s : PartSpelled again meant) where
  same-name : again.name ≡ part.name
  same-name = s.name ∙ m.name

  same-parameters : again.parameters ≡ part.parameters
  same-parameters = s.parameters ∙ m.parameters

  same-callee : callee again ≡ callee part
  same-callee =
      ap₂ (λ (name : Name) (parameters : List Name). let c : Callee = record { name = name; parameters = length parameters } in c) same-name same-parameters

  same-variables : variables_in again ≡ variables_in part
  same-variables =
      ap₂ (λ (x y : List Name). x ++ y) same-parameters (bound-again (scope_of callees part) part.lines again.lines meant.lines m.lines s.lines)

  same-scope : scope_of callees again ≡ scope_of callees part
  same-scope = ap (λ (variables : List Name). let s : Scope = record { callees = callees; variables = variables } in s) same-variables

  part-again : part_judged callees earlier again ≡ Ok (named_part again meant.lines)
  part-again =
      turned (λ (name : Name) (lines : List Line). named_part again lines) (judged_at again.line (head_meant earlier again))
      (lines_judged (scope_of callees again) again.lines) m.found meant.lines
      (ap (judged_at again.line) (ap₂ (headed earlier) same-name same-parameters ∙ m.head))
      (ap (λ scope. lines_judged scope again.lines) same-scope
      ∙ lines-again (scope_of callees part) part.lines again.lines meant.lines m.lines s.lines)

  same-coroutine : coroutine (named_part again meant.lines) ≡ coroutine meant
  same-coroutine =
      ap₂ (λ (name : Name)
      (parameters : List Name). let c : Coroutine = record { name = name; parameters = parameters; body = body_in meant.lines } in c) s.name s.parameters

-- ---- all coroutines
record PartsAgain (callees : List Callee) (earlier : List Name) (again : List (Part (Numbered Spelled))) (meant : List (Part Line)) : Type 0 where
  remade : List (Part Line)
  judged : parts_judged callees earlier again ≡ Ok remade
  same : map coroutine remade ≡ map coroutine meant

parts-again : (callees : List Callee) (earlier : List Name) (parts again : List (Part (Numbered Spelled))) (meant : List (Part Line))
    → PartsMean callees earlier parts meant → AllZip PartSpelled again meant → PartsAgain callees earlier again meant
parts-again callees earlier [] [] [] m s = record { remade = []; judged = refl; same = refl }
parts-again callees earlier [] (other ∷ again) [] m s = absurd s
parts-again callees earlier [] again (meaning ∷ meant) m s = absurd m
parts-again callees earlier (part ∷ parts) again [] m s = absurd m
parts-again callees earlier (part ∷ parts) [] (meaning ∷ meant) m s = absurd s
parts-again callees earlier (part ∷ parts) (other ∷ again) (meaning ∷ meant) m s =
    let r : PartsAgain callees (part.name ∷ earlier) again meant = parts-again callees (part.name ∷ earlier) parts again meant m.1 s.1 in
    let made : Part Line = named_part other meaning.lines in
    record {
      remade = made ∷ r.remade;
      judged = turned (λ (first : Part Line) (others : List (Part Line)). first ∷ others) (part_judged callees earlier other)
          (parts_judged callees (other.name ∷ earlier) again) made r.remade (part-again callees earlier part other meaning m.0 s.0)
          (ap (λ name. parts_judged callees (name ∷ earlier) again) (same-name callees earlier part other meaning m.0 s.0) ∙ r.judged);
      same = ap₂ (λ (x : Coroutine) (xs : List Coroutine). x ∷ xs) (same-coroutine callees earlier part other meaning m.0 s.0) r.same;
    }

callees-again : (callees : List Callee) (earlier : List Name) (parts again : List (Part (Numbered Spelled))) (meant : List (Part Line))
    → PartsMean callees earlier parts meant → AllZip PartSpelled again meant → map callee again ≡ map callee parts
callees-again callees earlier [] [] [] m s = refl
callees-again callees earlier [] (other ∷ again) [] m s = absurd s
callees-again callees earlier [] again (meaning ∷ meant) m s = absurd m
callees-again callees earlier (part ∷ parts) again [] m s = absurd m
callees-again callees earlier (part ∷ parts) [] (meaning ∷ meant) m s = absurd s
callees-again callees earlier (part ∷ parts) (other ∷ again) (meaning ∷ meant) m s =
    ap₂ (λ (x : Callee) (xs : List Callee). x ∷ xs) (same-callee callees earlier part other meaning m.0 s.0)
    (callees-again callees (part.name ∷ earlier) parts again meant m.1 s.1)

-- ---- `main`
abbrev main_if : Bool → ℕ → Judged Bool
main_if test line = if test then Ok true else fault_at line cause.NoMain

main-again : (test : Bool) (line other : ℕ) (truth : Bool) → main_if test line ≡ Ok truth → main_if test other ≡ Ok true
main-again true line other truth e = refl
main-again false line other truth e = cc

main-judged : (line other : ℕ) (callees : List Callee) (truth : Bool) → main_judged line callees ≡ Ok truth → main_judged other callees ≡ Ok true
main-judged line other callees truth e =
    main-again (is_main (find (λ callee. bytes_eq callee.name main_text) callees)) line other truth e

pub record Again (line : ℕ) (again : List (Part (Numbered Spelled))) (meant : List (Part Line)) : Type 0 where
  pub remade : List (Part Line)
  pub judged : second_pass line again ≡ Ok remade
  pub same : map coroutine remade ≡ map coroutine meant

pub judged-again : (line : ℕ) (parts again : List (Part (Numbered Spelled))) (meant : List (Part Line)) → Meaning parts meant → AllZip PartSpelled again meant
    → Again line again meant
unfolding second_pass
judged-again line parts again meant m s =
    let callees : List Callee = map callee parts in
    let same : map callee again ≡ callees = callees-again callees [] parts again meant m.each s in
    let r : PartsAgain callees [] again meant = parts-again callees [] parts again meant m.each s in
    record {
      remade = r.remade;
      judged = ap (λ (c : List Callee). in_turn (λ (judged : List (Part Line)) (main : Bool). judged) (parts_judged c [] again) (main_judged line c)) same
          ∙ turned (λ (judged : List (Part Line)) (main : Bool). judged) (parts_judged callees [] again) (main_judged line callees) r.remade true r.judged
          (main-judged m.line line callees m.truth m.main);
      same = r.same;
    }
