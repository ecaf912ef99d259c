-- The lines of each coroutine of a text spell its body.
use Rattle.std.proofs.Common.{◌≡◌, ℕ, Ok, List, [], ◌∷◌, map, sym, ap, ◌∙◌, subst}
use Rattle.std.specs.List.{AllByRecursion}
use Rattle.model_tree.specs.Syntax.{Name}
use Rattle.model_text.specs.Forms.{Spelled}
use Rattle.model_text.specs.FirstPass.{Numbered, first_pass}
use Rattle.model_text.specs.Naming.{Callee}
use Rattle.model_text.specs.SecondPass.{Line, Part, parts_of, callee, second_pass}
use Rattle.model_text.specs.Bodies.{body_in}
use Rattle.model_text.specs.Spells.{Spells}
use Rattle.law_canonical.proofs.BodyLemmas.{spelled-body}
use Rattle.law_canonical.specs.SpelledBodies.{SpellsBody}
use Rattle.law_canonical.proofs.Nested.{Nested, nested-spelled}
use Rattle.law_canonical.proofs.Passed.{Whole, whole}
use Rattle.law_canonical.proofs.Parted.{in_coroutine, PartFits, Coroutines, coroutines}
use Rattle.law_canonical.proofs.Judged.{PartsMean, scope_of, nested-lines, Meaning, second-passed}

-- ---- each coroutine of a text
pub lines-nested : (callees : List Callee) (earlier : List Name) (parts : List (Part (Numbered Spelled))) (meant : List (Part Line))
    → AllByRecursion PartFits parts → PartsMean callees earlier parts meant → AllByRecursion (λ part. Nested in_coroutine part.lines) meant
lines-nested callees earlier [] [] f m = tt
lines-nested callees earlier [] (meaning ∷ meant) f m = absurd m
lines-nested callees earlier (part ∷ parts) [] f m = absurd m
lines-nested callees earlier (part ∷ parts) (meaning ∷ meant) f m = (
  nested-lines (scope_of callees part) in_coroutine part.lines meaning.lines m.0.lines f.0.nested,
  lines-nested callees (part.name ∷ earlier) parts meant f.1 m.1,
)

spells-body : (lines : List Line) → Nested in_coroutine lines → SpellsBody lines
spells-body lines n =
    let s = nested-spelled lines n in
    record {
      inner = s.0;
      split = s.2;
      spelled = subst (Spells s.0) (sym (ap body_in s.2 ∙ spelled-body s.0 s.1 s.3)) s.3;
    }

pub bodies-spelled : (parts : List (Part Line)) → AllByRecursion (λ part. Nested in_coroutine part.lines) parts
    → AllByRecursion (λ part. SpellsBody part.lines) parts
bodies-spelled [] n = tt
bodies-spelled (part ∷ parts) n = (spells-body part.lines n.0, bodies-spelled parts n.1)

-- ---- any lines that both passes accept
pub accepted-spelled : (lines : List (List ℕ)) (forms : List (Numbered Spelled)) (last : ℕ) (parts : List (Part Line)) → first_pass lines ≡ Ok forms
    → second_pass last (parts_of forms).coroutines ≡ Ok parts → AllByRecursion (λ part. SpellsBody part.lines) parts
accepted-spelled lines forms last parts e g =
    let w : Whole forms = whole lines 1 forms e in
    let own : List (Part (Numbered Spelled)) = (parts_of w.others).coroutines in
    let c : Coroutines own = coroutines w.others w.accepted in
    let m : Meaning own parts = second-passed last own parts c.fit (ap (second_pass last) (sym w.coroutines) ∙ g) in
    bodies-spelled parts (lines-nested (map callee own) [] own parts c.fit m.each)
