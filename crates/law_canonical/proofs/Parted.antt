-- The lines of each coroutine stand where they may, and the lines of all are those of the text.
use Rattle.std.proofs.Common.{◌≡◌, ℕ, Bool, true, false, List, [], ◌∷◌, ◌++◌, map, flat_map, refl, sym, ap, ◌∙◌, subst}
use Rattle.std.specs.List.{AllByRecursion}
use Rattle.std.specs.Prelude.{not, ◌&&◌}
use Rattle.model_text.specs.Forms.{Profile, Def, Return, Else, Except, Finally, End, Spelled}
use Rattle.model_text.specs.Places.{DefBlock, after, Section, OpenBlock, role_of, fits, is_outside, Begins, Closes}
use Rattle.model_text.specs.FirstPass.{Numbered}
use Rattle.model_text.specs.SecondPass.{Part, ScriptParts, before_parts, parts_of}
use Rattle.law_canonical.proofs.Nested.{is_inner, Nested}
use Rattle.law_canonical.proofs.Passed.{Fits, Read, Accepted}

abbrev pub forms_in : List (Numbered Spelled) → List Spelled
forms_in lines = map (λ line. line.form) lines

abbrev pub in_coroutine : List OpenBlock
in_coroutine = record { block = DefBlock; sections = [] } ∷ []

pub record PartFits (part : Part (Numbered Spelled)) : Type 0 where
  pub head : Read (Def part.name part.parameters)
  pub nested : Nested in_coroutine (forms_in part.lines)
  pub reads : AllByRecursion (λ line. Read line.form) part.lines

record PartsFit (blocks : List OpenBlock) (parts : ScriptParts (Numbered Spelled)) : Type 0 where
  front : Nested blocks (forms_in parts.front)
  front_reads : AllByRecursion (λ line. Read line.form) parts.front
  coroutines : AllByRecursion PartFits parts.coroutines

-- ---- a form that is no head stands in blocks
nothing-outside : (blocks : List OpenBlock) → is_outside blocks ≡ true → blocks ≡ []
nothing-outside [] e = refl
nothing-outside (block ∷ blocks) e = cc

not-outside : (outside : Bool) → not outside ≡ true → outside ≡ false
not-outside true e = cc
not-outside false e = refl

not-outside_and : (outside other : Bool) → (not outside && other) ≡ true → outside ≡ false
not-outside_and true other e = cc
not-outside_and false other e = refl

begun-inside : (section : Section) (blocks : List OpenBlock) → fits blocks (Begins section) ≡ true → is_outside blocks ≡ false
begun-inside section [] e = cc
begun-inside section (block ∷ blocks) e = refl

closed-inside : (blocks : List OpenBlock) → fits blocks Closes ≡ true → is_outside blocks ≡ false
closed-inside [] e = cc
closed-inside (block ∷ blocks) e = refl

inside : (form : Spelled) (blocks : List OpenBlock) → is_inner form ≡ true → Fits blocks form → is_outside blocks ≡ false
inside (Profile number) blocks e f = cc
inside (Def name parameters) blocks e f = cc
inside (Return value) blocks e f = not-outside_and (is_outside blocks) _ f.stands
inside Else blocks e f = begun-inside _ blocks f.nests
inside (Except kind name) blocks e f = begun-inside _ blocks f.nests
inside Finally blocks e f = begun-inside _ blocks f.nests
inside End blocks e f = closed-inside blocks f.nests
inside form blocks e f = not-outside (is_outside blocks) f.stands

-- ---- one line more
fits-before : (line : ℕ) (form : Spelled) (blocks : List OpenBlock) (parts : ScriptParts (Numbered Spelled)) → Fits blocks form → Read form
    → PartsFit (after (role_of form) blocks) parts → PartsFit blocks (before_parts form (record { line = line; form = form }) parts)
fits-before line (Profile number) blocks parts f r p = absurd (let e : false ≡ true = f.stands in cc)
fits-before line (Def name parameters) blocks parts f r p =
    let none : blocks ≡ [] = nothing-outside blocks f.stands in
    record {
      front = none;
      front_reads = tt;
      coroutines = (
        record {
          head = r;
          nested = subst (λ (others : List OpenBlock). Nested (record { block = DefBlock; sections = [] } ∷ others) (forms_in parts.front)) none p.front;
          reads = p.front_reads;
        },
        p.coroutines,
      );
    }
fits-before line form blocks parts f r p = record {
  front = (refl, inside form blocks refl f, f.nests, p.front);
  front_reads = (r, p.front_reads);
  coroutines = p.coroutines;
}

parts-fit : (lines : List (Numbered Spelled)) (blocks : List OpenBlock) → Accepted blocks lines → PartsFit blocks (parts_of lines)
parts-fit [] blocks a = record { front = a; front_reads = tt; coroutines = tt }
parts-fit (line ∷ lines) blocks a =
    fits-before line.line line.form blocks (parts_of lines) a.0 a.1 (parts-fit lines (after (role_of line.form) blocks) a.2)

-- ---- the parts are the lines
abbrev pub part_forms : Part (Numbered Spelled) → List Spelled
part_forms part = Def part.name part.parameters ∷ forms_in part.lines

abbrev joined : ScriptParts (Numbered Spelled) → List Spelled
joined parts = forms_in parts.front ++ flat_map part_forms parts.coroutines

joined-before : (line : ℕ) (form : Spelled) (parts : ScriptParts (Numbered Spelled)) → joined (before_parts form (record { line = line; form = form }) parts)
    ≡ form ∷ joined parts
joined-before line (Def name parameters) parts = refl
joined-before line form parts = refl

joined-parts : (lines : List (Numbered Spelled)) → joined (parts_of lines) ≡ forms_in lines
joined-parts [] = refl
joined-parts (line ∷ lines) =
    joined-before line.line line.form (parts_of lines) ∙ ap (λ forms. line.form ∷ forms) (joined-parts lines)

-- ---- the coroutines of a text
abbrev pub AllFit : List OpenBlock → List Spelled → Type 0
AllFit blocks [] = blocks ≡ []
AllFit blocks (form ∷ forms) = Fits blocks form × AllFit (after (role_of form) blocks) forms

all-fit : (lines : List (Numbered Spelled)) (blocks : List OpenBlock) → Accepted blocks lines → AllFit blocks (forms_in lines)
all-fit [] blocks a = a
all-fit (line ∷ lines) blocks a = (a.0, all-fit lines (after (role_of line.form) blocks) a.2)

pub record Coroutines (parts : List (Part (Numbered Spelled))) : Type 0 where
  pub fit : AllByRecursion PartFits parts
  pub forms : AllFit [] (flat_map part_forms parts)

no-front : (front : List (Numbered Spelled)) → Nested [] (forms_in front) → forms_in front ≡ []
no-front [] n = refl
no-front (line ∷ front) n = absurd (let e : true ≡ false = n.1 in cc)

pub coroutines : (lines : List (Numbered Spelled)) → Accepted [] lines → Coroutines (parts_of lines).coroutines
coroutines lines a =
    let p : PartsFit [] (parts_of lines) = parts-fit lines [] a in
    record {
      fit = p.coroutines;
      forms = subst (AllFit [])
          (sym (joined-parts lines) ∙ ap (λ front. front ++ flat_map part_forms (parts_of lines).coroutines) (no-front (parts_of lines).front p.front))
          (all-fit lines [] a);
    }
