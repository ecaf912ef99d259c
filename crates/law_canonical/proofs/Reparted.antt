-- The canonical lines of coroutines are parted as these coroutines again.
use Rattle.std.proofs.Common.{◌≡◌, ℕ, ◌+◌, true, List, [], ◌∷◌, ◌++◌, flat_map, refl, sym, subst}
use Rattle.std.specs.List.{AllByRecursion, AllZip}
use Rattle.model_text.specs.Forms.{Profile, Def, Spelled}
use Rattle.model_text.specs.Places.{OpenBlock, after, role_of}
use Rattle.model_text.specs.FirstPass.{Numbered}
use Rattle.model_text.specs.SecondPass.{Line, Part, ScriptParts, before_parts, parts_of}
use Rattle.law_lines.specs.LineTexts.{spelled}
use Rattle.law_canonical.proofs.Nested.{is_inner, Nested}
use Rattle.law_canonical.proofs.Parted.{in_coroutine}
use Rattle.law_canonical.proofs.CoroutineLines.{part_lines}
use Rattle.law_canonical.proofs.Replayed.{renumbered}

-- numbered forms that the lines' canonical texts spell
abbrev pub Spelling : List (Numbered Spelled) → List Line → Type 0
Spelling forms lines = AllZip (λ form line. form.form ≡ spelled line) forms lines

pub renumbered-spelling : (number : ℕ) (lines : List Line) → Spelling (renumbered number lines) lines
renumbered-spelling number [] = tt
renumbered-spelling number (line ∷ lines) = (refl, renumbered-spelling (number + 1) lines)

abbrev Inner : List Line → Type 0
Inner lines = AllByRecursion (λ line. is_inner line ≡ true) lines

nested-inner : (blocks : List OpenBlock) (lines : List Line) → Nested blocks lines → Inner lines
nested-inner blocks [] n = tt
nested-inner blocks (line ∷ lines) n = (n.0, nested-inner (after (role_of line) blocks) lines n.3)

pub record PartSpelled (part : Part (Numbered Spelled)) (meant : Part Line) : Type 0 where
  pub name : part.name ≡ meant.name
  pub parameters : part.parameters ≡ meant.parameters
  pub lines : Spelling part.lines meant.lines

pub record PartsSpelled (parts : ScriptParts (Numbered Spelled)) (lines : List Line) (meant : List (Part Line)) : Type 0 where
  pub front : Spelling parts.front lines
  pub coroutines : AllZip PartSpelled parts.coroutines meant

-- ---- one line more
before-inner : (form : Numbered Spelled) (line : Line) (lines : List Line) (parts : ScriptParts (Numbered Spelled)) (meant : List (Part Line)) → is_inner line
    ≡ true → form.form ≡ spelled line → PartsSpelled parts lines meant → PartsSpelled (before_parts (spelled line) form parts) (line ∷ lines) meant
before-inner form (Profile number) lines parts meant e f p = cc
before-inner form (Def name parameters) lines parts meant e f p = cc
before-inner form line lines parts meant e f p = record { front = (f, p.front); coroutines = p.coroutines }

before-head : (form : Numbered Spelled) (meaning : Part Line) (parts : ScriptParts (Numbered Spelled)) (meant : List (Part Line))
    → PartsSpelled parts meaning.lines meant → PartsSpelled (before_parts (Def meaning.name meaning.parameters) form parts) [] (meaning ∷ meant)
before-head form meaning parts meant p =
    record { front = tt; coroutines = (record { name = refl; parameters = refl; lines = p.front }, p.coroutines) }

reparted : (forms : List (Numbered Spelled)) (front : List Line) (meant : List (Part Line)) → Inner front → AllByRecursion (λ part. Inner part.lines) meant
    → Spelling forms (front ++ flat_map part_lines meant) → PartsSpelled (parts_of forms) front meant
reparted [] [] [] i a s = record { front = tt; coroutines = tt }
reparted [] [] (meaning ∷ meant) i a s = absurd s
reparted [] (line ∷ front) meant i a s = absurd s
reparted (form ∷ forms) [] [] i a s = absurd s
reparted (form ∷ forms) [] (meaning ∷ meant) i a s =
    subst (λ f. PartsSpelled (before_parts f form (parts_of forms)) [] (meaning ∷ meant)) (sym s.0)
    (before-head form meaning (parts_of forms) meant (reparted forms meaning.lines meant a.0 a.1 s.1))
reparted (form ∷ forms) (line ∷ front) meant i a s =
    subst (λ f. PartsSpelled (before_parts f form (parts_of forms)) (line ∷ front) meant) (sym s.0)
    (before-inner form line front (parts_of forms) meant i.0 s.0 (reparted forms front meant i.1 a s.1))

all-inner : (meant : List (Part Line)) → AllByRecursion (λ part. Nested in_coroutine part.lines) meant → AllByRecursion (λ part. Inner part.lines) meant
all-inner [] n = tt
all-inner (meaning ∷ meant) n = (nested-inner in_coroutine meaning.lines n.0, all-inner meant n.1)

pub parted-again : (forms : List (Numbered Spelled)) (meant : List (Part Line)) → AllByRecursion (λ part. Nested in_coroutine part.lines) meant
    → Spelling forms (flat_map part_lines meant) → PartsSpelled (parts_of forms) [] meant
parted-again forms meant n s = reparted forms [] meant tt (all-inner meant n) s
