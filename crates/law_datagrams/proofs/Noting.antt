-- What notes tell, as more are noted.
use Rattle.std.proofs.Common.{◌≡◌, ℕ, Bool, true, false, List, [], ◌∷◌, ◌++◌, Option, Some, None, refl, ap, subst, ◌∙◌}
use Rattle.std.specs.Prelude.{◌||◌}
use Rattle.law_datagrams.specs.Notes.{AreBorneOut, IsBorneOut, Note, Wanted, first_of, gathered, is_any, wanted_in, wanted_of}
use Rattle.law_datagrams.proofs.Parts.{no_more}

-- ---- one more
pub gathered_last : {A : Type 0} (of : Note → List A) (notes : List Note) (note : Note) → gathered of (notes ++ note ∷ []) ≡ gathered of notes ++ of note
gathered_last of [] note = no_more (of note)
gathered_last of (other ∷ notes) note =
    ap (λ rest. of other ++ rest) (gathered_last of notes note) ∙ sym_appended (of other) (gathered of notes) (of note)
  where
    sym_appended : {A : Type 0} (xs ys zs : List A) → xs ++ (ys ++ zs) ≡ (xs ++ ys) ++ zs
    sym_appended [] ys zs = refl
    sym_appended (x ∷ xs) ys zs = ap (λ l. x ∷ l) (sym_appended xs ys zs)

or_false : (b : Bool) → (b || false) ≡ b
or_false true = refl
or_false false = refl

pub any_last : (test : Note → Bool) (notes : List Note) (note : Note) → is_any test (notes ++ note ∷ []) ≡ (is_any test notes || test note)
any_last test [] note = or_false (test note)
any_last test (other ∷ notes) note = go (any_last test notes note) (test other)
  where
    go : is_any test (notes ++ note ∷ []) ≡ (is_any test notes || test note) → (b : Bool)
        → (b || is_any test (notes ++ note ∷ [])) ≡ ((b || is_any test notes) || test note)
    go rest true = refl
    go rest false = rest

pub wanted_last : (request : ℕ) (notes : List Note) (note : Note) → wanted_of request (notes ++ note ∷ []) ≡ first_of (wanted_of request notes) (wanted_in request note)
wanted_last request [] note = go (wanted_in request note)
  where
    go : (o : Option Wanted) → first_of o None ≡ o
    go None = refl
    go (Some it) = refl
wanted_last request (other ∷ notes) note = go (wanted_last request notes note) (wanted_in request other)
  where
    go : wanted_of request (notes ++ note ∷ []) ≡ first_of (wanted_of request notes) (wanted_in request note) → (o : Option Wanted)
        → first_of o (wanted_of request (notes ++ note ∷ [])) ≡ first_of (first_of o (wanted_of request notes)) (wanted_in request note)
    go rest None = rest
    go rest (Some it) = refl

append_one : {A : Type 0} (before : List A) (x : A) (rest : List A) → before ++ x ∷ rest ≡ (before ++ x ∷ []) ++ rest
append_one [] x rest = refl
append_one (y ∷ before) x rest = ap (λ xs. y ∷ xs) (append_one before x rest)

pub borne_last : (before notes : List Note) (note : Note) → AreBorneOut before notes → IsBorneOut (before ++ notes) note
    → AreBorneOut before (notes ++ note ∷ [])
borne_last before [] note all last = (subst (λ xs. IsBorneOut xs note) (no_more before) last, tt)
borne_last before (other ∷ notes) note all last =
    (all.0, borne_last (before ++ other ∷ []) notes note all.1 (subst (λ xs. IsBorneOut xs note) (append_one before other notes) last))
