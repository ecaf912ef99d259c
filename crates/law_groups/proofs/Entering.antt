-- A group is made, and entered: the whole stays sound.
use Rattle.std.proofs.Common.{◌≡◌, ℕ, List, Option, [], arith, inl, inr, length, refl, slice_index_or, subst, suc, sym, true, zero, ◌++◌, ◌<◌, ◌∷◌, ◌⊎◌}
use Rattle.law_groups.proofs.Holding.{Fits, fits_at, holds_each, set_holds}
use Rattle.model_loop.specs.Parts.{Parts}
use Rattle.model_loop.specs.Groups.{enter_group, group_of, make_group, new_group}
use Rattle.model_loop.specs.Children.{IsOrderly}
use Rattle.model_loop.specs.Tasks.{lives}
use Rattle.std.proofs.lemmas.List.{get_or_past}
use Rattle.std.proofs.lemmas.Option.{none-some}
use Rattle.law_groups.specs.Holds.{Holds}
use Rattle.model_loop.specs.Loop.{Group, Loop}
use Rattle.law_groups.proofs.ChildDone.{fits_again}
use Rattle.law_groups.proofs.Exits.{AllOrderly, orderly_set}
use Rattle.std.proofs.lemmas.Bool.{false≢true}

-- after a push a number names what it named, or the new one
pushed_at : {A : Type 0} (xs : List A) (x d : A) (j : ℕ) → (slice_index_or (xs ++ x ∷ []) j d ≡ slice_index_or xs j d)
    ⊎ ((j ≡ length xs) × (slice_index_or (xs ++ x ∷ []) j d ≡ x))
pushed_at [] x d zero = inr (refl, refl)
pushed_at [] x d (suc j) = inl refl
pushed_at (y ∷ ys) x d zero = inl refl
pushed_at (y ∷ ys) x d (suc j) = go (pushed_at ys x d j)
  where
    go : (slice_index_or (ys ++ x ∷ []) j d ≡ slice_index_or ys j d) ⊎ ((j ≡ length ys) × (slice_index_or (ys ++ x ∷ []) j d ≡ x))
        → (slice_index_or (ys ++ x ∷ []) j d ≡ slice_index_or ys j d)
        ⊎ ((suc j ≡ length (y ∷ ys)) × (slice_index_or (ys ++ x ∷ []) j d ≡ x))
    go (inl e) = inl e
    go (inr e) = inr (let k = e.0 in omega (arith, k), e.1)

-- a new group is as one that isn't there, but for its parent
new_fits : (parent : ℕ) (p : Parts) (id : ℕ) (told heard : List ℕ) → Fits p id told heard (new_group 0)
    → Fits p id told heard (new_group parent)
new_fits parent p id told heard f =
    fits_again p id told heard (new_group 0) (new_group parent) refl refl (λ e n. absurd (false≢true e)) f.errors (λ e. refl)
    (λ e. absurd (false≢true e)) (λ future e. absurd (none-some future e)) f

new_orderly : (parent : ℕ) → IsOrderly (new_group parent)
new_orderly parent = record {
  exiting_entered = λ e. absurd (false≢true e);
  kept_clean = λ fault e. refl;
  body_aborts = λ e. refl;
  body_exiting = λ e. refl;
  kept_exiting = λ e. refl;
  waits_exiting = λ e. refl;
  waits_open = λ e. refl;
}

-- a group of a number, before the next one is made and after that
group_made : (P : ℕ → Group → Type 0) (parent : ℕ) (l : Loop) → ((j : ℕ) → P j (group_of l j))
    → ((j : ℕ) → P j (new_group 0) → P j (new_group parent)) → (j : ℕ) → P j (group_of (make_group parent l) j)
group_made P parent l each new j = go (pushed_at l.groups (new_group parent) (new_group 0) j)
  where
    go : (group_of (make_group parent l) j ≡ group_of l j) ⊎ ((j ≡ length l.groups) × (group_of (make_group parent l) j ≡ new_group parent))
        → P j (group_of (make_group parent l) j)
    go (inl same) = subst (P j) (sym same) (each j)
    go (inr e) =
        let k = e.0 in
        subst (P j) (sym e.1) (new j (subst (P j) (get_or_past l.groups j (new_group 0) (omega (arith, k))) (each j)))

pub made_holds : (running excused : Option ℕ) (told : ℕ → List ℕ) (parent : ℕ) (l : Loop)
    → Holds running excused told told (group_of l) l.parts
    → Holds running excused told told (group_of (make_group parent l)) l.parts
made_holds running excused told parent l h =
    holds_each running excused told told (group_of (make_group parent l)) l.parts h.parts
    (group_made (λ j it. Fits l.parts j (told j) (told j) it) parent l (fits_at running excused told told (group_of l) l.parts h)
    (λ j f. new_fits parent l.parts j (told j) (told j) f))

pub made_orderly : (parent : ℕ) (l : Loop) → AllOrderly l → AllOrderly (make_group parent l)
made_orderly parent l all = group_made (λ j it. IsOrderly it) parent l all (λ j is. new_orderly parent)

-- ---- a block is entered by a task that lives
module _ (id : ℕ) (l : Loop) (within : id < length l.groups) where
  abbrev new : Group
  new = record (group_of l id) { entered = true }

  pub entered_holds : (running excused : Option ℕ) (told : ℕ → List ℕ) → lives l.parts (group_of l id).parent ≡ true
      → Holds running excused told told (group_of l) l.parts
      → Holds running excused told told (group_of (enter_group id l)) l.parts
  entered_holds running excused told living h =
      let f = fits_at running excused told told (group_of l) l.parts h id in
      set_holds running excused told told told told id new l within (λ j n. refl) (λ j n. refl)
      (fits_again l.parts id (told id) (told id) (group_of l id) new refl refl (λ e n. living) f.errors
      f.kept.none_left f.kept.ended_exiting f.exits f) h

  pub entered_orderly : AllOrderly l → AllOrderly (enter_group id l)
  entered_orderly all = orderly_set id new l within (record {
    exiting_entered = λ e. refl;
    kept_clean = (all id).kept_clean;
    body_aborts = (all id).body_aborts;
    body_exiting = (all id).body_exiting;
    kept_exiting = (all id).kept_exiting;
    waits_exiting = (all id).waits_exiting;
    waits_open = (all id).waits_open;
  }) all
