-- What groups keep goes on belonging to the parts.
use Rattle.std.proofs.Common.{◌≡◌, ℕ, ◌<◌, ◌⊎◌, List, [], ◌∷◌, ◌++◌, Some, None, length, slice_get, slice_set, ap, sym, subst, ◌∙◌, inl, inr, arith}
use Rattle.std.proofs.lemmas.Bool.{cases_eq}
use Rattle.std.specs.List.{AllByRecursion as Each}
use Rattle.law_cancel.proofs.Lookups.{get-set_same, get-set_other, get-push_other, get-push_last}
use Rattle.aio_task.specs.View.{View}
use Rattle.aio_group.specs.GoesOn.{Moves}
use Rattle.aio_group.specs.Held.{Held, new_held}
use Rattle.aio_group.specs.Stands.{IsOwn, Belongs, AllBelong}
use Rattle.aio_group.proofs.Listing.{all_to}

module _ (v w : View) (moves : Moves v w) where
  pub own_on : (future : ℕ) → IsOwn v future → IsOwn w future
  own_on future own =
      let m = own.0 in
      let n = moves.goes_on.futures in
      (omega (arith, m, n), moves.goes_on.owners future own.0 ∙ own.1)

  pub belongs_on : (held : Held) → Belongs v held → Belongs w held
  belongs_on held is =
      let n = moves.goes_on.tasks in
      record {
        children = all_to (λ task. task < length v.tasks) (λ task. task < length w.tasks) held.children
            (λ task m. omega (arith, m, n)) is.children;
        exit = λ future e. own_on future (is.exit future e);
      }

  pub all_belong_on : (groups : List Held) → AllBelong v groups → AllBelong w groups
  all_belong_on groups all id held e = belongs_on held (all id held e)

-- a group that keeps the same children and waits for the same future, or none
pub belongs_as : (v : View) (a b : Held) → b.children ≡ a.children → (b.exit_future ≡ a.exit_future) ⊎ (b.exit_future ≡ None)
    → Belongs v a → Belongs v b
belongs_as v a b c f is = record {
  children = subst (λ cs. Each (λ task. task < length v.tasks) cs) (sym c) is.children;
  exit = λ future e. at f future e;
}
  where
    at : (b.exit_future ≡ a.exit_future) ⊎ (b.exit_future ≡ None) → (future : ℕ) → b.exit_future ≡ Some future → IsOwn v future
    at (inl same) future e = is.exit future (sym same ∙ e)
    at (inr none) future e = let d : None ≡ Some future = sym none ∙ e in absurd (cc)

pub all_belong_set : (v : View) (groups : List Held) (id : ℕ) (old new : Held) → slice_get groups id ≡ Some old → AllBelong v groups
    → Belongs v new → AllBelong v (slice_set groups id new)
all_belong_set v groups id old new e all is j held d = go (cases_eq id j)
  where
    go : (id ≡ j) ⊎ (id ≡ j → ⊥) → Belongs v held
    go (inl same) =
        let at : slice_get (slice_set groups id new) j ≡ Some new =
        subst (λ i. slice_get (slice_set groups id new) i ≡ Some new) same (get-set_same groups id old new e) in
        let there : Some new ≡ Some held = sym at ∙ d in
        let is_new : new ≡ held = cc in
        subst (λ h. Belongs v h) is_new is
    go (inr n) = all j held (sym (get-set_other groups id j new n) ∙ d)

pub all_belong_push : (v : View) (groups : List Held) (parent : ℕ) → AllBelong v groups → AllBelong v (groups ++ new_held parent ∷ [])
all_belong_push v groups parent all id held e = go (cases_eq id (length groups))
  where
    fresh : Belongs v (new_held parent)
    fresh = record { children = tt; exit = λ future d. absurd (cc) }

    go : (id ≡ length groups) ⊎ (id ≡ length groups → ⊥) → Belongs v held
    go (inl last) =
        let at : slice_get (groups ++ new_held parent ∷ []) id ≡ Some (new_held parent) =
        ap (slice_get (groups ++ new_held parent ∷ [])) last ∙ get-push_last groups (new_held parent) in
        let there : Some (new_held parent) ≡ Some held = sym at ∙ e in
        let is_new : new_held parent ≡ held = cc in
        subst (λ h. Belongs v h) is_new fresh
    go (inr n) = all id held (sym (get-push_other groups (new_held parent) id n) ∙ e)
