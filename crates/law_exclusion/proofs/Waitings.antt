-- What a call of locks, events and queues makes of the list of those who wait.
use Rattle.std.proofs.Common.{◌≡◌, ℕ, ◌<◌, Bool, true, false, cond, List, [], ◌∷◌, ◌++◌, Some, None, refl, sym, ap, subst, ◌∙◌, arith}
use Rattle.std.specs.List.{AllByRecursion as Each}
use Rattle.std.specs.Map.{lookup, remove_entry, set_value}
use Rattle.std.proofs.lemmas.Bool.{eq-eqb, eqb-true, ne_eqb}
use Rattle.std.proofs.lemmas.Option.{none-some}
use Rattle.model_value.specs.Input.{Input}
use Rattle.model_loop.specs.Futures.{next_future}
use Rattle.model_loop.specs.Parts.{Parts}
use Rattle.model_machine.specs.Extra as extra
use Rattle.model_machine.specs.Extra.{ExtraAnswer, ExtraSaid, key_of}
use Rattle.model_sync.specs.Serving.{Wanted}
use Rattle.model_sync.specs.Synced.{Acquires, Awaits, Gets, Puts, Synced, Waiting, is_place, on_of}
use Rattle.law_sync.proofs.Lists.{each_append, each_removed}
use Rattle.law_locks.proofs.Served.{Resumes, Serves, clears, gets, gets_lock, gets_now, goes_by, leaves_event, leaves_get, leaves_lock, leaves_put}
use Rattle.law_locks.proofs.Served.{makes_event, makes_lock, makes_queue, puts, puts_now, releases, says_no, sees_event, sees_lock, sees_set, sees_size, sets}
use Rattle.law_locks.proofs.Served.{stays_set, takes_lock, waits_event, waits_get, waits_get_again, waits_lock, waits_put, waits_put_again}

-- By a call under the key of this place, which waits on the next future, or waits no more.
pub data ListChange (next place : ℕ) (xs : List (ℕ × Waiting)) : (asked : Bool) → ExtraAnswer → List (ℕ × Waiting) → Type 0 where
  same : {answer : ExtraAnswer} → key_of answer ≡ None → ListChange next place xs true answer xs
  last : {on key : ℕ} (it : Waiting) → on_of it ≡ next → ListChange next place xs true (extra.Waits on key) (xs ++ (place, it) ∷ [])
  over : {answer : ExtraAnswer} → key_of answer ≡ None → ListChange next place xs false answer (remove_entry (is_place place) xs)
  again : {on key : ℕ} (it : Waiting) → on_of it ≡ next
      → ListChange next place xs false (extra.Waits on key) (set_value (is_place place) xs it)

-- ---- each case
pub serves_list : (p : Parts) (kept : Synced) (wanted : Wanted) (said : ExtraSaid Synced) → Serves p kept wanted said
    → ListChange (next_future p) kept.drawn kept.waiting true said.answer said.call.state.waiting
serves_list p kept wanted said (says_no _ exception) = same refl
serves_list p kept wanted said makes_lock = same refl
serves_list p kept wanted said (takes_lock id lock found free) = same refl
serves_list p kept wanted said (waits_lock id lock found held) = last (Acquires id (next_future p)) refl
serves_list p kept wanted said (releases id lock found locked) = same refl
serves_list p kept wanted said (sees_lock id lock found) = same refl
serves_list p kept wanted said makes_event = same refl
serves_list p kept wanted said (sets id event found unset) = same refl
serves_list p kept wanted said (stays_set id event found set) = same refl
serves_list p kept wanted said (clears id event found) = same refl
serves_list p kept wanted said (sees_event id event found) = same refl
serves_list p kept wanted said (goes_by id event found set) = same refl
serves_list p kept wanted said (waits_event id event found unset) = last (Awaits id (next_future p)) refl
serves_list p kept wanted said (makes_queue most) = same refl
serves_list p kept wanted said (puts id value queue found open_) = same refl
serves_list p kept wanted said (waits_put id value queue found full) = last (Puts id value (next_future p)) refl
serves_list p kept wanted said (gets id value values queue found held) = same refl
serves_list p kept wanted said (waits_get id queue found empty) = last (Gets id (next_future p)) refl
serves_list p kept wanted said (sees_size id queue found) = same refl

pub resumes_list : (p : Parts) (kept : Synced) (key place : ℕ) (it : Waiting) (input : Input) (said : ExtraSaid Synced)
    → Resumes p kept key place it input said → ListChange (next_future p) place kept.waiting false said.answer said.call.state.waiting
resumes_list p kept key place it input said (gets_lock id on value lock found) = over refl
resumes_list p kept key place it input said (leaves_lock id on exception lock found) = over refl
resumes_list p kept key place it input said (sees_set id on value event found) = over refl
resumes_list p kept key place it input said (leaves_event id on exception event found) = over refl
resumes_list p kept key place it input said (puts_now id on value sent queue found open_) = over refl
resumes_list p kept key place it input said (waits_put_again id on value sent queue found full) = again (Puts id value (next_future p)) refl
resumes_list p kept key place it input said (leaves_put id on value exception queue found) = over refl
resumes_list p kept key place it input said (gets_now id on value sent values queue found held) = over refl
resumes_list p kept key place it input said (waits_get_again id on sent queue found empty) = again (Gets id (next_future p)) refl
resumes_list p kept key place it input said (leaves_get id on exception queue found) = over refl

-- ---- entries by their places
module _ (place : ℕ) where
  -- of another place
  other_last : (xs : List (ℕ × Waiting)) (new it : Waiting) (other : ℕ) → (other ≡ place → ⊥)
      → lookup (is_place other) (xs ++ (place, new) ∷ []) ≡ Some it → lookup (is_place other) xs ≡ Some it
  other_last [] new it other differs e =
      absurd (none-some it (ap (λ b. cond b (Some new) None) (sym (ne_eqb place other (λ same. differs (sym same)))) ∙ e))
  other_last (x ∷ xs) new it other differs e = at (is_place other x.0) (λ h. other_last xs new it other differs h) e
    where
      at : (b : Bool) → (lookup (is_place other) (xs ++ (place, new) ∷ []) ≡ Some it → lookup (is_place other) xs ≡ Some it)
          → cond b (Some x.1) (lookup (is_place other) (xs ++ (place, new) ∷ [])) ≡ Some it
          → cond b (Some x.1) (lookup (is_place other) xs) ≡ Some it
      at true next h = h
      at false next h = next h

  other_over : (xs : List (ℕ × Waiting)) (it : Waiting) (other : ℕ) → (other ≡ place → ⊥)
      → lookup (is_place other) (remove_entry (is_place place) xs) ≡ Some it → lookup (is_place other) xs ≡ Some it
  other_over [] it other differs e = e
  other_over (x ∷ xs) it other differs e = at (is_place place x.0) refl (λ h. other_over xs it other differs h) e
    where
      here : (b : Bool) → (lookup (is_place other) (remove_entry (is_place place) xs) ≡ Some it → lookup (is_place other) xs ≡ Some it)
          → cond b (Some x.1) (lookup (is_place other) (remove_entry (is_place place) xs)) ≡ Some it
          → cond b (Some x.1) (lookup (is_place other) xs) ≡ Some it
      here true next h = h
      here false next h = next h

      at : (b : Bool) → is_place place x.0 ≡ b
          → (lookup (is_place other) (remove_entry (is_place place) xs) ≡ Some it → lookup (is_place other) xs ≡ Some it)
          → lookup (is_place other) (cond b xs (x ∷ remove_entry (is_place place) xs)) ≡ Some it → lookup (is_place other) (x ∷ xs) ≡ Some it
      at true is next h =
          ap (λ b. cond b (Some x.1) (lookup (is_place other) xs)) (ne_eqb x.0 other (λ same. differs (sym same ∙ eqb-true x.0 place is))) ∙ h
      at false is next h = here (is_place other x.0) next h

  other_again : (xs : List (ℕ × Waiting)) (new it : Waiting) (other : ℕ) → (other ≡ place → ⊥)
      → lookup (is_place other) (set_value (is_place place) xs new) ≡ Some it → lookup (is_place other) xs ≡ Some it
  other_again [] new it other differs e = e
  other_again (x ∷ xs) new it other differs e = at (is_place place x.0) refl (λ h. other_again xs new it other differs h) e
    where
      here : (b : Bool) → (lookup (is_place other) (set_value (is_place place) xs new) ≡ Some it → lookup (is_place other) xs ≡ Some it)
          → cond b (Some x.1) (lookup (is_place other) (set_value (is_place place) xs new)) ≡ Some it
          → cond b (Some x.1) (lookup (is_place other) xs) ≡ Some it
      here true next h = h
      here false next h = next h

      at : (b : Bool) → is_place place x.0 ≡ b
          → (lookup (is_place other) (set_value (is_place place) xs new) ≡ Some it → lookup (is_place other) xs ≡ Some it)
          → lookup (is_place other) (cond b ((x.0, new) ∷ xs) (x ∷ set_value (is_place place) xs new)) ≡ Some it
          → lookup (is_place other) (x ∷ xs) ≡ Some it
      at true is next h =
          let none = ne_eqb x.0 other (λ same. differs (sym same ∙ eqb-true x.0 place is)) in
          ap (λ b. cond b (Some x.1) (lookup (is_place other) xs)) none
          ∙ ap (λ b. cond b (Some new) (lookup (is_place other) xs)) (sym none) ∙ h
      at false is next h = here (is_place other x.0) next h

  -- of this place
  mine_last : (xs : List (ℕ × Waiting)) (new it : Waiting) → Each (λ entry. entry.0 < place) xs
      → lookup (is_place place) (xs ++ (place, new) ∷ []) ≡ Some it → it ≡ new
  mine_last [] new it below e = found it new (sym e ∙ ap (λ b. cond b (Some new) None) (eq-eqb place place refl))
    where
      found : (it new : Waiting) → Some it ≡ Some new → it ≡ new
      found it new e = cc
  mine_last (x ∷ xs) new it below e =
      mine_last xs new it below.1
      (ap (λ b. cond b (Some x.1) (lookup (is_place place) (xs ++ (place, new) ∷ [])))
      (sym (ne_eqb x.0 place (λ same. let l = below.0 in absurd (omega (arith, l, same))))) ∙ e)

  mine_again : (xs : List (ℕ × Waiting)) (new it : Waiting) → lookup (is_place place) (set_value (is_place place) xs new) ≡ Some it → it ≡ new
  mine_again [] new it e = absurd (none-some it e)
  mine_again (x ∷ xs) new it e = at (is_place place x.0) refl (λ h. mine_again xs new it h) e
    where
      found : (it new : Waiting) → Some new ≡ Some it → it ≡ new
      found it new e = cc

      at : (b : Bool) → is_place place x.0 ≡ b → (lookup (is_place place) (set_value (is_place place) xs new) ≡ Some it → it ≡ new)
          → lookup (is_place place) (cond b ((x.0, new) ∷ xs) (x ∷ set_value (is_place place) xs new)) ≡ Some it → it ≡ new
      at true is next h = found it new (ap (λ b. cond b (Some new) (lookup (is_place place) xs)) (sym is) ∙ h)
      at false is next h =
          next (ap (λ b. cond b (Some x.1) (lookup (is_place place) (set_value (is_place place) xs new))) (sym is) ∙ h)

  -- what holds of each, but by its place
  each_again : (P : ℕ × Waiting → Type 0) (xs : List (ℕ × Waiting)) (new : Waiting) → Each P xs → P (place, new)
      → Each P (set_value (is_place place) xs new)
  each_again P [] new all it = tt
  each_again P (x ∷ xs) new all it = at (is_place place x.0) refl (each_again P xs new all.1 it)
    where
      at : (b : Bool) → is_place place x.0 ≡ b → Each P (set_value (is_place place) xs new)
          → Each P (cond b ((x.0, new) ∷ xs) (x ∷ set_value (is_place place) xs new))
      at true is rest = (subst (λ n. P (n, new)) (sym (eqb-true x.0 place is)) it, all.1)
      at false is rest = (all.0, rest)

  -- ---- of a change
  module _ (next : ℕ) (xs : List (ℕ × Waiting)) where
    pub others_stay : (ys : List (ℕ × Waiting)) (asked : Bool) (answer : ExtraAnswer) → ListChange next place xs asked answer ys
        → (other : ℕ) (it : Waiting) → (other ≡ place → ⊥) → lookup (is_place other) ys ≡ Some it → lookup (is_place other) xs ≡ Some it
    others_stay _ _ answer (same none) other it differs e = e
    others_stay _ _ _ (last new is) other it differs e = other_last xs new it other differs e
    others_stay _ _ answer (over none) other it differs e = other_over xs it other differs e
    others_stay _ _ _ (again new is) other it differs e = other_again xs new it other differs e

    pub each_now : (ys : List (ℕ × Waiting)) (asked : Bool) (answer : ExtraAnswer) (P : ℕ × Waiting → Type 0)
        → ListChange next place xs asked answer ys → ((new : Waiting) → on_of new ≡ next → P (place, new)) → Each P xs → Each P ys
    each_now _ _ answer P (same none) it all = all
    each_now _ _ _ P (last new is) it all = each_append P xs ((place, new) ∷ []) all (it new is, tt)
    each_now _ _ answer P (over none) it all = each_removed P (is_place place) xs all
    each_now _ _ _ P (again new is) it all = each_again P xs new all (it new is)

    -- who waits under the key waits on the next future
    pub waits_there : (ys : List (ℕ × Waiting)) (asked : Bool) (answer : ExtraAnswer) → ListChange next place xs asked answer ys
        → (key_of answer ≡ None → ⊥) → (asked ≡ true → Each (λ (entry : ℕ × Waiting). entry.0 < place) xs)
        → (it : Waiting) → lookup (is_place place) ys ≡ Some it → on_of it ≡ next
    waits_there _ _ answer (same none) waits below it e = absurd (waits none)
    waits_there _ _ _ (last new is) waits below it e = ap on_of (mine_last xs new it (below refl) e) ∙ is
    waits_there _ _ answer (over none) waits below it e = absurd (waits none)
    waits_there _ _ _ (again new is) waits below it e = ap on_of (mine_again xs new it e) ∙ is
