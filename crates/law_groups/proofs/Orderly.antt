-- The flags of groups rise in order, also where a task is made in one or one is told of a child.
use Rattle.std.proofs.Common.{◌≡◌, ℕ, Bool, None, Option, Some, [], ap, false, inl, inr, length, refl, subst, sym, true, ◌++◌, ◌<◌, ◌||◌, ◌∙◌, ◌∷◌, ◌≤◌, ◌⊎◌}
use Rattle.model_loop.proofs.GroupCases.{abort_and_request_unless, create_unless}
use Rattle.model_loop.specs.Groups.{NotEntered, Refusal, abort, blame, body_failure, child_done, create, failure_of, group_of, new_group, refusal, set_group}
use Rattle.model_loop.specs.Groups.{wake_exit, with_child, without_child}
use Rattle.model_loop.specs.Children.{IsOrderly}
use Rattle.model_value.specs.Value.{Exc}
use Rattle.model_loop.specs.Loop.{Group, Loop, in_parts}
use Rattle.law_groups.proofs.Exits.{AllOrderly, orderly_set}
use Rattle.std.proofs.lemmas.Bool.{cases_lt, false≢true}
use Rattle.std.proofs.lemmas.Option.{none-some}
use Rattle.std.proofs.lemmas.List.{get_or_past}
use Rattle.std.proofs.Math.ListN.{length-set}

-- the flags that order them are the same
like_orderly : (it new : Group) → new.exiting ≡ it.exiting → new.entered ≡ it.entered → new.kept ≡ it.kept → new.body ≡ it.body
    → (new.aborting ≡ false → it.aborting ≡ false) → new.ended ≡ it.ended → new.exit_future ≡ it.exit_future → IsOrderly it → IsOrderly new
like_orderly it new x e k b a d f is = record {
  exiting_entered = λ h. e ∙ is.exiting_entered (sym x ∙ h);
  kept_clean = λ fault h. ap body_failure b ∙ is.kept_clean fault (sym k ∙ h);
  body_aborts = λ h. b ∙ is.body_aborts (a h);
  body_exiting = λ h. b ∙ is.body_exiting (sym x ∙ h);
  kept_exiting = λ h. k ∙ is.kept_exiting (sym x ∙ h);
  waits_exiting = λ h. f ∙ is.waits_exiting (sym x ∙ h);
  waits_open = λ h. f ∙ is.waits_open (sym d ∙ h);
}

set_orderly : (id : ℕ) (new : Group) (l : Loop) → id < length l.groups → new.exiting ≡ (group_of l id).exiting
    → new.entered ≡ (group_of l id).entered → new.kept ≡ (group_of l id).kept → new.body ≡ (group_of l id).body
    → (new.aborting ≡ false → (group_of l id).aborting ≡ false) → new.ended ≡ (group_of l id).ended
    → new.exit_future ≡ (group_of l id).exit_future → AllOrderly l → AllOrderly (set_group id new l)
set_orderly id new l within x e k b a d f all = orderly_set id new l within (like_orderly (group_of l id) new x e k b a d f (all id)) all

pub create_orderly : (id : ℕ) (l : Loop) → AllOrderly l → AllOrderly (create id l)
create_orderly id l all = at (refusal (group_of l id)) refl
  where
    there : refusal (group_of l id) ≡ None → id < length l.groups
    there e = go (cases_lt id (length l.groups))
      where
        go : (id < length l.groups) ⊎ (length l.groups ≤ id) → id < length l.groups
        go (inl x) = x
        go (inr past) = absurd (none-some NotEntered (sym (sym (ap refusal (get_or_past l.groups id (new_group 0) past)) ∙ e)))

    at : (o : Option Refusal) → refusal (group_of l id) ≡ o → AllOrderly (create_unless o id l)
    at (Some why) e = all
    at None e = set_orderly id _ (in_parts (with_child id) l) (there e) refl refl refl refl (λ h. h) refl refl all

abort_orderly : (id : ℕ) (l : Loop) → id < length l.groups → AllOrderly l → AllOrderly (abort id l)
abort_orderly id l within all =
    set_orderly id (record (group_of l id) { aborting = true }) l within refl refl refl refl (λ h. absurd (false≢true (sym h))) refl refl all

blame_orderly : (fault : Option Exc) (id : ℕ) (l : Loop) → id < length l.groups → AllOrderly l → AllOrderly (blame fault id l)
blame_orderly None id l within all = all
blame_orderly (Some fault) id l within all = at ((group_of l id).aborting || (group_of l id).requested)
  where
    noted : AllOrderly (set_group id (record (group_of l id) { errors = (group_of l id).errors ++ fault ∷ [] }) l)
    noted = set_orderly id _ l within refl refl refl refl (λ h. h) refl refl all

    at : (b : Bool) → AllOrderly (abort_and_request_unless b id (set_group id (record (group_of l id) { errors = (group_of l id).errors ++ fault ∷ [] }) l))
    at true = noted
    at false =
        let l1 = set_group id (record (group_of l id) { errors = (group_of l id).errors ++ fault ∷ [] }) l in
        let w1 : id < length l1.groups = subst (λ (n : ℕ). id < n) (sym (length-set l.groups id _)) within in
        let w2 : id < length (abort id l1).groups = subst (λ (n : ℕ). id < n) (sym (length-set l1.groups id _)) w1 in
        set_orderly id (record (group_of (abort id l1) id) { requested = true }) (abort id l1) w2 refl refl refl refl (λ h. h) refl refl
        (abort_orderly id l1 w1 noted)

pub child_done_orderly : (id task : ℕ) (l : Loop) → id < length l.groups → AllOrderly l → AllOrderly (child_done id task l)
child_done_orderly id task l within all =
    blame_orderly (failure_of l.parts task) id (wake_exit id (without_child id task l))
    (subst (λ (n : ℕ). id < n) (sym (length-set l.groups id _)) within)
    (set_orderly id _ l within refl refl refl refl (λ h. h) refl refl all)
