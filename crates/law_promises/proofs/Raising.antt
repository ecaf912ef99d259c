-- What the exit of a group raises where it ends: all that failed.
use Rattle.std.proofs.Common.{◌≡◌, ℕ, ◌<◌, ◌⊎◌, inl, inr, Bool, true, false, not, cond, ◌&&◌, ◌==◌, List, [], ◌∷◌, ◌++◌, Option, Some, None, is_some, length}
use Rattle.std.proofs.Common.{refl, sym, subst, ◌∙◌}
use Rattle.std.proofs.Math.ListN.{length-set}
use Rattle.model_value.specs.declared.input.Input.TheVariants.{Send, Throw}
use Rattle.model_value.specs.Input.{Input}
use Rattle.model_value.specs.Value.{Exc}
use Rattle.model_loop.proofs.GroupCases.{abort_where, keep_and_abort_unless, take_back_where, wait_or_end_with}
use Rattle.model_loop.specs.Groups.{GroupExit, Waits, Passes, Raises, Exited, abort, abort_if_raised, at_begin, at_end, begin_exit, body_failure, end_exit}
use Rattle.model_loop.specs.Groups.{exit_begin}
use Rattle.model_loop.specs.Groups.{exit_woken, group_of, hear, only_cancelled, raised_of, set_group, take_back, wait_or_end}
use Rattle.model_loop.specs.Ledger.{ByGroup}
use Rattle.model_loop.specs.Loop.{Group, Loop, take_one_back}
use Rattle.model_loop.specs.Sound.{IsSound}
use Rattle.model_loop.specs.Tasks.{cancelling, uncancel}
use Rattle.law_groups.proofs.Holding.{group_same}
use Rattle.law_sound.proofs.GroupSteps.{exit_begin_sound, exit_woken_step_sound}
use Rattle.law_promises.specs.Raised.{AnswersFor, RaisesAll, RaisesWhatFailed, all_failures}
use Rattle.law_promises.proofs.Relied.{errors_at_end}

-- ---- the group is there all along
module _ (id : ℕ) where
  there : (new : Group) (l : Loop) → id < length l.groups → id < length (set_group id new l).groups
  there new l within = subst (λ (n : ℕ). id < n) (sym (length-set l.groups id new)) within

  abort_there : (l : Loop) → id < length l.groups → id < length (abort id l).groups
  abort_there l within = there (record (group_of l id) { aborting = true }) l within

  taken_there : (now : Bool) (l : Loop) → id < length l.groups → id < length (take_back now id l).groups
  taken_there now l within = at (now && (group_of l id).requested)
    where
      none_left : (b : Bool)
          → id < length (cond b (set_group id (record (group_of l id) { kept = None }) (take_one_back (ByGroup id) (group_of l id).parent l))
          (take_one_back (ByGroup id) (group_of l id).parent l)).groups
      none_left true = there (record (group_of l id) { kept = None }) l within
      none_left false = within

      at : (taken : Bool) → id < length (take_back_where taken id l).groups
      at false = within
      at true = none_left (cancelling (uncancel l.profile (group_of l id).parent l.parts) (group_of l id).parent == 0)

  raised_there : (raised : Option Exc) (l : Loop) → id < length l.groups → id < length (abort_if_raised raised id l).groups
  raised_there raised l within = at (is_some raised && not (group_of l id).aborting)
    where
      at : (b : Bool) → id < length (abort_where b id l).groups
      at true = abort_there l within
      at false = within

  begun_there : (raised : Option Exc) (l : Loop) → id < length l.groups
      → id < length (abort_if_raised raised id (take_back (at_begin l.profile) id (begin_exit raised id l))).groups
  begun_there raised l within =
      raised_there raised (take_back (at_begin l.profile) id (begin_exit raised id l)) (taken_there (at_begin l.profile) (begin_exit raised id l)
      (there (record (group_of l id) { exiting = true; body = raised; kept = only_cancelled raised }) l within))

  heard_there : (input : Input) (l : Loop) → id < length l.groups → id < length (hear input id l).groups
  heard_there (Send value) l within = within
  heard_there (Throw fault) l within = at (group_of l id).aborting
    where
      at : (b : Bool) → id < length (keep_and_abort_unless b fault id l).groups
      at true = within
      at false = abort_there (set_group id (record (group_of l id) { kept = Some fault }) l) (there (record (group_of l id) { kept = Some fault }) l within)

-- ---- an exit that ends
some_failed : (x : Exc) (xs : List Exc) → x ∷ xs ≡ [] → ⊥
some_failed x xs e = absurd (cc)

-- its answer, by the errors that the group is left with
raised_by : (errors : List Exc) (group : Group) → group.ended ≡ true → AnswersFor errors group (raised_of errors)
raised_by [] group e = (e, refl)
raised_by (x ∷ xs) group e = (e, inl (some_failed x xs, refl))

abbrev EndsByErrors : ℕ → Exited → Type 0
EndsByErrors id it = AnswersFor (group_of it.loop id).errors (group_of it.loop id) it.answer

module _ (id : ℕ) (l : Loop) (within : id < length l.groups) where
  ends_all : (errors : List Exc)
      → EndsByErrors id (record { loop = set_group id (record (group_of l id) { ended = true; errors = errors }) l; answer = raised_of errors })
  ends_all errors =
      let new = record (group_of l id) { ended = true; errors = errors } in
      subst (λ (g : Group). AnswersFor g.errors g (raised_of errors)) (sym (group_same id new l within)) (raised_by errors new refl)

  ends_by : (kept : Option Exc) (errors : List Exc) → (group_of l id).kept ≡ kept → (group_of l id).errors ≡ errors
      → EndsByErrors id (end_exit kept errors id l)
  ends_by None errors k e = ends_all (errors ++ body_failure (group_of l id).body)
  ends_by (Some fault) (x ∷ xs) k e = ends_all ((x ∷ xs) ++ body_failure (group_of l id).body)
  ends_by (Some fault) [] k e =
      let new = record (group_of l id) { ended = true } in
      subst (λ (g : Group). AnswersFor g.errors g (Raises fault)) (sym (group_same id new l within)) (refl, inr (e, k))

exits_by : (id : ℕ) (l : Loop) → id < length l.groups → EndsByErrors id (wait_or_end id l)
exits_by id l within = at (group_of l id).children
  where
    at : (children : List ℕ) → EndsByErrors id (wait_or_end_with children id l)
    at [] =
        let last = take_back (at_end l.profile) id l in
        ends_by id last (taken_there id (at_end l.profile) l within) (group_of last id).kept (group_of last id).errors refl refl
    at (child ∷ children) = tt

-- the errors of a group that has ended are what failed
with_failed : (failed : List Exc) (group : Group) (answer : GroupExit) → (group.ended ≡ true → group.errors ≡ failed)
    → AnswersFor group.errors group answer → AnswersFor failed group answer
with_failed failed group (Waits on) same h = tt
with_failed failed group Passes same h = (h.0, sym (same h.0) ∙ h.1)
with_failed failed group (Raises fault) same h =
    (h.0, subst (λ (errors : List Exc). RaisesAll errors fault ⊎ ((errors ≡ []) × (group.kept ≡ Some fault))) (same h.0) h.1)

module _ (running : Option ℕ) (told : ℕ → List ℕ) (id : ℕ) where
  by_failures : (it : Exited) → IsSound running told it.loop → EndsByErrors id it → RaisesWhatFailed (told id) id it
  by_failures it sound h =
      with_failed (all_failures (told id) id it.loop) (group_of it.loop id) it.answer (errors_at_end running told it.loop sound id) h

  pub begun_raises : (raised : Option Exc) (l : Loop) → id < length l.groups → (group_of l id).entered ≡ true → (group_of l id).exiting ≡ false
      → IsSound running told l → RaisesWhatFailed (told id) id (exit_begin raised id l)
  begun_raises raised l within entered outside sound =
      by_failures (exit_begin raised id l) (exit_begin_sound running told raised id l within entered outside sound)
      (exits_by id (abort_if_raised raised id (take_back (at_begin l.profile) id (begin_exit raised id l))) (begun_there id raised l within))

  pub woken_raises : (input : Input) (l : Loop) → id < length l.groups → (group_of l id).exiting ≡ true → (group_of l id).ended ≡ false
      → IsSound running told l → RaisesWhatFailed (told id) id (exit_woken input id l)
  woken_raises input l within exiting open_ sound =
      let l1 = set_group id (record (group_of l id) { exit_future = None }) l in
      by_failures (exit_woken input id l) (exit_woken_step_sound running told input id l within exiting open_ sound)
      (exits_by id (hear input id l1) (heard_there id input l1 (there id (record (group_of l id) { exit_future = None }) l within)))
