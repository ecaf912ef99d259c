-- Exits of groups: what is owed as each begins and as it goes on, where a group takes its request back, and that all of it was
-- owed.
use Rattle.std.proofs.Common.{◌≡◌, ℕ, ◌+◌, ◌≤◌, ◌<◌, Bool, true, false, cond, not, ◌&&◌, ◌==◌, List, [], ◌∷◌, ◌++◌, Option, Some, None, is_some}
use Rattle.std.proofs.Common.{length, nat_lt, refl, sym, ap, subst, ◌∙◌, le_refl, append_assoc, length-set, arith}
use Rattle.std.proofs.lemmas.Bool.{eq-eqb, false≢true}
use Rattle.model_value.specs.Input.{Input}
use Rattle.model_value.specs.Value.{Exc}
use Rattle.model_value.specs.declared.input.Input.TheVariants.{Send, Throw}
use Rattle.model_loop.proofs.GroupCases.{abort_where, keep_and_abort_unless, take_back_where, wait_or_end_with}
use Rattle.model_loop.specs.Groups.{abort, at_begin, at_end, begin_exit, body_failure, end_all, end_exit, exit_begin, exit_woken, group_of, hear}
use Rattle.model_loop.specs.Groups.{only_cancelled, set_group, take_back, wait_for_children, wait_or_end}
use Rattle.model_loop.specs.Ledger.{Began, ByAbort, ByGroup, Took, request_each}
use Rattle.model_loop.specs.Loop.{Group, Loop, take_one_back}
use Rattle.model_loop.specs.Parts.{Parts, Plain, Profile, One, Two}
use Rattle.model_loop.specs.Tasks.{cancelling, lives, uncancel}
use Rattle.law_cancel.proofs.Effects.{length-change_task}
use Rattle.law_changes.specs.Blocks.{GroupStage, stage_of, OfGroup, OfTaking, in_taking, takes, OfEnding, in_ending, takes_last, ends}
use Rattle.law_changes.specs.Changes.{LoopChange, MakesFuture, OfParts, made_of_loop}
use Rattle.law_changes.specs.Reaches.{Reaches}
use Rattle.law_changes.proofs.BlockRows.{abort_in, heard_in, taken_in, wait_or_end_in}
use Rattle.law_changes.proofs.Folds.{fold}
use Rattle.law_groups.proofs.Holding.{group_same}
use Rattle.law_turns.proofs.Exits.{exit_begin_loop, exit_woken_loop}
use Rattle.law_promises.proofs.Asking.{take_covers}
use Rattle.law_promises.proofs.Later.{any, later_exit_begin, later_exit_woken, later_refl, later_uncancel}
use Rattle.law_promises.proofs.Loops.{easy_change}
use Rattle.law_promises.proofs.Owed.{IsEasy, covers, easy_group, easy_row, easy_then, group_owed, right_on}
use Rattle.law_promises.proofs.OwedByGroups.{abort_tasks, group_easy}
use Rattle.law_promises.specs.Owed.{IsCovered, IsRight, owed, owes_group, takes_no_more}

-- ---- no more is owed after any of it
record OwesNoMore (l q : Loop) : Type 0 where
  fewer : (task : ℕ) → owed q task ≤ owed l task

owes_next : (l m q : Loop) → OwesNoMore l m → OwesNoMore m q → OwesNoMore l q
owes_next l m q a b = record { fewer = λ task. let x = a.fewer task in let y = b.fewer task in omega (arith, x, y) }

owes_row : {May : LoopChange → Loop → Type 0} → ((change : LoopChange) (l : Loop) → May change l → OwesNoMore l (made_of_loop change l)) → {l m : Loop}
    → Reaches made_of_loop May l m → OwesNoMore l m
owes_row each row = fold OwesNoMore (λ l. record { fewer = λ task. le_refl _ }) owes_next each row

owes_nothing : (a b d : Bool) → ◌≡◌ {A = ℕ} (cond (a && (b && (false && d))) 1 0) 0
owes_nothing true true d = refl
owes_nothing true false d = refl
owes_nothing false b d = refl

owes_now : (a b x d : Bool) → a ≡ true → b ≡ true → x ≡ false → ◌≡◌ {A = ℕ} (cond (a && (b && (not x && d))) 1 0) (cond d 1 0)
owes_now true true false d e f g = refl
owes_now false b x d e f g = absurd (false≢true e)
owes_now true false x d e f g = absurd (false≢true f)
owes_now true true true d e f g = absurd (false≢true (sym g))

ended_owes : (profile : Profile) (it : Group) (errors : List Exc) (task : ℕ)
    → cond (owes_group profile task (record it { ended = true; errors = errors })) 1 0 ≤ cond (owes_group profile task it) 1 0
ended_owes One it errors task = le_refl _
ended_owes Two it errors task = let a = owes_nothing it.entered it.requested (it.parent == task) in omega (arith, a)

begun_owes : (profile : Profile) (it : Group) (raised : Option Exc) (task : ℕ)
    → cond (owes_group profile task (record it { exiting = true; body = raised; kept = only_cancelled raised })) 1 0 ≤ cond (owes_group profile task it) 1 0
begun_owes One it raised task = let a = owes_nothing it.entered it.requested (it.parent == task) in omega (arith, a)
begun_owes Two it raised task = le_refl _

going_owes : (id : ℕ) (change : LoopChange) (l : Loop) → OfGroup id change l → OwesNoMore l (made_of_loop change l)
going_owes id change l it = record { fewer = (group_easy id change l it).owes }

ending_owes : (id : ℕ) (change : LoopChange) (l : Loop) → OfEnding id change l → OwesNoMore l (made_of_loop change l)
ending_owes id change l (in_ending it) = going_owes id change l it
ending_owes id _ l (takes_last task) = record { fewer = λ other. le_refl _ }
ending_owes id _ l (ends errors) = record {
  fewer = λ other.
      let a = group_owed id (record (group_of l id) { ended = true; errors = errors }) l other in
      let b = ended_owes l.profile (group_of l id) errors other in
      omega (arith, a, b);
}

taking_owes : (id : ℕ) (change : LoopChange) (l : Loop) → OfTaking id change l → OwesNoMore l (made_of_loop change l)
taking_owes id change l (in_taking it) = going_owes id change l it
taking_owes id _ l (takes task) = record { fewer = λ other. le_refl _ }

pub woken_right : (input : Input) (id : ℕ) (l : Loop) → IsRight l → IsRight (exit_woken input id l).loop
woken_right input id l right =
    right_on l (exit_woken input id l).loop (later_exit_woken input id l)
    ((exit_woken_loop any refl false None None None id input l).parts.same refl)
    (owes_next l _ _ (owes_row (going_owes id) (heard_in id input l)) (owes_row (ending_owes id) (wait_or_end_in id _))).fewer right

-- ---- a group whose exit may end: it is open, and its parent lives where no child is left
pub record MayEnd (id : ℕ) (l : Loop) : Type 0 where
  pub within : id < length l.groups
  pub entered : (group_of l id).entered ≡ true
  pub open_ : (group_of l id).ended ≡ false
  pub living : (group_of l id).children ≡ [] → lives l.parts (group_of l id).parent ≡ true

-- how far its block is, and its children
record IsAlike (new old : Group) : Type 0 where
  parent : new.parent ≡ old.parent
  entered : new.entered ≡ old.entered
  ended : new.ended ≡ old.ended
  children : new.children ≡ old.children

alike_set : (id : ℕ) (new : Group) (l : Loop) → id < length l.groups → IsAlike new (group_of l id) → IsAlike (group_of (set_group id new l) id) (group_of l id)
alike_set id new l within a = subst (λ (it : Group). IsAlike it (group_of l id)) (sym (group_same id new l within)) a

module _ (id : ℕ) where
  may_alike : (l m : Loop) → MayEnd id l → length m.groups ≡ length l.groups → IsAlike (group_of m id) (group_of l id)
      → ((group_of l id).children ≡ [] → m.parts ≡ l.parts) → MayEnd id m
  may_alike l m may made a same = record {
    within = subst (λ (n : ℕ). id < n) (sym made) may.within;
    entered = a.entered ∙ may.entered;
    open_ = a.ended ∙ may.open_;
    living = λ none.
        let childless : (group_of l id).children ≡ [] = sym a.children ∙ none in
        ap (λ (task : ℕ). lives m.parts task) a.parent ∙ ap (λ (p : Parts). lives p (group_of l id).parent) (same childless) ∙ may.living childless;
  }

  may_set : (new : Group) (l : Loop) → IsAlike new (group_of l id) → MayEnd id l → MayEnd id (set_group id new l)
  may_set new l a may = may_alike l (set_group id new l) may (length-set l.groups id new) (alike_set id new l may.within a) (λ none. refl)

  may_abort : (l : Loop) → MayEnd id l → MayEnd id (abort id l)
  may_abort l may =
      let new = record (group_of l id) { aborting = true } in
      may_alike l (abort id l) may (length-set l.groups id new)
      (alike_set id new l may.within (record { parent = refl; entered = refl; ended = refl; children = refl }))
      (λ none. ap (λ (tasks : List ℕ). (request_each (ByAbort id) tasks l.parts).parts) none)

  -- ---- where no child is left it ends
  ended_as : (P : Loop → Type 0) (l : Loop) → ((errors : List Exc) → P (set_group id (record (group_of l id) { ended = true; errors = errors }) l))
      → (kept : Option Exc) (errors : List Exc) → P (end_exit kept errors id l).loop
  ended_as P l each (Some fault) [] = each (group_of l id).errors
  ended_as P l each (Some fault) (error ∷ errors) = each ((error ∷ errors) ++ body_failure (group_of l id).body)
  ended_as P l each None errors = each (errors ++ body_failure (group_of l id).body)

  at_last : (profile : Profile) (requested : Bool) → (at_end profile && requested) ≡ true → (profile ≡ Two) × (requested ≡ true)
  at_last Two true h = (refl, refl)
  at_last Two false h = absurd (false≢true h)
  at_last One requested h = absurd (false≢true h)

  module _ (l : Loop) (right : IsRight l) (is : IsCovered l) where
    abbrev parent : ℕ
    parent = (group_of l id).parent

    -- the request was taken back, and the group isn't changed but for what it keeps
    record IsTaken (m : Loop) : Type 0 where
      parts : m.parts ≡ uncancel l.profile (group_of l id).parent l.parts
      ledger : m.ledger ≡ l.ledger ++ Took (group_of l id).parent (ByGroup id) (nat_lt 0 (cancelling l.parts (group_of l id).parent)) ∷ []
      profile : m.profile ≡ l.profile
      owes : OwesNoMore l m
      stage : stage_of (group_of m id) ≡ stage_of (group_of l id)
      timeouts_made : length m.timeouts ≡ length l.timeouts
      groups_made : length m.groups ≡ length l.groups

    taken_last : (m : Loop) → IsTaken m → l.profile ≡ Two → (group_of l id).requested ≡ true → MayEnd id l → (group_of l id).children ≡ []
        → (errors : List Exc) → IsCovered (set_group id (record (group_of m id) { ended = true; errors = errors }) m)
    taken_last m taken two asked may none errors =
        take_covers l (set_group id new m) (ByGroup id) (group_of l id).parent [] taken.parts taken.ledger refl fewer (may.living none) taken.timeouts_made
        (length-set m.groups id new ∙ taken.groups_made) right is
      where
        new : Group
        new = record (group_of m id) { ended = true; errors = errors }

        owed_now : (other : ℕ) → ◌≡◌ {A = ℕ} (cond (owes_group m.profile other (group_of m id)) 1 0) (cond ((group_of l id).parent == other) 1 0)
        owed_now other =
            ap (λ profile. cond (owes_group profile other (group_of m id)) 1 0) (taken.profile ∙ two)
            ∙ ap (λ (it : GroupStage). cond (it.entered && (it.requested && (not it.ended && (it.parent == other)))) 1 0) taken.stage
            ∙ owes_now (group_of l id).entered (group_of l id).requested (group_of l id).ended ((group_of l id).parent == other) may.entered asked may.open_

        owed_then : (other : ℕ) → ◌≡◌ {A = ℕ} (cond (owes_group m.profile other new) 1 0) 0
        owed_then other =
            ap (λ profile. cond (owes_group profile other new) 1 0) (taken.profile ∙ two)
            ∙ owes_nothing (group_of m id).entered (group_of m id).requested ((group_of m id).parent == other)

        fewer : (other : ℕ) → owed (set_group id new m) other + cond ((group_of l id).parent == other) 1 0 ≤ owed l other
        fewer other =
            let a = group_owed id new m other in
            let b = owed_now other in
            let c = owed_then other in
            let d = taken.owes.fewer other in
            omega (arith, a, b, c, d)

    end_covers : (l.profile ≡ Two → MayEnd id l) → (group_of l id).children ≡ [] → IsCovered (end_all id l).loop
    end_covers may none = at (at_end l.profile && (group_of l id).requested) refl
      where
        taken : Loop
        taken = take_one_back (ByGroup id) (group_of l id).parent l

        as_taken : IsTaken (take_one_back (ByGroup id) (group_of l id).parent l)
        as_taken =
            record {
              parts = refl;
              ledger = refl;
              profile = refl;
              owes = record { fewer = λ task. le_refl _ };
              stage = refl;
              timeouts_made = refl;
              groups_made = refl;
            }

        unkept : l.profile ≡ Two → IsTaken (set_group id (record (group_of l id) { kept = None }) (take_one_back (ByGroup id) (group_of l id).parent l))
        unkept two = record {
          parts = refl;
          ledger = refl;
          profile = refl;
          owes = record { fewer = (easy_group id (record (group_of l id) { kept = None }) taken (λ task. le_refl _)).owes };
          stage = ap stage_of (group_same id (record (group_of l id) { kept = None }) l (may two).within);
          timeouts_made = refl;
          groups_made = length-set l.groups id (record (group_of l id) { kept = None });
        }

        ended : (m : Loop) → IsTaken m → (l.profile ≡ Two) × ((group_of l id).requested ≡ true)
            → IsCovered (end_exit (group_of m id).kept (group_of m id).errors id m).loop
        ended m it by =
            ended_as IsCovered m (taken_last m it by.0 by.1 (may by.0) none) (group_of m id).kept (group_of m id).errors

        at : (b : Bool) → (at_end l.profile && (group_of l id).requested) ≡ b
            → IsCovered (end_exit (group_of (take_back_where b id l) id).kept (group_of (take_back_where b id l) id).errors id (take_back_where b id l)).loop
        at false e =
            ended_as IsCovered l (λ errors.
            covers l _ (easy_group id (record (group_of l id) { ended = true; errors = errors }) l (ended_owes l.profile (group_of l id) errors)) right is)
            (group_of l id).kept (group_of l id).errors
        at true e =
            let by = at_last l.profile (group_of l id).requested e in
            elim (cancelling (uncancel l.profile (group_of l id).parent l.parts) (group_of l id).parent == 0) as (λ b.
            let m = cond b (set_group id (record (group_of l id) { kept = None }) (take_one_back (ByGroup id) (group_of l id).parent l))
            (take_one_back (ByGroup id) (group_of l id).parent l) in
            IsCovered (end_exit (group_of m id).kept (group_of m id).errors id m).loop) [
              | true ↦ ended _ (unkept by.0) by
              | false ↦ ended _ as_taken by
            ]

    wait_or_end_covers : (l.profile ≡ Two → MayEnd id l) → IsCovered (wait_or_end id l).loop
    wait_or_end_covers may = at (group_of l id).children refl
      where
        waits : IsEasy l (wait_for_children id l).loop
        waits =
            easy_then l _ _ (easy_change 0 (OfParts (MakesFuture Plain)) l tt)
            (easy_group id _ (made_of_loop (OfParts (MakesFuture Plain)) l) (λ task. le_refl _))

        at : (children : List ℕ) → (group_of l id).children ≡ children → IsCovered (wait_or_end_with children id l).loop
        at [] e = end_covers may e
        at (child ∷ children) e = covers l _ waits right is

  -- after an abort, if there is one
  aborted_covers : (b : Bool) (l : Loop) → IsRight l → IsCovered l → (l.profile ≡ Two → MayEnd id l) → IsCovered (wait_or_end id (abort_where b id l)).loop
  aborted_covers false l right is may = wait_or_end_covers l right is may
  aborted_covers true l right is may =
      let a = easy_row (group_easy id) (abort_in id l) in
      wait_or_end_covers (abort id l) (right_on l (abort id l) a.later (abort_tasks id l) a.owes right) (covers l (abort id l) a right is)
      (λ two. may_abort l (may two))

  -- ---- it goes on after a wait
  pub woken_covers : (input : Input) (l : Loop) → (l.profile ≡ Two → MayEnd id l) → IsRight l → IsCovered l → IsCovered (exit_woken input id l).loop
  woken_covers input l may right is = heard input
    where
      awake : Loop
      awake = set_group id (record (group_of l id) { exit_future = None }) l

      easy : IsEasy l (set_group id (record (group_of l id) { exit_future = None }) l)
      easy = easy_group id (record (group_of l id) { exit_future = None }) l (λ task. le_refl _)

      awake_right : IsRight (set_group id (record (group_of l id) { exit_future = None }) l)
      awake_right = right_on l awake easy.later refl easy.owes right

      awake_may : l.profile ≡ Two → MayEnd id (set_group id (record (group_of l id) { exit_future = None }) l)
      awake_may two =
          may_set (record (group_of l id) { exit_future = None }) l (record { parent = refl; entered = refl; ended = refl; children = refl }) (may two)

      heard : (input : Input) → IsCovered (wait_or_end id (hear input id (set_group id (record (group_of l id) { exit_future = None }) l))).loop
      heard (Send value) = wait_or_end_covers awake awake_right (covers l awake easy right is) awake_may
      heard (Throw fault) = at (group_of awake id).aborting
        where
          kept : Loop
          kept = set_group id (record (group_of awake id) { kept = Some fault }) awake

          keeping : IsEasy awake (set_group id (record (group_of awake id) { kept = Some fault }) awake)
          keeping = easy_group id (record (group_of awake id) { kept = Some fault }) awake (λ task. le_refl _)

          at : (b : Bool) → IsCovered (wait_or_end id (keep_and_abort_unless b fault id awake)).loop
          at true = wait_or_end_covers awake awake_right (covers l awake easy right is) awake_may
          at false =
              aborted_covers true kept (right_on awake kept keeping.later refl keeping.owes awake_right)
              (covers awake kept keeping awake_right (covers l awake easy right is))
              (λ two. may_set (record (group_of awake id) { kept = Some fault }) awake (record { parent = refl; entered = refl; ended = refl; children = refl })
              (awake_may two))

-- ---- it begins
module _ (raised : Option Exc) (id : ℕ) (l : Loop) where
  abbrev begun_new : Group
  begun_new = record (group_of l id) { exiting = true; body = raised; kept = only_cancelled raised }

  abbrev begun : Loop
  begun = begin_exit raised id l

  begun_easy : IsEasy l (begin_exit raised id l)
  begun_easy = record {
    later = later_refl l.parts;
    counts = λ other. le_refl _;
    owes = λ other.
        let a = group_owed id begun_new l other in
        let b = begun_owes l.profile (group_of l id) raised other in
        omega (arith, a, b);
    more = Began id ∷ [];
    ledger = refl;
    none = refl;
    timeouts_made = refl;
    groups_made = length-set l.groups id begun_new;
  }

  pub begin_right : IsRight l → IsRight (exit_begin raised id l).loop
  begin_right right =
      right_on l (exit_begin raised id l).loop (later_exit_begin raised id l)
      ((exit_begin_loop any refl false None None (Some id) id (eq-eqb id id refl) raised l).parts.same refl)
      (owes_next l begun _ (record { fewer = begun_easy.owes })
      (owes_next begun _ _ (owes_row (taking_owes id) (taken_in id (at_begin l.profile) raised begun)) (owes_row (ending_owes id) (wait_or_end_in id _)))).fewer
      right

  module _ (within : id < length l.groups) (entered : (group_of l id).entered ≡ true) (outside : takes_no_more l.profile (group_of l id) ≡ false)
      (living : lives l.parts (group_of l id).parent ≡ true) (right : IsRight l) (is : IsCovered l) where
    begun_is : group_of (begin_exit raised id l) id ≡ begun_new
    begun_is = group_same id begun_new l within

    parent_is : (group_of (begin_exit raised id l) id).parent ≡ (group_of l id).parent
    parent_is = ap (λ (it : Group). it.parent) begun_is

    at_first : (profile : Profile) (requested : Bool) → (at_begin profile && requested) ≡ true → (profile ≡ One) × (requested ≡ true)
    at_first One true h = (refl, refl)
    at_first One false h = absurd (false≢true h)
    at_first Two requested h = absurd (false≢true h)

    -- in profile 1 what it asked for is taken back now
    taken_owed : l.profile ≡ One → (group_of l id).requested ≡ true → (other : ℕ)
        → owed begun other + cond ((group_of begun id).parent == other) 1 0 ≤ owed l other
    taken_owed one asked other =
        let a = group_owed id begun_new l other in
        let b : ◌≡◌ {A = ℕ} (cond (owes_group l.profile other begun_new) 1 0) 0 =
        ap (λ profile. cond (owes_group profile other begun_new) 1 0) one
        ∙ owes_nothing (group_of l id).entered (group_of l id).requested ((group_of l id).parent == other) in
        let c = owes_now (group_of l id).entered (group_of l id).requested (takes_no_more l.profile (group_of l id)) ((group_of l id).parent == other) entered
        asked outside in
        let d : ◌≡◌ {A = ℕ} (cond ((group_of begun id).parent == other) 1 0) (cond ((group_of l id).parent == other) 1 0) =
        ap (λ k. cond (k == other) 1 0) parent_is in
        omega (arith, a, b, c, d)

    abbrev taken : Loop
    taken = take_one_back (ByGroup id) (group_of begun id).parent begun

    taken_right : IsRight (take_one_back (ByGroup id) (group_of begun id).parent begun)
    taken_right =
        right_on l taken (later_uncancel l.profile (group_of begun id).parent l.parts) (length-change_task (group_of begun id).parent _ l.parts) begun_easy.owes
        right

    taken_covers : l.profile ≡ One → (group_of l id).requested ≡ true → IsCovered (take_one_back (ByGroup id) (group_of begun id).parent begun)
    taken_covers one asked =
        take_covers l taken (ByGroup id) (group_of begun id).parent (Began id ∷ []) refl (append_assoc l.ledger (Began id ∷ []) _) refl (taken_owed one asked)
        (ap (lives l.parts) parent_is ∙ living) refl (length-set l.groups id begun_new) right is

    unkept : IsEasy (take_one_back (ByGroup id) (group_of begun id).parent begun)
        (set_group id (record (group_of begun id) { kept = None }) (take_one_back (ByGroup id) (group_of begun id).parent begun))
    unkept = easy_group id (record (group_of begun id) { kept = None }) taken (λ other. le_refl _)

    -- what follows, by whether it is
    abbrev Goes : Loop → Type 0
    Goes m = IsRight m × IsCovered m × (m.profile ≡ Two → MayEnd id m)

    one_two : One ≡ Two → ⊥
    one_two e = absurd (cc)

    goes_taken : (b : Bool) → (at_begin l.profile && (group_of l id).requested) ≡ b → Goes (take_back_where b id begun)
    goes_taken false e = (
      right_on l begun (later_refl l.parts) refl begun_easy.owes right,
      covers l begun begun_easy right is,
      λ two. record {
        within = subst (λ (n : ℕ). id < n) (sym (length-set l.groups id begun_new)) within;
        entered = ap (λ (it : Group). it.entered) begun_is ∙ entered;
        open_ = ap (λ (it : Group). it.ended) begun_is
            ∙ subst (λ profile. takes_no_more profile (group_of l id) ≡ false) two outside;
        living = λ none. ap (lives l.parts) parent_is ∙ living;
      },
    )
    goes_taken true e =
        let by = at_first l.profile (group_of l id).requested e in
        elim (cancelling (uncancel l.profile (group_of begun id).parent l.parts) (group_of begun id).parent == 0) as (λ b.
        Goes (cond b (set_group id (record (group_of begun id) { kept = None }) taken) taken)) [
          | true ↦ (
            right_on taken _ (later_refl _) refl unkept.owes taken_right,
            covers taken _ unkept taken_right (taken_covers by.0 by.1),
            λ two. absurd (one_two (sym by.0 ∙ two)),
          )
          | false ↦ (taken_right, taken_covers by.0 by.1, λ two. absurd (one_two (sym by.0 ∙ two)))
        ]

    pub begin_covers : IsCovered (exit_begin raised id l).loop
    begin_covers =
        let q = take_back (at_begin l.profile) id begun in
        let asked : (group_of begun id).requested ≡ (group_of l id).requested = ap (λ (it : Group). it.requested) begun_is in
        let goes : Goes (take_back (at_begin l.profile) id (begin_exit raised id l)) =
        goes_taken (at_begin l.profile && (group_of begun id).requested) (ap (λ b. at_begin l.profile && b) (sym asked)) in
        aborted_covers id (is_some raised && not (group_of q id).aborting) q goes.0 goes.1 goes.2
