-- Steps of groups: what each of them owes, and what it takes back.
use Rattle.std.proofs.Common.{◌≡◌, ℕ, ◌+◌, ◌≤◌, ◌<◌, Bool, true, false, cond, not, ◌&&◌, ◌||◌, ◌==◌, List, [], ◌∷◌, ◌++◌, Option, Some, None, filter}
use Rattle.std.proofs.Common.{length, refl, ap, ◌∙◌, le_refl, length-append, length-set, arith}
use Rattle.std.specs.List.{count_by}
use Rattle.std.proofs.lemmas.List.Sums.{sum_by_push}
use Rattle.model_value.specs.Value.{Nothing, Exc}
use Rattle.model_value.specs.declared.action.Action.TheVariants.{GroupDone}
use Rattle.model_value.specs.declared.outcome.Outcome.TheVariants.{Value as Returned, Cancelled}
use Rattle.model_loop.proofs.GroupCases.{abort_and_request_unless}
use Rattle.model_loop.specs.Groups.{abort, blame, child_done, create, enter_group, failure_of, group_of, make_group}
use Rattle.model_loop.specs.Groups.{new_group, next_group, request_parent, set_group, wake_exit, wake_if_last}
use Rattle.model_loop.specs.Groups.{without_child}
use Rattle.model_loop.specs.Ledger.{ByAbort, ByGroup, Origin, request_each}
use Rattle.model_loop.specs.Loop.{Group, Loop}
use Rattle.model_loop.specs.Owning.{OwnsFutures}
use Rattle.model_loop.specs.Parts.{Parts, Plain, Profile, One, Two}
use Rattle.model_loop.specs.Tasks.{next_task}
use Rattle.model_machine.specs.Replies.{most_ids}
use Rattle.law_cancel.proofs.Effects.{settle-tasks}
use Rattle.law_steps.proofs.CancelSound.{settled_owns}
use Rattle.law_steps.proofs.Looks.{change_looks_same, same_owns}
use Rattle.law_steps.proofs.Settling.{settle_cases}
use Rattle.law_changes.specs.Blocks.{OfRequest, cancels, keeps_asked, counts, sets_must_cancel}
use Rattle.law_changes.specs.Blocks.{GroupStage, stage_of, OfGroup, changes, aborts, waits, wakes, OfCreating, in_creating}
use Rattle.law_changes.specs.Blocks.{spawns, registers}
use Rattle.law_changes.specs.Changes.{LoopChange, MakesFuture, OfParts, Registers, PartsChange, made_of_loop, made_of_parts}
use Rattle.law_changes.proofs.Folds.{keep}
use Rattle.law_changes.proofs.PartsRows.{each_in}
use Rattle.law_changes.proofs.BlockRows.{abort_in, create_in, wake_in}
use Rattle.law_groups.proofs.Quiet.{asked_looks}
use Rattle.law_turns.proofs.Requests.{each_after}
use Rattle.law_promises.proofs.Later.{any}
use Rattle.law_replies.proofs.Tapes.{push_last}
use Rattle.law_promises.proofs.Asking.{ask_covers}
use Rattle.law_promises.proofs.Owed.{IsEasy, covers, easy_group, easy_row, easy_then, group_owed, right_on}
use Rattle.law_promises.proofs.Loops.{easy_change, easy_request, easy_settle, easy_spawn}
use Rattle.law_promises.specs.Owed.{IsCovered, IsRight, owed, owes_group, takes_no_more}

-- ---- who has which future stays
owns_request : (change : PartsChange) (p : Parts) → OfRequest change p → OwnsFutures p → OwnsFutures (made_of_parts change p)
owns_request _ p (cancels future) h = settle_cases OwnsFutures future Cancelled p h (λ q s. settled_owns future p q s h)
owns_request _ p (keeps_asked future) h = same_owns p _ (asked_looks future p) h
owns_request _ p (counts task) h = same_owns p _ (change_looks_same task _ p (λ t. refl) (λ t. refl)) h
owns_request _ p (sets_must_cancel task) h = same_owns p _ (change_looks_same task _ p (λ t. refl) (λ t. refl)) h

owns_each : (by : Origin) (tasks : List ℕ) (p : Parts) → OwnsFutures p → OwnsFutures (request_each by tasks p).parts
owns_each by tasks p = keep OwnsFutures owns_request (each_in by tasks p)

-- ---- what changes nothing that is owed
same_owes : (profile : Profile) (new old : Group) → stage_of new ≡ stage_of old → (task : ℕ)
    → cond (owes_group profile task new) 1 0 ≤ cond (owes_group profile task old) 1 0
same_owes profile new old same task =
    let e : ◌≡◌ {A = ℕ} (cond (owes_group profile task new) 1 0) (cond (owes_group profile task old) 1 0) =
    ap (λ (it : GroupStage).
    cond (it.entered && (it.requested && (not (elim profile [ One ↦ it.exiting | Two ↦ it.ended ]) && (it.parent == task)))) 1 0) same in
    omega (arith, e)

pub group_easy : (id : ℕ) (change : LoopChange) (l : Loop) → OfGroup id change l → IsEasy l (made_of_loop change l)
group_easy id _ l (changes new same) = easy_group id new l (same_owes l.profile new (group_of l id) same)
group_easy id _ l (aborts future) = easy_request (ByAbort id) future l
group_easy id _ l waits = easy_change 0 (OfParts (MakesFuture Plain)) l tt
group_easy id _ l (wakes future) = easy_settle future (Returned Nothing) l

creating_easy : (id : ℕ) (change : LoopChange) (l : Loop) → OfCreating id change l → IsEasy l (made_of_loop change l)
creating_easy id change l (in_creating it) = group_easy id change l it
creating_easy id _ l spawns = easy_spawn l
creating_easy id _ l (registers future task) = easy_change 0 (OfParts (Registers future (GroupDone id task))) l refl

pub easy_create : (id : ℕ) (l : Loop) → IsEasy l (create id l)
easy_create id l = easy_row (creating_easy id) (create_in id l)

pub abort_tasks : (id : ℕ) (l : Loop) → next_task (abort id l).parts ≡ next_task l.parts
abort_tasks id l = (each_after any false None (ByAbort id) (group_of l id).children l.parts).same refl

wake_tasks : (children : List ℕ) (exit : Option ℕ) (p : Parts) → next_task (wake_if_last children exit p) ≡ next_task p
wake_tasks [] None p = refl
wake_tasks [] (Some future) p = ap length (settle-tasks future (Returned Nothing) p)
wake_tasks (child ∷ children) exit p = refl

wake_owns : (children : List ℕ) (exit : Option ℕ) (p : Parts) → OwnsFutures p → OwnsFutures (wake_if_last children exit p)
wake_owns [] None p h = h
wake_owns [] (Some future) p h =
    settle_cases OwnsFutures future (Returned Nothing) p h (λ q s. settled_owns future p q s h)
wake_owns (child ∷ children) exit p h = h

-- ---- a group is made and entered
new_owed : (parent : ℕ) (l : Loop) (other : ℕ) → owed (make_group parent l) other ≡ owed l other
new_owed parent l other =
    let a : count_by (owes_group l.profile other) (l.groups ++ new_group parent ∷ []) ≡ count_by (owes_group l.profile other) l.groups + 0 =
    sum_by_push (λ g. cond (owes_group l.profile other g) 1 0) l.groups (new_group parent) in
    omega (arith, a)

pub enter_group_covers : (parent : ℕ) (l : Loop) → next_group l < most_ids → IsRight l → IsCovered l
    → IsCovered (enter_group (next_group l) (make_group parent l))
enter_group_covers parent l few right is =
    let made = make_group parent l in
    let id = next_group l in
    let g = push_last l.groups (new_group parent) (new_group 0) in
    covers made (enter_group id made)
    (easy_group id (record (group_of made id) { entered = true }) made (λ task.
    let a : ◌≡◌ {A = ℕ} (cond (owes_group l.profile task (record (group_of made id) { entered = true })) 1 0) 0 =
    ap (λ (it : Group). cond (owes_group l.profile task (record it { entered = true })) 1 0) g in
    omega (arith, a)))
    (record { made = right.made; fresh = λ other h. new_owed parent l other ∙ right.fresh other h })
    (record {
      timeouts_few = is.timeouts_few;
      groups_few = let a = length-append l.groups (new_group parent ∷ []) in omega (arith, a, few);
      covered = λ other h none. let a = is.covered other h none in let b = new_owed parent l other in omega (arith, a, b);
      found = is.found;
    })

-- ---- it is told of a task: the first that failed makes it ask for its parent's cancel
owes_one : (a c d : Bool) → ◌≤◌ (cond (a && (true && (c && d))) 1 0) (cond d 1 0)
owes_one true true d = le_refl _
owes_one true false d = omega arith
owes_one false c d = omega arith

parent_covers : (id : ℕ) (l : Loop) → OwnsFutures l.parts → IsRight l → IsCovered l → IsCovered (request_parent id l)
parent_covers id l owns right is =
    let it = group_of l id in
    let new = record it { requested = true } in
    ask_covers l (request_parent id l) (ByGroup id) it.parent refl refl
    (λ other.
    let a : owed (request_parent id l) other + cond (owes_group l.profile other (group_of l id)) 1 0
    ≤ owed l other + cond ((group_of l id).entered && (true && (not (takes_no_more l.profile (group_of l id)) && ((group_of l id).parent == other)))) 1 0 =
    group_owed id new l other in
    let b = owes_one (group_of l id).entered (not (takes_no_more l.profile (group_of l id))) ((group_of l id).parent == other) in
    omega (arith, a, b))
    refl (length-set l.groups id new) owns right is

blame_covers : (o : Option Exc) (id : ℕ) (l : Loop) → OwnsFutures l.parts → IsRight l → IsCovered l → IsCovered (blame o id l)
blame_covers None id l owns right is = is
blame_covers (Some fault) id l owns right is = at ((group_of l id).aborting || (group_of l id).requested)
  where
    easy : IsEasy l (set_group id (record (group_of l id) { errors = (group_of l id).errors ++ fault ∷ [] }) l)
    easy = easy_group id (record (group_of l id) { errors = (group_of l id).errors ++ fault ∷ [] }) l (λ other. le_refl _)

    at : (b : Bool) → IsCovered (abort_and_request_unless b id (set_group id (record (group_of l id) { errors = (group_of l id).errors ++ fault ∷ [] }) l))
    at true = covers l _ easy right is
    at false =
        let failing = set_group id (record (group_of l id) { errors = (group_of l id).errors ++ fault ∷ [] }) l in
        let a = easy_then l failing (abort id failing) easy (easy_row (group_easy id) (abort_in id failing)) in
        parent_covers id (abort id failing) (owns_each (ByAbort id) (group_of failing id).children l.parts owns)
        (right_on l (abort id failing) a.later (abort_tasks id failing) a.owes right) (covers l (abort id failing) a right is)

pub child_covers : (id task : ℕ) (l : Loop) → OwnsFutures l.parts → IsRight l → IsCovered l → IsCovered (child_done id task l)
child_covers id task l owns right is =
    let without = without_child id task l in
    let woken = wake_exit id without in
    let group = group_of without id in
    let a = easy_then l without woken
    (easy_group id (record (group_of l id) { children = filter (λ child. not (child == task)) (group_of l id).children }) l (λ other. le_refl _))
    (easy_row (group_easy id) (wake_in id without)) in
    blame_covers (failure_of l.parts task) id woken (wake_owns group.children group.exit_future l.parts owns)
    (right_on l woken a.later (wake_tasks group.children group.exit_future l.parts) a.owes right) (covers l woken a right is)
