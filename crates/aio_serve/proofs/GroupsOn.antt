-- Steps of groups: what they leave, and how what is stood for goes on where groups change.
use Rattle.std.proofs.Common.{◌≡◌, ℕ, zero, suc, ◌<◌, Bool, true, false, not, ◌&&◌, ◌||◌, ◌==◌, List, [], ◌∷◌, ◌++◌, Option, Some, None, filter, length}
use Rattle.std.proofs.Common.{slice_set, ◌∙◌, refl, sym, subst, arith, if◌then◌else◌}
use Rattle.std.specs.Prelude.{is_some, slice_index_or}
use Rattle.model_value.specs.Input.{Input}
use Rattle.model_value.specs.declared.input.Input.TheVariants.{Send, Throw}
use Rattle.model_value.specs.declared.outcome.Outcome.TheVariants.{Value as Returned}
use Rattle.model_value.specs.Value.{Nothing, Exc}
use Rattle.model_loop.proofs.GroupCases.{abort_and_request_unless, abort_where, keep_and_abort_unless, take_back_where, wait_or_end_with}
use Rattle.model_loop.specs.Children.{HasPlainExit}
use Rattle.model_loop.specs.Futures.{new_plain, settle}
use Rattle.model_loop.specs.Groups.{abort, abort_if_raised, at_begin, at_end, begin_exit, blame, child_done, end_exit, exit_begin, exit_woken, failure_of, group_of, hear}
use Rattle.model_loop.specs.Groups.{new_group, request_parent, set_group, take_back, wait_for_children, wait_or_end, wake_exit, wake_if_last, without_child}
use Rattle.model_loop.specs.Ledger.{ByAbort, ByGroup, Origin, request, request_each, request_where}
use Rattle.model_loop.specs.Loop.{Group, Loop, take_one_back}
use Rattle.model_loop.specs.Loop as loop
use Rattle.model_loop.specs.Owning.{is_plain}
use Rattle.model_loop.specs.Parts.{Parts, Plain}
use Rattle.model_loop.specs.Tasks.{cancelling, future_of, lives, next_task, uncancel}
use Rattle.model_machine.specs.State.{State, in_loop}
use Rattle.refine_parts.proofs.Only.{only_cancel, only_settle, changes_make, changes_task, appends}
use Rattle.law_steps.proofs.CancelSound.{plain_within}
use Rattle.aio_task.specs.View.{View}
use Rattle.aio_task.specs.Keeps.{NameMap, Kept}
use Rattle.aio_timeout.proofs.Keeping.{timeouts_stay}
use Rattle.aio_timeout.specs.Kept.{AreTimeouts}
use Rattle.aio_group.specs.Held.{Held}
use Rattle.aio_group.specs.Stands.{Came, StandForGroups}
use Rattle.aio_extra.specs.Added.{Added, named_in}
use Rattle.aio_body.specs.declared.run_state.RunState.{RunState}
use Rattle.aio_body.specs.Stands.{AreBlocks, Context, Stands}
use Rattle.aio_serve.proofs.Appending.{Appends, appends_same, appends_on, appends_only, below_kept}
use Rattle.aio_body.proofs.Left.{AreOwnMade, leaves_plain, leaves_request, leaves_settle, leaves_uncancel}
use Rattle.aio_body.proofs.Lasting.{Spares, spares_none, stands_kept}
use Rattle.aio_body.proofs.Leaving.{Leaves, leaves_same, leaves_on}

-- ---- what a step of a group leaves
pub record StepLeaves (l m : Loop) : Type 0 where
  pub parts : Leaves None l.parts m.parts
  pub handles : Appends l.parts m.parts
  pub timeouts : m.timeouts ≡ l.timeouts
  pub profile : m.profile ≡ l.profile

pub step_same : (l m : Loop) → m.parts ≡ l.parts → m.timeouts ≡ l.timeouts → m.profile ≡ l.profile → StepLeaves l m
step_same l m p t same = record {
  parts = subst (λ q. Leaves None l.parts q) (sym p) (leaves_same l.parts);
  handles = subst (λ q. Appends l.parts q) (sym p) (appends_same l.parts);
  timeouts = t;
  profile = same;
}

pub step_on : (l m n : Loop) → StepLeaves l m → StepLeaves m n → StepLeaves l n
step_on l m n a b = record {
  parts = leaves_on None l.parts m.parts n.parts a.parts b.parts;
  handles = appends_on l.parts m.parts n.parts a.handles b.handles;
  timeouts = b.timeouts ∙ a.timeouts;
  profile = b.profile ∙ a.profile;
}

-- each task's own future was made, and stays so
made_on : (p q : Parts) → Leaves None p q → AreOwnMade p → AreOwnMade q
made_on p q leaves made task m =
    let tasks = leaves.tasks in
    let futures = leaves.goes_on.futures in
    let within : task < next_task p = omega (arith, m, tasks) in
    let same = leaves.goes_on.own task within in
    let there = made task within in
    omega (arith, same, there, futures)

-- ---- requests
where_leaves : (b : Bool) (by : Origin) (id : ℕ) (p : Parts) → Leaves None p (request_where b by id p).parts
where_leaves true by id p = leaves_request by id p
where_leaves false by id p = leaves_same p

where_appends : (b : Bool) (by : Origin) (id : ℕ) (p : Parts) → Appends p (request_where b by id p).parts
where_appends true by id p = appends_only p (request by id p).booked.parts (only_cancel id p)
where_appends false by id p = appends_same p

pub leaves_each : (by : Origin) (tasks : List ℕ) (p : Parts) → Leaves None p (request_each by tasks p).parts
leaves_each by [] p = leaves_same p
leaves_each by (task ∷ tasks) p =
    let one = (request_where (lives p task) by (future_of p task) p).parts in
    leaves_on None p one (request_each by tasks one).parts (where_leaves (lives p task) by (future_of p task) p) (leaves_each by tasks one)

appends_each : (by : Origin) (tasks : List ℕ) (p : Parts) → Appends p (request_each by tasks p).parts
appends_each by [] p = appends_same p
appends_each by (task ∷ tasks) p =
    let one = (request_where (lives p task) by (future_of p task) p).parts in
    appends_on p one (request_each by tasks one).parts (where_appends (lives p task) by (future_of p task) p) (appends_each by tasks one)

pub abort_leaves : (id : ℕ) (l : Loop) → StepLeaves l (abort id l)
abort_leaves id l = record {
  parts = leaves_each (ByAbort id) (group_of l id).children l.parts;
  handles = appends_each (ByAbort id) (group_of l id).children l.parts;
  timeouts = refl;
  profile = refl;
}

-- ---- a child is done
wake_leaves : (id : ℕ) (l : Loop) → HasPlainExit l.parts (group_of l id) → StepLeaves l (wake_exit id l)
wake_leaves id l plain = at (group_of l id).children (group_of l id).exit_future plain
  where
    at : (children : List ℕ) (exit : Option ℕ) → ((future : ℕ) → exit ≡ Some future → is_plain l.parts future ≡ true)
        → StepLeaves l (record l { parts = wake_if_last children exit l.parts })
    at [] None h = step_same l l refl refl refl
    at (child ∷ children) exit h = step_same l l refl refl refl
    at [] (Some future) h = record {
      parts = leaves_settle future (Returned Nothing) l.parts (plain_within l.parts future (h future refl)).0;
      handles = appends_only l.parts (settle future (Returned Nothing) l.parts) (only_settle future (Returned Nothing) l.parts);
      timeouts = refl;
      profile = refl;
    }

request_parent_leaves : (id : ℕ) (l : Loop) → StepLeaves l (request_parent id l)
request_parent_leaves id l =
    let on = future_of l.parts (group_of l id).parent in
    record {
      parts = leaves_request (ByGroup id) on l.parts;
      handles = appends_only l.parts (request (ByGroup id) on l.parts).booked.parts (only_cancel on l.parts);
      timeouts = refl;
      profile = refl;
    }

unless_leaves : (b : Bool) (id : ℕ) (l : Loop) → StepLeaves l (abort_and_request_unless b id l)
unless_leaves true id l = step_same l l refl refl refl
unless_leaves false id l =
    step_on l (abort id l) (request_parent id (abort id l)) (abort_leaves id l) (request_parent_leaves id (abort id l))

blame_leaves : (fault : Option Exc) (id : ℕ) (l : Loop) → StepLeaves l (blame fault id l)
blame_leaves None id l = step_same l l refl refl refl
blame_leaves (Some fault) id l =
    let m = set_group id (record (group_of l id) { errors = (group_of l id).errors ++ fault ∷ [] }) l in
    step_on l m (blame (Some fault) id l) (step_same l m refl refl refl)
    (unless_leaves ((group_of l id).aborting || (group_of l id).requested) id m)

-- a group that lost a child waits as it did
exit_same : (groups : List Group) (id : ℕ) (new other : Group) → new.exit_future ≡ (slice_index_or groups id other).exit_future
    → (slice_index_or (slice_set groups id new) id other).exit_future ≡ (slice_index_or groups id other).exit_future
exit_same [] id new other e = refl
exit_same (x ∷ groups) zero new other e = e
exit_same (x ∷ groups) (suc id) new other e = exit_same groups id new other e

pub child_done_leaves : (id task : ℕ) (l : Loop) → HasPlainExit l.parts (group_of l id) → StepLeaves l (child_done id task l)
child_done_leaves id task l plain =
    let m = without_child id task l in
    let n = wake_exit id m in
    let same : (group_of m id).exit_future ≡ (group_of l id).exit_future =
    exit_same l.groups id (record (group_of l id) { children = filter (λ child. not (child == task)) (group_of l id).children }) (new_group 0) refl in
    step_on l n (child_done id task l) (step_on l m n (step_same l m refl refl refl) (wake_leaves id m (λ future e. plain future (sym same ∙ e))))
    (blame_leaves (failure_of l.parts task) id n)

-- ---- an exit
pub uncancel_leaves : (by : Origin) (task : ℕ) (l : Loop) → StepLeaves l (take_one_back by task l)
uncancel_leaves by task l = record {
  parts = leaves_uncancel l.profile task l.parts;
  handles = appends_only l.parts (uncancel l.profile task l.parts) (appends (changes_task task _ l.parts));
  timeouts = refl;
  profile = refl;
}

take_back_leaves : (b : Bool) (id : ℕ) (l : Loop) → StepLeaves l (take_back_where b id l)
take_back_leaves false id l = step_same l l refl refl refl
take_back_leaves true id l = at (cancelling taken.parts group.parent == 0)
  where
    group : Group
    group = group_of l id

    taken : Loop
    taken = take_one_back (ByGroup id) (group_of l id).parent l

    first : StepLeaves l taken
    first = uncancel_leaves (ByGroup id) (group_of l id).parent l

    at : (b : Bool) → StepLeaves l (if b then set_group id (record group { kept = None }) taken else taken)
    at false = first
    at true =
        let m = set_group id (record group { kept = None }) taken in
        step_on l taken m first (step_same taken m refl refl refl)

abort_where_leaves : (b : Bool) (id : ℕ) (l : Loop) → StepLeaves l (abort_where b id l)
abort_where_leaves true id l = abort_leaves id l
abort_where_leaves false id l = step_same l l refl refl refl

-- what comes before the exit waits or ends
pub begun_leaves : (raised : Option Exc) (id : ℕ) (l : Loop)
    → StepLeaves l (abort_if_raised raised id (take_back (at_begin l.profile) id (begin_exit raised id l)))
begun_leaves raised id l =
    let m = begin_exit raised id l in
    let n = take_back (at_begin l.profile) id m in
    step_on l n (abort_if_raised raised id n)
    (step_on l m n (step_same l m refl refl refl) (take_back_leaves (at_begin l.profile && (group_of m id).requested) id m))
    (abort_where_leaves (is_some raised && not (group_of n id).aborting) id n)

unless_aborts : (b : Bool) (fault : Exc) (id : ℕ) (l : Loop) → StepLeaves l (keep_and_abort_unless b fault id l)
unless_aborts true fault id l = step_same l l refl refl refl
unless_aborts false fault id l =
    let m = set_group id (record (group_of l id) { kept = Some fault }) l in
    step_on l m (abort id m) (step_same l m refl refl refl) (abort_leaves id m)

hear_leaves : (input : Input) (id : ℕ) (l : Loop) → StepLeaves l (hear input id l)
hear_leaves (Send value) id l = step_same l l refl refl refl
hear_leaves (Throw fault) id l = unless_aborts (group_of l id).aborting fault id l

pub heard_leaves : (input : Input) (id : ℕ) (l : Loop)
    → StepLeaves l (hear input id (set_group id (record (group_of l id) { exit_future = None }) l))
heard_leaves input id l =
    let m = set_group id (record (group_of l id) { exit_future = None }) l in
    step_on l m (hear input id m) (step_same l m refl refl refl) (hear_leaves input id m)

end_leaves : (kept : Option Exc) (errors : List Exc) (id : ℕ) (l : Loop) → StepLeaves l (end_exit kept errors id l).loop
end_leaves None errors id l = step_same l (end_exit None errors id l).loop refl refl refl
end_leaves (Some fault) [] id l = step_same l (end_exit (Some fault) [] id l).loop refl refl refl
end_leaves (Some fault) (error ∷ errors) id l = step_same l (end_exit (Some fault) (error ∷ errors) id l).loop refl refl refl

wait_leaves : (id : ℕ) (l : Loop) → AreOwnMade l.parts → StepLeaves l (wait_for_children id l).loop
wait_leaves id l made = record {
  parts = leaves_plain l.parts made;
  handles = appends_only l.parts (new_plain l.parts) (appends (changes_make Plain l.parts));
  timeouts = refl;
  profile = refl;
}

pub wait_or_end_leaves : (id : ℕ) (l : Loop) → AreOwnMade l.parts → StepLeaves l (wait_or_end id l).loop
wait_or_end_leaves id l made = at (group_of l id).children
  where
    at : (children : List ℕ) → StepLeaves l (wait_or_end_with children id l).loop
    at [] =
        let last = take_back (at_end l.profile) id l in
        step_on l last (end_exit (group_of last id).kept (group_of last id).errors id last).loop
        (take_back_leaves (at_end l.profile && (group_of l id).requested) id l)
        (end_leaves (group_of last id).kept (group_of last id).errors id last)
    at (child ∷ children) = wait_leaves id l made

pub exit_begin_leaves : (raised : Option Exc) (id : ℕ) (l : Loop) → AreOwnMade l.parts → StepLeaves l (exit_begin raised id l).loop
exit_begin_leaves raised id l made =
    let m = abort_if_raised raised id (take_back (at_begin l.profile) id (begin_exit raised id l)) in
    let first = begun_leaves raised id l in
    step_on l m (wait_or_end id m).loop first (wait_or_end_leaves id m (made_on l.parts m.parts first.parts made))

pub exit_woken_leaves : (input : Input) (id : ℕ) (l : Loop) → AreOwnMade l.parts → StepLeaves l (exit_woken input id l).loop
exit_woken_leaves input id l made =
    let m = hear input id (set_group id (record (group_of l id) { exit_future = None }) l) in
    let first = heard_leaves input id l in
    step_on l m (wait_or_end id m).loop first (wait_or_end_leaves id m (made_on l.parts m.parts first.parts made))

module _ {X : Type 0} {a : Added X} where
  -- ---- what is stood for goes on
  -- An operation after which timeouts and groups stand for the machine's, by whatever the code made of them.
  pub stands_blocks : (new : Option (ℕ × ℕ)) (out : Option ℕ) (c : Context a) (old : RunState X) (s : State a.Kept) (v : View) (groups : List Held)
      (change : Loop → Loop) → (h : Stands out c old s) → (kept : Kept h.name_map s.loop.parts v (change s.loop).parts)
      → Leaves new s.loop.parts (change s.loop).parts → Spares new s.loop.parts (named_in a s)
      → AreBlocks kept.name_map old.timeouts groups (change s.loop) → length v.queue.below ≡ length old.parts.queue.below
      → v.profile ≡ old.parts.profile → (change s.loop).profile ≡ s.loop.profile
      → Stands out c (record old { parts = v; groups = groups }) (in_loop change s)
  stands_blocks new out c old s v groups change h kept leaves spares blocks below profile still =
      stands_kept new out c old s v old.timeouts groups (change s.loop) c.left h kept leaves spares blocks (below ∙ h.left) profile still

  -- groups and parts of a body stand for its loop
  pub groups_stand : (out : Option ℕ) (c : Context a) (body : RunState X) (s : State a.Kept) → (h : Stands out c body s)
      → StandForGroups h.name_map body.groups body.parts s.loop.parts s.loop.groups
  groups_stand out c body s h = record { keeps = h.keeps; each = h.blocks.groups }

-- the timeouts stay where tags are known as before
pub blocks_came : (t : NameMap) (timeouts : List _) (groups others : List Held) (v : View) (l m : Loop) → (came : Came t l others v m)
    → m.timeouts ≡ l.timeouts → AreBlocks t timeouts groups l → AreBlocks came.name_map timeouts others m
blocks_came t timeouts groups others v l m came same b = record {
  timeouts =
      subst (λ (xs : List loop.Timeout). AreTimeouts came.name_map m.parts timeouts xs) (sym same)
      (timeouts_stay t came.name_map l.parts m.parts timeouts l.timeouts came.extends.known came.extends.tags b.timeouts);
  groups = came.stands.each;
}

abbrev pub kept_of : {t : NameMap} {l m : Loop} {groups : List Held} {v : View} → (came : Came t l groups v m) → Kept t l.parts v m.parts
kept_of came = record { name_map = came.name_map; keeps = came.stands.keeps; extends = came.extends }

module _ {X : Type 0} {a : Added X} where
  -- a step of a group
  pub stands_stepped : (out : Option ℕ) (c : Context a) (old : RunState X) (s : State a.Kept) (v : View) (groups : List Held) (change : Loop → Loop)
      → (h : Stands out c old s) → Came h.name_map s.loop groups v (change s.loop) → StepLeaves s.loop (change s.loop)
      → v.profile ≡ old.parts.profile → Stands out c (record old { parts = v; groups = groups }) (in_loop change s)
  stands_stepped out c old s v groups change h came leaves profile =
      stands_blocks None out c old s v groups change h (kept_of came) leaves.parts (spares_none s.loop.parts (named_in a s))
      (blocks_came h.name_map old.timeouts old.groups groups v s.loop (change s.loop) came leaves.timeouts h.blocks)
      (below_kept h.name_map came.name_map old.parts v s.loop.parts (change s.loop).parts h.keeps came.stands.keeps came.extends.bar leaves.handles)
      profile leaves.profile
