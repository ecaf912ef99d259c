-- A future that stands for itself alone, and is made before cancels that make none, might as well be made after them.
use Rattle.std.proofs.Common.{◌≡◌, ℕ, zero, suc, ◌<◌, ◌≤◌, ◌⊎◌, Bool, true, false, not, ◌&&◌, List, [], ◌∷◌, ◌++◌, Option, Some, None, length, map, ◌-◌}
use Rattle.std.proofs.Common.{slice_get, slice_set, refl, ap, sym, subst, ◌∙◌, inl, inr, arith}
use Rattle.std.specs.Prelude.{◌==◌, is_some, if◌then◌else◌}
use Rattle.std.proofs.Math.ListN.{length-set}
use Rattle.std.proofs.lemmas.Bool.{cases_lt, lt-ltb, le-ltb}
use Rattle.std.specs.List.{AllByRecursion as Each}
use Rattle.std.specs.Option.{option_map_or}
use Rattle.model_value.specs.Action.{Action}
use Rattle.model_value.specs.declared.input.Input.TheVariants.{Send, Throw}
use Rattle.model_value.specs.declared.outcome.Outcome.TheVariants.{Cancelled}
use Rattle.model_value.specs.Input.{Input}
use Rattle.model_value.specs.Value.{Outcome, Exc}
use Rattle.model_loop.proofs.GroupCases.{abort_where, take_back_where, keep_and_abort_unless}
use Rattle.model_loop.specs.Cancel.{CancelRequest, Canceller, answers, has_seen, cancel_each, cancel_by, cancel_below, cancel_within, cancel}
use Rattle.model_loop.specs.Futures.{is_pending_at, is_pending, made_before, mark_asked, new_plain, next_future, settle, with_future}
use Rattle.model_loop.specs.Groups.{group_of, set_group, only_cancelled, abort, at_begin, begin_exit, abort_if_raised}
use Rattle.model_loop.specs.Handles.{soon, soon_all}
use Rattle.model_loop.specs.Ledger.{Origin, ByAbort, ByGroup, Asked, Raised, Booked, raised_among, request_where, request_each, uncancel_by}
use Rattle.model_loop.specs.Loop.{Group, Loop, in_parts, book}
use Rattle.model_loop.specs.Parts.{FutureKind, Plain, OfTask, Many, Future, Task, Parts, Profile}
use Rattle.model_loop.specs.Tasks.{cancelling, change_task, future_of, lives, must_still_cancel, next_task, raise_count, waiter_of}
use Rattle.model_loop.proofs.FutureCases.{settled, settled_as}
use Rattle.law_cancel.proofs.CancelCases.{asked_where, must_cancel_unless, cancel_waiter, cancel_unseen, cancel_task_where, cancel_kind, cancel_until}
use Rattle.law_cancel.proofs.CancelCases.{cancel_at}
use Rattle.law_cancel.proofs.Counting.{change_task-kept}
use Rattle.law_cancel.proofs.Effects.{done_as, asked_as, settle-futures, settle-tasks, mark_asked-futures, mark_asked-tasks, change_task-futures}
use Rattle.law_cancel.proofs.Lookups.{get-push_other, get-set_same}
use Rattle.law_cancel.proofs.Trace.{Goes, begins, settles, asks, raises, sets_must_cancel, IsRow, each_row, below_row, within_row, with_row}
use Rattle.aio_group.specs.Exits.{WaitsMade, begun, heard, ruled, taken_back}
use Rattle.aio_group.specs.GoesOn.{PartsGoOn}
use Rattle.aio_group.proofs.Going.{own_there, request_where_on, uncancel_on}
use Rattle.aio_group.proofs.Listing.{all_to}
use Rattle.aio_group.proofs.Standing.{group_same}

abbrev fresh : Future
fresh = record { kind = Plain; outcome = None; callbacks = [] }

-- ---- lists
get-new : (fs : List Future) (id : ℕ) → id < length fs → slice_get (fs ++ fresh ∷ []) id ≡ slice_get fs id
get-new fs id m = get-push_other fs fresh id (λ e. absurd (omega (arith, m, e)))

set-new : (fs : List Future) (id : ℕ) (f : Future) → id < length fs → slice_set (fs ++ fresh ∷ []) id f ≡ slice_set fs id f ++ fresh ∷ []
set-new [] id f m = absurd (omega arith)
set-new (x ∷ fs) zero f m = refl
set-new (x ∷ fs) (suc id) f m = ap (λ ys. x ∷ ys) (set-new fs id f (omega arith))

-- ---- small changes
soon_all-new : (actions : List Action) (p : Parts) → soon_all actions (new_plain p) ≡ new_plain (soon_all actions p)
soon_all-new [] p = refl
soon_all-new (a ∷ more) p = soon_all-new more (soon a p)

with-new : (id : ℕ) (f : Future) (p : Parts) → id < next_future p → with_future id f (new_plain p) ≡ new_plain (with_future id f p)
with-new id f p m = ap (λ fs. record p { futures = fs }) (set-new p.futures id f m)

settle-new : (id : ℕ) (outcome : Outcome) (p : Parts) → id < next_future p → settle id outcome (new_plain p) ≡ new_plain (settle id outcome p)
settle-new id outcome p m = ap (λ o. settled o id outcome (new_plain p)) (get-new p.futures id m) ∙ at (slice_get p.futures id)
  where
    until : (future : Future) (o : Option Outcome)
        → settled_as o id future outcome (new_plain p) ≡ new_plain (settled_as o id future outcome p)
    until future (Some x) = refl
    until future None =
        ap (soon_all future.callbacks) (with-new id (done_as outcome future) p m)
        ∙ soon_all-new future.callbacks (with_future id (done_as outcome future) p)

    at : (o : Option Future) → settled o id outcome (new_plain p) ≡ new_plain (settled o id outcome p)
    at None = refl
    at (Some future) = until future future.outcome

ask-new : (id : ℕ) (p : Parts) → id < next_future p → mark_asked id (new_plain p) ≡ new_plain (mark_asked id p)
ask-new id p m =
    ap (λ o. option_map_or (λ (f : Future). with_future id (asked_as f) (new_plain p)) o (new_plain p)) (get-new p.futures id m)
    ∙ at (slice_get p.futures id)
  where
    at : (o : Option Future)
        → option_map_or (λ (f : Future). with_future id (asked_as f) (new_plain p)) o (new_plain p)
        ≡ new_plain (option_map_or (λ (f : Future). with_future id (asked_as f) p) o p)
    at None = refl
    at (Some future) = with-new id (asked_as future) p m

change-new : (id : ℕ) (change : Task → Task) (p : Parts) → change_task id change (new_plain p) ≡ new_plain (change_task id change p)
change-new id change p = at (slice_get p.tasks id)
  where
    at : (o : Option Task)
        → option_map_or (λ (t : Task). record (new_plain p) { tasks = slice_set p.tasks id (change t) }) o (new_plain p)
        ≡ new_plain (option_map_or (λ (t : Task). record p { tasks = slice_set p.tasks id (change t) }) o p)
    at None = refl
    at (Some t) = refl

-- ---- what a request leaves as it is
-- what tasks wait for, and how many futures there are
pub record WaitLeaves (p q : Parts) : Type 0 where
  pub waiters : (task : ℕ) → waiter_of q task ≡ waiter_of p task
  pub made : next_future q ≡ next_future p

leaves_on : (p q r : Parts) → WaitLeaves q r → WaitLeaves p q → WaitLeaves p r
leaves_on p q r b a = record { waiters = λ t. b.waiters t ∙ a.waiters t; made = b.made ∙ a.made }

abbrev waiter_at : Option Task → Option ℕ
waiter_at o = option_map_or (λ (t : Task). t.waiter) o None

changed_leaves : (id : ℕ) (change : Task → Task) (p : Parts) → ((t : Task) → (change t).waiter ≡ t.waiter) → WaitLeaves p (change_task id change p)
changed_leaves id change p same = record {
  waiters = λ task. change_task-kept waiter_at id change p same task;
  made = ap length (change_task-futures id change p);
}

goes_leaves : {s : List ℕ} {p : Parts} {t : List ℕ} {q : Parts} → Goes s p t q → WaitLeaves p q
goes_leaves begins = record { waiters = λ t. refl; made = refl }
goes_leaves {p = p} (settles {q = q} g id future e o k) = leaves_on p q _ (record {
  waiters = λ task. ap (λ (ts : List Task). waiter_at (slice_get ts task)) (settle-tasks id Cancelled q);
  made = ap length (settle-futures id Cancelled q future e o) ∙ length-set q.futures id (done_as Cancelled future);
}) (goes_leaves g)
goes_leaves {p = p} (asks {q = q} g id future members asked e o k) = leaves_on p q _ (record {
  waiters = λ task. ap (λ (ts : List Task). waiter_at (slice_get ts task)) (mark_asked-tasks id q);
  made = ap length (mark_asked-futures id q future e) ∙ length-set q.futures id (asked_as future);
}) (goes_leaves g)
goes_leaves {p = p} (raises {q = q} g id task n e) = leaves_on p q _ (changed_leaves id _ q (λ t. refl)) (goes_leaves g)
goes_leaves {p = p} (sets_must_cancel {q = q} g id) = leaves_on p q _ (changed_leaves id _ q (λ t. refl)) (goes_leaves g)

pub waits_left : (p q : Parts) → WaitLeaves p q → WaitsMade p → WaitsMade q
waits_left p q l made task on e =
    let m = made task on (sym (l.waiters task) ∙ e) in
    let n = l.made in
    omega (arith, m, n)

-- ---- a request
abbrev grown : CancelRequest → CancelRequest
grown r = record r { parts = new_plain r.parts }

abbrev Commutes : Canceller → Type 0
Commutes F = (id : ℕ) (s : List ℕ) (p : Parts) → WaitsMade p → id < next_future p → F id s (new_plain p) ≡ grown (F id s p)

each_commutes : (F : Canceller) → IsRow F → Commutes F → (ids : List ℕ) (s : List ℕ) (p : Parts) → WaitsMade p
    → Each (λ id. id < next_future p) ids → cancel_each F ids s (new_plain p) ≡ grown (cancel_each F ids s p)
each_commutes F row c [] s p made below = refl
each_commutes F row c (id ∷ ids) s p made below =
    let l = goes_leaves (row id s p) in
    let now = (F id s p).parts in
    let others = each_commutes F row c ids (F id s p).seen now (waits_left p now l made)
    (subst (λ (n : ℕ). Each (λ i. i < n) ids) (sym l.made) below.1) in
    rw (c id s p made below.0, others) refl

-- members were made before
members_below : (id bound : ℕ) (members : List ℕ) → id < bound → Each (λ i. i < bound) (made_before id members)
members_below id bound [] m = tt
members_below id bound (x ∷ members) m = go (cases_lt x id) (members_below id bound members m)
  where
    go : (x < id) ⊎ (id ≤ x) → Each (λ i. i < bound) (made_before id members) → Each (λ i. i < bound) (made_before id (x ∷ members))
    go (inl l) others = rw (lt-ltb x id l) (omega (arith, l, m), others)
    go (inr l) others = rw (le-ltb x id l) others

module _ (F V : Canceller) (frow : IsRow F) (fc : Commutes F) (vc : Commutes V) (id : ℕ) (s : List ℕ) (p : Parts) (made : WaitsMade p)
    (m : id < next_future p) where
  asked : (b : Bool) (r : CancelRequest) → id < next_future r.parts → asked_where b id (grown r) ≡ grown (asked_where b id r)
  asked true r n = ap (λ q. record r { parts = q }) (ask-new id r.parts n)
  asked false r n = refl

  must_cancel : (b : Bool) (t : ℕ) (r : CancelRequest) → must_cancel_unless b t (grown r) ≡ grown (must_cancel_unless b t r)
  must_cancel true t r = refl
  must_cancel false t r = ap (λ q. record r { parts = q; answer = true }) (change-new t _ r.parts)

  waits : (t : ℕ) (w : Option ℕ) (u : List ℕ) (q : Parts) → WaitsMade q → ((on : ℕ) → w ≡ Some on → on < next_future q)
      → cancel_waiter V t w u (new_plain q) ≡ grown (cancel_waiter V t w u q)
  waits t None u q d b = ap (answers true u) (change-new t _ q)
  waits t (Some w) u q d b = ap (λ (r : CancelRequest). must_cancel_unless r.answer t r) (vc w u q d (b w refl)) ∙ must_cancel (V w u q).answer t (V w u q)

  unseen : (t : ℕ) (o : Option Task) → slice_get p.tasks t ≡ o → cancel_unseen V t o s (new_plain p) ≡ grown (cancel_unseen V t o s p)
  unseen t None e = refl
  unseen t (Some task) e =
      let raised = raise_count t p in
      let l = changed_leaves t _ p (λ (x : Task). refl) in
      let was : waiter_of p t ≡ task.waiter = ap waiter_at e in
      let n = l.made in
      ap (cancel_waiter V t task.waiter (s ++ t ∷ [])) (change-new t _ p)
      ∙ waits t task.waiter (s ++ t ∷ []) raised (waits_left p raised l made)
      (λ on w. let k = made t on (was ∙ w) in omega (arith, k, n))

  task : (seen : Bool) (t : ℕ) → cancel_task_where V seen t s (new_plain p) ≡ grown (cancel_task_where V seen t s p)
  task true t = refl
  task false t = unseen t (slice_get p.tasks t) refl

  kind : (k : FutureKind) → cancel_kind F V k id s (new_plain p) ≡ grown (cancel_kind F V k id s p)
  kind Plain = ap (answers true s) (settle-new id Cancelled p m)
  kind (OfTask t) = task (has_seen s t) t
  kind (Many members asked_before) =
      let ids = made_before id members in
      let r = cancel_each F ids s p in
      let l = goes_leaves (each_row F frow ids s p) in
      let n = l.made in
      ap (λ (x : CancelRequest). asked_where x.answer id x) (each_commutes F frow fc ids s p made (members_below id (next_future p) members m))
      ∙ asked r.answer r (omega (arith, m, n))

  until : (o : Option Outcome) (k : FutureKind) → cancel_until F V o k id s (new_plain p) ≡ grown (cancel_until F V o k id s p)
  until (Some outcome) k = refl
  until None k = kind k

  future_at : (o : Option Future) → cancel_at F V o id s (new_plain p) ≡ grown (cancel_at F V o id s p)
  future_at None = refl
  future_at (Some future) = until future.outcome future.kind

  by_commutes : cancel_by F V id s (new_plain p) ≡ grown (cancel_by F V id s p)
  by_commutes = ap (λ o. cancel_at F V o id s (new_plain p)) (get-new p.futures id m) ∙ future_at (slice_get p.futures id)

below_commutes : (bound : ℕ) (V : Canceller) → IsRow V → Commutes V → Commutes (cancel_below bound V)
below_commutes zero V row c id s p made m = refl
below_commutes (suc bound) V row c id s p made m =
    by_commutes (cancel_below bound V) V (below_row bound V row) (below_commutes bound V row c) c id s p made m

within_commutes : (tasks : ℕ) → Commutes (cancel_within tasks)
within_commutes zero id s p made m = refl
within_commutes (suc tasks) id s p made m =
    below_commutes (suc id) (cancel_within tasks) (within_row tasks) (within_commutes tasks) id s p made m

cancel-new : (id : ℕ) (p : Parts) → WaitsMade p → id < next_future p → cancel id (new_plain p) ≡ grown (cancel id p)
cancel-new id p made m = within_commutes (suc (length p.tasks)) id [] p made m

-- ---- requests for several tasks
-- a task that was made, as its future was
pub record IsMade (p : Parts) (task : ℕ) : Type 0 where
  pub made : task < next_task p
  pub future : future_of p task < next_future p

future_of-new : (task : ℕ) (p : Parts) → task < next_task p → future_of (new_plain p) task ≡ future_of p task
future_of-new task p m = own_there p.tasks task (next_future (new_plain p)) (next_future p) m

abbrev booked_new : Booked → Booked
booked_new b = record b { parts = new_plain b.parts }

request_where-new : (b : Bool) (by : Origin) (id : ℕ) (p : Parts) → WaitsMade p → id < next_future p
    → request_where b by id (new_plain p) ≡ booked_new (request_where b by id p)
request_where-new true by id p made m = ap booked (cancel-new id p made m)
  where
    booked : CancelRequest → Booked
    booked asked = record {
      parts = asked.parts;
      entries = Asked by ∷ map (λ task. Raised task by) (raised_among p asked.seen);
    }
request_where-new false by id p made m = refl

request_where-leaves : (b : Bool) (by : Origin) (id : ℕ) (p : Parts) → WaitLeaves p (request_where b by id p).parts
request_where-leaves true by id p = goes_leaves (with_row id [] p)
request_where-leaves false by id p = record { waiters = λ t. refl; made = refl }

made_on : (p q : Parts) → PartsGoOn p q → (task : ℕ) → IsMade p task → IsMade q task
made_on p q on task made =
    let m = made.made in
    let f = made.future in
    let tasks = on.tasks in
    let futures = on.futures in
    let same = on.own task m in
    record { made = omega (arith, m, tasks); future = omega (arith, same, f, futures) }

own_stays : (b : Bool) (by : Origin) (id : ℕ) (p : Parts) (task : ℕ) → IsMade p task → IsMade (request_where b by id p).parts task
own_stays b by id p = made_on p (request_where b by id p).parts (request_where_on b by id p)

pub request_each-leaves : (by : Origin) (tasks : List ℕ) (p : Parts) → WaitLeaves p (request_each by tasks p).parts
request_each-leaves by [] p = record { waiters = λ t. refl; made = refl }
request_each-leaves by (task ∷ tasks) p =
    let first = (request_where (lives p task) by (future_of p task) p).parts in
    leaves_on p first (request_each by tasks first).parts (request_each-leaves by tasks first)
    (request_where-leaves (lives p task) by (future_of p task) p)

pub request_each-new : (by : Origin) (tasks : List ℕ) (p : Parts) → WaitsMade p → Each (IsMade p) tasks
    → request_each by tasks (new_plain p) ≡ booked_new (request_each by tasks p)
request_each-new by [] p made all = refl
request_each-new by (task ∷ tasks) p made all =
    let id = future_of p task in
    let first = request_where (lives p task) by id p in
    let own : future_of (new_plain p) task ≡ id = future_of-new task p all.0.made in
    let living : lives (new_plain p) task ≡ lives p task =
    ap (λ (i : ℕ). is_pending (new_plain p) i) own ∙ ap is_pending_at (get-new p.futures id all.0.future) in
    let same : request_where (lives (new_plain p) task) by (future_of (new_plain p) task) (new_plain p) ≡ booked_new first =
    ap (λ (b : Bool). request_where b by (future_of (new_plain p) task) (new_plain p)) living
    ∙ ap (λ (i : ℕ). request_where (lives p task) by i (new_plain p)) own
    ∙ request_where-new (lives p task) by id p made all.0.future in
    let others = request_each-new by tasks first.parts
    (waits_left p first.parts (request_where-leaves (lives p task) by id p) made)
    (all_to (IsMade p) (IsMade first.parts) tasks (own_stays (lives p task) by id p) all.1) in
    ap then_each same ∙ ap (λ (b : Booked). record b { entries = first.entries ++ b.entries }) others
  where
    then_each : Booked → Booked
    then_each first = let others = request_each by tasks first.parts in record others { entries = first.entries ++ others.entries }

-- ---- steps of a group
-- A step of a group that makes no future might as well come after one that is made.
pub record Passes (step : Loop → Loop) (l : Loop) : Type 0 where
  pub same : step (in_parts new_plain l) ≡ in_parts new_plain (step l)
  pub leaves : WaitLeaves l.parts (step l).parts

abbrev AreMade : ℕ → Loop → Type 0
AreMade id l = Each (IsMade l.parts) (group_of l id).children

same_leaves : (p : Parts) → WaitLeaves p p
same_leaves p = record { waiters = λ t. refl; made = refl }

then_passes : (f g : Loop → Loop) (l : Loop) → Passes f l → Passes g (f l) → Passes (λ m. g (f m)) l
then_passes f g l a b = record {
  same = ap g a.same ∙ b.same;
  leaves = leaves_on l.parts (f l).parts (g (f l)).parts b.leaves a.leaves;
}

abort_passes : (id : ℕ) (l : Loop) → WaitsMade l.parts → AreMade id l → Passes (abort id) l
abort_passes id l made all = record {
  same = ap (λ (b : Booked). book (λ p. b) (set_group id (record (group_of l id) { aborting = true }) l))
      (request_each-new (ByAbort id) (group_of l id).children l.parts made all);
  leaves = request_each-leaves (ByAbort id) (group_of l id).children l.parts;
}

abort_where_passes : (b : Bool) (id : ℕ) (l : Loop) → WaitsMade l.parts → AreMade id l → Passes (abort_where b id) l
abort_where_passes true id l made all = abort_passes id l made all
abort_where_passes false id l made all = record { same = refl; leaves = same_leaves l.parts }

-- a cancel is taken back
module _ (profile : Profile) (id : ℕ) (l : Loop) where
  abbrev group : Group
  group = group_of l id

  abbrev taken : Loop
  taken = book (uncancel_by profile (ByGroup id) group.parent) (ruled profile l)

  abbrev lowered : Task → Task
  lowered t = record t { cancels = t.cancels - 1; must_cancel = must_still_cancel profile t }

  abbrev dropped : Loop → Loop
  dropped m = if cancelling m.parts group.parent == 0 then set_group id (record group { kept = None }) m else m

  abbrev dropped_if : Bool → Loop → Loop
  dropped_if b m = if b then set_group id (record group { kept = None }) m else m

  dropped_passes : (b : Bool) → dropped_if b (in_parts new_plain taken) ≡ in_parts new_plain (dropped_if b taken)
  dropped_passes true = refl
  dropped_passes false = refl

  taken_passes : book (uncancel_by profile (ByGroup id) group.parent) (ruled profile (in_parts new_plain l)) ≡ in_parts new_plain taken
  taken_passes = ap (λ (p : Parts). record taken { parts = p }) (change-new group.parent lowered l.parts)

  dropped_parts : (b : Bool) → (dropped_if b taken).parts ≡ taken.parts
  dropped_parts true = refl
  dropped_parts false = refl

  dropped_children : (b : Bool) → slice_get l.groups id ≡ Some group → (group_of (dropped_if b taken) id).children ≡ group.children
  dropped_children true at = ap (λ (g : Group). g.children) (group_same id (record group { kept = None }) taken at)
  dropped_children false at = refl

  taken_leaves : WaitLeaves l.parts taken.parts
  taken_leaves = changed_leaves group.parent lowered l.parts (λ t. refl)

  take_back_passes : (b : Bool) → Passes (λ m. take_back_where b id (ruled profile m)) l
  take_back_passes false = record { same = refl; leaves = same_leaves l.parts }
  take_back_passes true =
      let b = cancelling taken.parts group.parent == 0 in
      record {
        same = ap dropped taken_passes ∙ dropped_passes b;
        leaves = subst (λ q. WaitLeaves l.parts q) (sym (dropped_parts b)) taken_leaves;
      }

  -- the tasks of the group are there afterwards
  take_back_made : (b : Bool) → slice_get l.groups id ≡ Some group → AreMade id l → AreMade id (take_back_where b id (ruled profile l))
  take_back_made false at all = all
  take_back_made true at all =
      let b = cancelling taken.parts group.parent == 0 in
      subst (λ cs. Each (IsMade (dropped_if b taken).parts) cs) (sym (dropped_children b at))
      (subst (λ q. Each (IsMade q) group.children) (sym (dropped_parts b))
      (all_to (IsMade l.parts) (IsMade taken.parts) group.children (made_on l.parts taken.parts (uncancel_on profile group.parent l.parts)) all))

pub begun_passes : (profile : Profile) (raised : Option Exc) (id : ℕ) (l : Loop) → WaitsMade l.parts → AreMade id l
    → slice_get l.groups id ≡ Some (group_of l id) → Passes (begun profile raised id) l
begun_passes profile raised id l made all at =
    let begin = begin_exit raised id l in
    let g : Group = record (group_of l id) { exiting = true; body = raised; kept = only_cancelled raised } in
    let there : group_of begin id ≡ g = group_same id g l at in
    let now : slice_get begin.groups id ≡ Some (group_of begin id) =
    get-set_same l.groups id (group_of l id) g at ∙ ap Some (sym there) in
    let ready : AreMade id begin = subst (λ cs. Each (IsMade l.parts) cs) (sym (ap (λ (h : Group). h.children) there)) all in
    let due = at_begin profile && (group_of begin id).requested in
    let back = take_back_passes profile id begin due in
    let m = taken_back profile (at_begin profile) id begin in
    let first : Passes (begin_exit raised id) l = record { same = refl; leaves = same_leaves l.parts } in
    let second : Passes (λ k. taken_back profile (at_begin profile) id (begin_exit raised id k)) l =
    then_passes (begin_exit raised id) (taken_back profile (at_begin profile) id) l first (record { same = back.same; leaves = back.leaves }) in
    let third = abort_where_passes (is_some raised && not (group_of m id).aborting) id m
    (waits_left l.parts m.parts second.leaves made)
    (take_back_made profile id begin due now ready) in
    then_passes (λ k. taken_back profile (at_begin profile) id (begin_exit raised id k)) (abort_if_raised raised id) l second
    (record { same = third.same; leaves = third.leaves })

module _ (fault : Exc) (id : ℕ) (l : Loop) (at : slice_get l.groups id ≡ Some (group_of l id)) where
  abbrev woken : Group
  woken = record (group_of l id) { exit_future = None }

  abbrev awake : Loop
  awake = set_group id woken l

  abbrev kept : Loop
  kept = set_group id (record (group_of awake id) { kept = Some fault }) awake

  woken_there : group_of awake id ≡ woken
  woken_there = group_same id woken l at

  at_awake : slice_get awake.groups id ≡ Some (group_of awake id)
  at_awake = get-set_same l.groups id (group_of l id) woken at ∙ ap Some (sym woken_there)

  kept_children : (group_of kept id).children ≡ (group_of l id).children
  kept_children =
      ap (λ (h : Group). h.children) (group_same id (record (group_of awake id) { kept = Some fault }) awake at_awake)
      ∙ ap (λ (h : Group). h.children) woken_there

  aborted : WaitsMade l.parts → AreMade id l → Passes (abort id) kept
  aborted made all = abort_passes id kept made (subst (λ cs. Each (IsMade l.parts) cs) (sym kept_children) all)

  heard_unless : (b : Bool) → WaitsMade l.parts → AreMade id l → Passes (λ m. keep_and_abort_unless b fault id (set_group id woken m)) l
  heard_unless true made all = record { same = refl; leaves = same_leaves l.parts }
  heard_unless false made all = let a = aborted made all in record { same = a.same; leaves = a.leaves }

pub heard_passes : (input : Input) (id : ℕ) (l : Loop) → WaitsMade l.parts → AreMade id l → slice_get l.groups id ≡ Some (group_of l id)
    → Passes (heard input id) l
heard_passes (Send value) id l made all at = record { same = refl; leaves = same_leaves l.parts }
heard_passes (Throw fault) id l made all at =
    let p = heard_unless fault id l at (group_of (awake fault id l at) id).aborting made all in
    record { same = p.same; leaves = p.leaves }
