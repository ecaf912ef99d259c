-- What each operation on the parts leaves.
use Rattle.std.proofs.Common.{◌≡◌, ℕ, ◌-◌, ◌<◌, ◌≤◌, ◌⊎◌, Bool, true, false, cond, List, [], ◌∷◌, ◌++◌, Option, Some, None, Result, Ok, Err, length}
use Rattle.std.proofs.Common.{length-append, slice_get, slice_set, length-set, refl, sym, ap, subst, ◌∙◌, inl, inr, arith, if◌then◌else◌}
use Rattle.std.specs.Prelude.{is_none}
use Rattle.std.specs.Option.{option_map_or}
use Rattle.std.proofs.lemmas.Bool.{cases_eq, cases_lt, false≢true, le-ltb, lt-ltb}
use Rattle.model_value.specs.Number.{most}
use Rattle.model_value.specs.Action.{Action, CycleKind}
use Rattle.model_value.specs.Input.{Input}
use Rattle.model_value.specs.Value.{Value, Exc, Outcome}
use Rattle.model_value.specs.declared.action.Action.TheVariants.{StepInCycle, Wakeup}
use Rattle.model_value.specs.declared.outcome.Outcome.TheVariants.{Value as Returned, Failed, Cancelled}
use Rattle.model_loop.specs.Cancel.{cancel, has_seen}
use Rattle.model_loop.specs.Cycles.{cycle}
use Rattle.model_loop.specs.Futures.{is_pending, is_pending_at, make_future, new_plain, next_future, outcome_at, register, settle}
use Rattle.model_loop.specs.Handles.{later, revoke, soon, soon_all}
use Rattle.model_loop.specs.Ledger.{Origin, request}
use Rattle.model_loop.specs.Owning.{owner_at, owner_of, is_main_done}
use Rattle.model_loop.specs.Parts.{Future, FutureKind, Parts, Plain, Profile, Task}
use Rattle.model_loop.specs.Suspend.{cancel_wait, suspend, wait_on}
use Rattle.model_loop.specs.Tasks.{begin_step, cancelling, change_task, finish, future_of, must_cancel_of, lives, next_task, one_more, pause, set_waiter}
use Rattle.model_loop.specs.Tasks.{must_still_cancel, uncancel}
use Rattle.model_loop.specs.Tasks.{clear_must_cancel, waiter_of}
use Rattle.model_loop.proofs.FutureCases.{is_plain_at, registered, registered_on, settled, settled_as}
use Rattle.law_cancel.proofs.SuspendCases.{suspend_unless}
use Rattle.law_cancel.proofs.Counting.{change_task-kept, goes-counts}
use Rattle.law_cancel.proofs.Effects.{change_task-futures, length-change_task, register-tasks, settle-pending, settle-tasks}
use Rattle.law_cancel.proofs.Lookups.{get-push_other, get-set_other, get-set_same, get_within}
use Rattle.law_cancel.proofs.Trace.{with_row}
use Rattle.law_steps.proofs.Settling.{settle_cases, settle_effect}
use Rattle.law_steps.proofs.Spreading.{with_spread}
use Rattle.law_steps.proofs.Stepping.{waits_none}
use Rattle.law_groups.proofs.Holding.{cancels_names}
use Rattle.law_turns.specs.After.{IsAfter, OutcomeIn, ResultIn}
use Rattle.law_turns.proofs.Made.{make_after, register_after}
use Rattle.law_turns.proofs.Parts.{change_after, settle_after}
use Rattle.law_turns.proofs.Requests.{begin_after, cancel_after, finish_after, suspend_after}
use Rattle.law_replies.proofs.Counts.{lives_within}
use Rattle.refine_parts.specs.Waits.{WaitedBefore}
use Rattle.refine_parts.proofs.Only.{OnlyAppends, appends, changes_begin, changes_task, only_cancel, only_finish, only_settle, only_suspend}
use Rattle.refine_parts.proofs.Waiting.{before_begin, before_cancel, before_finish, before_register, before_settle, before_uncancel, waits_suspend}
use Rattle.aio_group.specs.GoesOn.{PartsGoOn}
use Rattle.aio_group.proofs.Going.{cancel_on, own_there as own_stays, register_on, settle_on, then_on, uncancel_on}
use Rattle.aio_body.proofs.Leaving.{Leaves}

-- ---- values of every kind
abbrev pub any : Value → Bool
any value = true

outcome_any : (outcome : Outcome) → OutcomeIn any outcome
outcome_any (Returned value) = refl
outcome_any (Failed fault) = tt
outcome_any Cancelled = tt

result_any : (end : Result Value Exc) → ResultIn any end
result_any (Ok value) = refl
result_any (Err fault) = tt

abbrev After : Parts → Parts → Type 0
After p q = IsAfter any false None p q

-- ---- which tasks live
pending_within : (p : Parts) (id : ℕ) → is_pending p id ≡ true → id < next_future p
pending_within p id h = at (slice_get p.futures id) refl h
  where
    at : (o : Option Future) → slice_get p.futures id ≡ o → is_pending_at o ≡ true → id < next_future p
    at None e h = absurd (false≢true h)
    at (Some future) e h = get_within p.futures id future e

-- where no future is made
living_on : (p q : Parts) → After p q → next_future q ≡ next_future p → (task : ℕ) → lives q task ≡ true → lives p task ≡ true
living_on p q a made task l =
    let inside : task < next_task p = subst (λ n. task < n) (a.same refl) (lives_within q task l) in
    let here : is_pending q (future_of p task) ≡ true = sym (ap (is_pending q) (a.owned task inside)) ∙ l in
    at (a.pends (future_of p task) here) (pending_within q (future_of p task) here)
  where
    at : (is_pending p (future_of p task) ≡ true) ⊎ (next_future p ≤ future_of p task) → future_of p task < next_future q → lives p task ≡ true
    at (inl h) within = h
    at (inr past) within = absurd (omega (arith, past, within, made))

-- each task's own future was made
abbrev pub AreOwnMade : Parts → Type 0
AreOwnMade p = (task : ℕ) → task < next_task p → future_of p task < next_future p

-- then a task lives that lived before, whatever is made
pub living_made : (grown : Bool) (p q : Parts) → IsAfter any grown None p q → AreOwnMade p → (task : ℕ) → task < next_task p → lives q task ≡ true
    → lives p task ≡ true
living_made grown p q a made task within l = at (a.pends (future_of p task) (sym (ap (is_pending q) (a.owned task within)) ∙ l))
  where
    at : (is_pending p (future_of p task) ≡ true) ⊎ (next_future p ≤ future_of p task) → lives p task ≡ true
    at (inl h) = h
    at (inr past) = let there = made task within in absurd (omega (arith, past, there))

-- ---- the time
soon_time : (p q : Parts) → OnlyAppends p q → q.time ≡ p.time
soon_time p q only = ap (λ (x : Parts). x.time) only.is ∙ at only.actions p
  where
    at : (actions : List Action) (x : Parts) → (soon_all actions x).time ≡ x.time
    at [] x = refl
    at (action ∷ actions) x = at actions (soon action x)

-- ---- counts
abbrev Counts : Parts → Parts → Type 0
Counts p q = ((task : ℕ) → cancelling p task ≤ most) → (task : ℕ) → cancelling q task ≤ most

counts_on : (p q r : Parts) → Counts p q → Counts q r → Counts p r
counts_on p q r a b h = b (a h)

counts_same : (p q : Parts) → q.tasks ≡ p.tasks → Counts p q
counts_same p q e h task =
    subst (λ n. n ≤ most) (sym (ap (λ (ts : List Task). option_map_or (λ (it : Task). it.cancels) (slice_get ts task) 0) e)) (h task)

abbrev count_at : Option Task → ℕ
count_at o = option_map_or (λ (it : Task). it.cancels) o 0

counts_change : (id : ℕ) (change : Task → Task) (p : Parts) → ((it : Task) → it.cancels ≤ most → (change it).cancels ≤ most)
    → Counts p (change_task id change p)
counts_change id change p fits h task = at (slice_get p.tasks id) refl
  where
    at : (o : Option Task) → slice_get p.tasks id ≡ o
        → cancelling (option_map_or (λ (it : Task). record p { tasks = slice_set p.tasks id (change it) }) o p) task ≤ most
    at None e = h task
    at (Some it) e = there (cases_eq id task)
      where
        there : (id ≡ task) ⊎ (id ≡ task → ⊥) → count_at (slice_get (slice_set p.tasks id (change it)) task) ≤ most
        there (inl same) =
            subst (λ (k : ℕ). count_at (slice_get (slice_set p.tasks id (change it)) k) ≤ most) same
            (subst (λ (o : Option Task). count_at o ≤ most) (sym (get-set_same p.tasks id it (change it) e))
            (fits it (subst (λ (o : Option Task). count_at o ≤ most) e (h id))))
        there (inr n) = subst (λ (o : Option Task). count_at o ≤ most) (sym (get-set_other p.tasks id task (change it) n)) (h task)

one_more_most : (count : ℕ) → count ≤ most → one_more count ≤ most
one_more_most count h = at (cases_lt count most)
  where
    at : (count < most) ⊎ (most ≤ count) → one_more count ≤ most
    at (inl below) = rw (lt-ltb count most below) (omega (arith, below))
    at (inr past) = rw (le-ltb count most past) (omega (arith, h))

counts_cancel : (id : ℕ) (p : Parts) → Counts p (cancel id p).parts
counts_cancel id p h task = subst (λ n. n ≤ most) (sym (goes-counts (with_row id [] p) task)) (at (has_seen (cancel id p).seen task))
  where
    at : (b : Bool) → cond b (one_more (cancelling p task)) (cancelling p task) ≤ most
    at true = one_more_most (cancelling p task) (h task)
    at false = h task

-- ---- futures
made_settle : (id : ℕ) (outcome : Outcome) (p : Parts) → next_future (settle id outcome p) ≡ next_future p
made_settle id outcome p = settle_cases (λ q. next_future q ≡ next_future p) id outcome p refl (λ q s. s.made)

made_register : (id : ℕ) (action : Action) (p : Parts) → next_future (register id action p) ≡ next_future p
made_register id action p = at (slice_get p.futures id)
  where
    until : (future : Future) (o : Option Outcome) → next_future (registered_on o id future action p) ≡ next_future p
    until future (Some done) = refl
    until future None = length-set p.futures id (record future { callbacks = future.callbacks ++ action ∷ [] })

    at : (o : Option Future) → next_future (registered o id action p) ≡ next_future p
    at None = refl
    at (Some future) = until future future.outcome

made_change : (id : ℕ) (change : Task → Task) (p : Parts) → next_future (change_task id change p) ≡ next_future p
made_change id change p = ap length (change_task-futures id change p)

made_cancel : (id : ℕ) (p : Parts) → next_future (cancel id p).parts ≡ next_future p
made_cancel id p = (cancels_names (with_spread id [] p)).made

-- ---- tasks' own futures
own_same : (p q : Parts) → q.tasks ≡ p.tasks → next_future q ≡ next_future p → (task : ℕ) → future_of q task ≡ future_of p task
own_same p q tasks made task =
    ap (λ (ts : List Task). option_map_or (λ (it : Task). it.future) (slice_get ts task) (next_future q)) tasks
    ∙ ap (option_map_or (λ (it : Task). it.future) (slice_get p.tasks task)) made

own_change : (id : ℕ) (change : Task → Task) (p : Parts) → ((it : Task) → (change it).future ≡ it.future) → (task : ℕ)
    → future_of (change_task id change p) task ≡ future_of p task
own_change id change p same task =
    change_task-kept (λ o. option_map_or (λ (it : Task). it.future) o (next_future (change_task id change p))) id change p same task
    ∙ ap (option_map_or (λ (it : Task). it.future) (slice_get p.tasks task)) (made_change id change p)

-- ---- how parts go on
same_parts_on : (p q : Parts) → q.futures ≡ p.futures → q.tasks ≡ p.tasks → PartsGoOn p q
same_parts_on p q futures tasks =
    let f = ap length futures in
    let n = ap length tasks in
    record {
      tasks = omega (arith, n);
      futures = omega (arith, f);
      own = λ task m. own_same p q tasks f task;
      owners = λ id m. ap (λ (fs : List Future). owner_at (slice_get fs id)) futures;
      failures = λ id fault e. ap (λ (fs : List Future). outcome_at (slice_get fs id)) futures ∙ e;
    }

pub change_on : (id : ℕ) (change : Task → Task) (p : Parts) → ((it : Task) → (change it).future ≡ it.future) → PartsGoOn p (change_task id change p)
change_on id change p same =
    let q = change_task id change p in
    let f : q.futures ≡ p.futures = change_task-futures id change p in
    let l = ap length f in
    let n : next_task q ≡ next_task p = length-change_task id change p in
    record {
      tasks = omega (arith, n);
      futures = omega (arith, l);
      own = λ task m. own_change id change p same task;
      owners = λ id m. ap (λ (fs : List Future). owner_at (slice_get fs id)) f;
      failures = λ id fault e. ap (λ (fs : List Future). outcome_at (slice_get fs id)) f ∙ e;
    }

-- ---- what each operation leaves
leaves_by : (p q : Parts) → After p q → next_future q ≡ next_future p → WaitedBefore p q → q.time ≡ p.time → Counts p q → PartsGoOn p q → Leaves None p q
leaves_by p q a made waits time counts on = record {
  tasks = a.same refl;
  living = living_on p q a made;
  plain = a.plain;
  waits = λ task id e. inl (waits.before task id e);
  time = time;
  counts = counts;
  goes_on = on;
}

-- handles and timers alone
pub leaves_handles : (p q : Parts) → q.futures ≡ p.futures → q.tasks ≡ p.tasks → q.time ≡ p.time → Leaves None p q
leaves_handles p q futures tasks time = record {
  tasks = ap length tasks;
  living = λ task l.
      sym (ap (λ (fs : List Future). is_pending_at (slice_get fs (future_of p task))) futures)
      ∙ ap (is_pending q) (sym (own_same p q tasks (ap length futures) task)) ∙ l;
  plain = λ id e. ap (λ (fs : List Future). is_plain_at (slice_get fs id)) futures ∙ e;
  waits = λ task id e. inl (sym (ap (λ (ts : List Task). option_map_or (λ (it : Task). it.waiter) (slice_get ts task) None) tasks) ∙ e);
  time = time;
  counts = counts_same p q tasks;
  goes_on = same_parts_on p q futures tasks;
}

pub leaves_pause : (task : ℕ) (p : Parts) → Leaves None p (pause task p)
leaves_pause task p = leaves_handles p (pause task p) refl refl refl

pub leaves_revoke : (tag : ℕ) (p : Parts) → Leaves None p (revoke tag p)
leaves_revoke tag p = leaves_handles p (revoke tag p) refl refl refl

pub leaves_later : (when : ℕ) (action : Action) (p : Parts) → Leaves None p (later when action p)
leaves_later when action p = leaves_handles p (later when action p) refl refl refl

make_on : (kind : FutureKind) (p : Parts) → PartsGoOn p (make_future kind p)
make_on kind p = record {
  tasks = omega arith;
  futures = let l = length-append p.futures (made ∷ []) in omega (arith, l);
  own = λ task m. own_stays p.tasks task (next_future (make_future kind p)) (next_future p) m;
  owners = λ id m. ap owner_at (within_at id m);
  failures = λ id fault e. ap outcome_at (within_at id (there id fault (slice_get p.futures id) refl e)) ∙ e;
}
  where
    made : Future
    made = record { kind = kind; outcome = None; callbacks = [] }

    within_at : (id : ℕ) → id < length p.futures → slice_get (p.futures ++ made ∷ []) id ≡ slice_get p.futures id
    within_at id m = get-push_other p.futures made id (λ e. absurd (omega (arith, m, e)))

    there : (id : ℕ) (fault : Exc) (o : Option Future) → slice_get p.futures id ≡ o → outcome_at o ≡ Some (Failed fault) → id < length p.futures
    there id fault None g d = absurd (cc)
    there id fault (Some future) g d = get_within p.futures id future g

pub leaves_make : (kind : FutureKind) (p : Parts) → AreOwnMade p → Leaves None p (make_future kind p)
leaves_make kind p made =
    let a : After p (make_future kind p) = make_after any false None p kind in
    record {
      tasks = refl;
      living = λ task l. living_made false p (make_future kind p) a made task (lives_within (make_future kind p) task l) l;
      plain = a.plain;
      waits = λ task id e. inl e;
      time = refl;
      counts = λ h. h;
      goes_on = make_on kind p;
    }

pub leaves_plain : (p : Parts) → AreOwnMade p → Leaves None p (new_plain p)
leaves_plain p made = leaves_make Plain p made

register_time : (id : ℕ) (action : Action) (p : Parts) → (register id action p).time ≡ p.time
register_time id action p = at (slice_get p.futures id)
  where
    until : (future : Future) (o : Option Outcome) → (registered_on o id future action p).time ≡ p.time
    until future (Some done) = refl
    until future None = refl

    at : (o : Option Future) → (registered o id action p).time ≡ p.time
    at None = refl
    at (Some future) = until future future.outcome

pub leaves_register : (id : ℕ) (action : Action) (p : Parts) → is_main_done action ≡ false → Leaves None p (register id action p)
leaves_register id action p other =
    leaves_by p (register id action p) (register_after any false None id action p other) (made_register id action p) (before_register id action p)
    (register_time id action p) (counts_same p (register id action p) (register-tasks id action p)) (register_on id action p)

pub leaves_settle : (id : ℕ) (outcome : Outcome) (p : Parts) → owner_of p id ≡ None → Leaves None p (settle id outcome p)
leaves_settle id outcome p o =
    leaves_by p (settle id outcome p) (settle_after any false None id outcome p (outcome_any outcome)) (made_settle id outcome p)
    (before_settle id outcome p) (soon_time p (settle id outcome p) (only_settle id outcome p))
    (counts_same p (settle id outcome p) (settle-tasks id outcome p)) (settle_on id outcome p)

pub leaves_request : (by : Origin) (id : ℕ) (p : Parts) → Leaves None p (request by id p).booked.parts
leaves_request by id p =
    leaves_by p (cancel id p).parts (cancel_after any false None id p) (made_cancel id p) (before_cancel id p)
    (soon_time p (cancel id p).parts (only_cancel id p)) (counts_cancel id p) (cancel_on id p)

fewer : (n : ℕ) → n ≤ most → n - 1 ≤ most
fewer n h = omega (arith, h)

pub leaves_uncancel : (profile : Profile) (task : ℕ) (p : Parts) → Leaves None p (uncancel profile task p)
leaves_uncancel profile task p =
    leaves_by p (uncancel profile task p) (change_after any false None task lowered p (λ it. refl))
    (made_change task lowered p) (before_uncancel profile task p) (soon_time p (uncancel profile task p) (appends (changes_task task lowered p)))
    (counts_change task lowered p (λ it h. fewer it.cancels h)) (uncancel_on profile task p)
  where
    lowered : Task → Task
    lowered it = record it { cancels = it.cancels - 1; must_cancel = must_still_cancel profile it }

-- ---- steps
abbrev cleared : Task → Task
cleared it = record it { must_cancel = false }

abbrev waits_for : Option ℕ → Task → Task
waits_for waiter it = record it { waiter = waiter }

pub leaves_begin : (task : ℕ) (input : Input) (p : Parts) → Leaves None p (begin_step task input p).parts
leaves_begin task input p =
    let q = set_waiter task None p in
    leaves_by p (begin_step task input p).parts (begin_after any false None task input p)
    (made_change task cleared q ∙ made_change task (waits_for None) p) (before_begin task input p)
    (soon_time p (begin_step task input p).parts (appends (changes_begin task input p)))
    (counts_on p q (clear_must_cancel task q) (counts_change task (waits_for None) p (λ it h. h)) (counts_change task cleared q (λ it h. h)))
    (then_on p q (clear_must_cancel task q) (change_on task (waits_for None) p (λ it. refl)) (change_on task cleared q (λ it. refl)))

-- a step's task waits for nothing
pub begun_waits : (task : ℕ) (input : Input) (p : Parts) → waiter_of (begin_step task input p).parts task ≡ None
begun_waits task input p =
    change_task-kept (λ o. option_map_or (λ (it : Task). it.waiter) o None) task cleared (set_waiter task None p) (λ it. refl) task
    ∙ waits_none task p

pub leaves_finish : (task : ℕ) (end : Result Value Exc) (p : Parts) → Leaves None p (finish task end p)
leaves_finish task end p =
    leaves_by p (finish task end p) (finish_after any false None task end p (result_any end)) (made end) (before_finish task end p)
    (soon_time p (finish task end p) (only_finish task end p)) (counts end) (on end)
  where
    made : (end : Result Value Exc) → next_future (finish task end p) ≡ next_future p
    made (Ok value) = made_settle (future_of p task) _ (clear_must_cancel task p) ∙ made_change task cleared p
    made (Err fault) = made_settle (future_of p task) _ p

    counts : (end : Result Value Exc) → Counts p (finish task end p)
    counts (Ok value) =
        counts_on p (clear_must_cancel task p) (finish task (Ok value) p) (counts_change task cleared p (λ it h. h))
        (counts_same (clear_must_cancel task p) (finish task (Ok value) p) (settle-tasks (future_of p task) _ (clear_must_cancel task p)))
    counts (Err fault) = counts_same p (finish task (Err fault) p) (settle-tasks (future_of p task) _ p)

    on : (end : Result Value Exc) → PartsGoOn p (finish task end p)
    on (Ok value) =
        then_on p (clear_must_cancel task p) (finish task (Ok value) p) (change_on task cleared p (λ it. refl))
        (settle_on (future_of p task) _ (clear_must_cancel task p))
    on (Err fault) = settle_on (future_of p task) _ p

-- a future that was settled is done
settle_done : (id : ℕ) (outcome : Outcome) (p : Parts) → is_pending (settle id outcome p) id ≡ false
settle_done id outcome p = at (slice_get p.futures id) refl
  where
    until : (future : Future) → slice_get p.futures id ≡ Some future → (o : Option Outcome) → future.outcome ≡ o
        → is_pending (settled_as o id future outcome p) id ≡ false
    until future e (Some done) o = ap is_pending_at e ∙ ap is_none o
    until future e None o = subst (λ x. is_pending x id ≡ false) (settle-pending id outcome p future e o) (settle_effect id outcome p future e o).done

    at : (o : Option Future) → slice_get p.futures id ≡ o → is_pending (settled o id outcome p) id ≡ false
    at None e = ap is_pending_at e
    at (Some future) e = until future e future.outcome refl

-- a task that was finished is done
pub finish_done : (task : ℕ) (end : Result Value Exc) (p : Parts) → lives (finish task end p) task ≡ false
finish_done task (Ok value) p =
    let q = clear_must_cancel task p in
    let own : future_of (finish task (Ok value) p) task ≡ future_of p task =
    own_same q (finish task (Ok value) p) (settle-tasks (future_of p task) _ q) (made_settle (future_of p task) _ q) task
    ∙ own_change task cleared p (λ it. refl) task in
    ap (is_pending (finish task (Ok value) p)) own ∙ settle_done (future_of p task) _ q
finish_done task (Err fault) p =
    let own : future_of (finish task (Err fault) p) task ≡ future_of p task =
    own_same p (finish task (Err fault) p) (settle-tasks (future_of p task) _ p) (made_settle (future_of p task) _ p) task in
    ap (is_pending (finish task (Err fault) p)) own ∙ settle_done (future_of p task) _ p

-- ---- a wait
wait_made : (task on : ℕ) (p : Parts) → next_future (wait_on task on p) ≡ next_future p
wait_made task on p = made_change task (waits_for (Some on)) (register on (Wakeup task) p) ∙ made_register on (Wakeup task) p

wait_counts : (task on : ℕ) (p : Parts) → Counts p (wait_on task on p)
wait_counts task on p =
    let q = register on (Wakeup task) p in
    counts_on p q (wait_on task on p) (counts_same p q (register-tasks on (Wakeup task) p)) (counts_change task (waits_for (Some on)) q (λ it h. h))

wait_goes : (task on : ℕ) (p : Parts) → PartsGoOn p (wait_on task on p)
wait_goes task on p =
    let q = register on (Wakeup task) p in
    then_on p q (wait_on task on p) (register_on on (Wakeup task) p) (change_on task (waits_for (Some on)) q (λ it. refl))

-- that a wait of a task that must cancel keeps something
record KeepsOn (p q : Parts) : Type 0 where
  pub made : next_future q ≡ next_future p
  pub counts : Counts p q
  pub goes_on : PartsGoOn p q

keeps_on : (p q r : Parts) → KeepsOn p q → KeepsOn q r → KeepsOn p r
keeps_on p q r a b = record {
  made = b.made ∙ a.made;
  counts = counts_on p q r a.counts b.counts;
  goes_on = then_on p q r a.goes_on b.goes_on;
}

keeps_same : (p q : Parts) → q.futures ≡ p.futures → q.tasks ≡ p.tasks → KeepsOn p q
keeps_same p q futures tasks = record { made = ap length futures; counts = counts_same p q tasks; goes_on = same_parts_on p q futures tasks }

suspend_keeps : (task on : ℕ) (p : Parts) → KeepsOn p (suspend task on p).parts
suspend_keeps task on p = at (cycle p task on)
  where
    asked : (q : Parts) (answer : Bool) → KeepsOn q (if answer then clear_must_cancel task (cancel on q).parts else (cancel on q).parts)
    asked q answer = keeps_on q (cancel on q).parts _ first (by answer)
      where
        first : KeepsOn q (cancel on q).parts
        first = record { made = made_cancel on q; counts = counts_cancel on q; goes_on = cancel_on on q }

        by : (answer : Bool) → KeepsOn (cancel on q).parts (if answer then clear_must_cancel task (cancel on q).parts else (cancel on q).parts)
        by true = record {
          made = made_change task cleared (cancel on q).parts;
          counts = counts_change task cleared (cancel on q).parts (λ it h. h);
          goes_on = change_on task cleared (cancel on q).parts (λ it. refl);
        }
        by false = keeps_same (cancel on q).parts (cancel on q).parts refl refl

    waiting : (q : Parts) (must_cancel : Bool) → KeepsOn q (cancel_wait must_cancel task on q).parts
    waiting q false = keeps_same q q refl refl
    waiting q true = asked q (cancel on q).answer

    at : (o : Option CycleKind) → KeepsOn p (suspend_unless o task on p).parts
    at (Some why) = keeps_same p (soon (StepInCycle task why) p) refl refl
    at None =
        let q = wait_on task on p in
        keeps_on p q (cancel_wait (must_cancel_of p task) task on q).parts
        (record { made = wait_made task on p; counts = wait_counts task on p; goes_on = wait_goes task on p })
        (waiting q (must_cancel_of p task))

pub leaves_suspend : (task on : ℕ) (p : Parts) → Leaves (Some (task, on)) p (suspend task on p).parts
leaves_suspend task on p =
    let q = (suspend task on p).parts in
    let a = suspend_after any false None task on p in
    let k = suspend_keeps task on p in
    record {
      tasks = a.same refl;
      living = living_on p q a k.made;
      plain = a.plain;
      waits = waits_suspend task on p;
      time = soon_time p q (only_suspend task on p);
      counts = k.counts;
      goes_on = k.goes_on;
    }
