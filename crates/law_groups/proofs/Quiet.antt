-- Steps of tasks and requests schedule nothing.
use Rattle.std.proofs.Common.{◌≡◌, ℕ, Bool, List, None, Option, Some, [], ap, arith, cond, false, not, refl, slice_get, slice_set, subst, sym, true}
use Rattle.std.proofs.Common.{◌&&◌, ◌++◌, ◌+◌, ◌==◌, ◌∙◌, ◌∷◌, ◌<◌, ◌≤◌}
use Rattle.model_loop.specs.Tasks.{begin_step, change_task, next_task, set_waiter, spawn}
use Rattle.model_loop.specs.Futures.{make_future, mark_asked, next_future, register, settle}
use Rattle.model_loop.specs.Futures.{with_future}
use Rattle.model_loop.specs.Loop.{Timeout}
use Rattle.model_loop.specs.Handles.{soon, soon_all}
use Rattle.law_groups.proofs.Entries.{entries-soon, off}
use Rattle.model_loop.specs.Suspend.{suspend}
use Rattle.model_loop.specs.Entries.{AreTimed, ends_sleep_on, entries, handles_where, timers_where, untimed}
use Rattle.model_value.specs.Value.{Outcome}
use Rattle.model_loop.specs.Deadlines.{HasTag, entries_at, fires, fires_any, fires_as, others_as}
use Rattle.law_steps.proofs.Looks.{LooksSame, asked_looks_same, refl_looks, same_callbacks}
use Rattle.model_value.specs.Action.{Action}
use Rattle.model_loop.specs.Parts.{Future, FutureKind, Handle, OfTask, Parts, Task}
use Rattle.model_value.specs.declared.outcome.Outcome.TheVariants.{Cancelled}
use Rattle.law_changes.specs.Blocks.{OfRequest, cancels, keeps_asked, counts, sets_must_cancel, OfWait, cycles, registers_step, begins_wait, in_wait}
use Rattle.law_changes.specs.Blocks.{clears_must_cancel}
use Rattle.law_changes.specs.Changes.{PartsChange, made_of_parts}
use Rattle.law_changes.specs.Reaches.{Reaches}
use Rattle.law_changes.proofs.Folds.{fold}
use Rattle.law_changes.proofs.PartsRows.{cancel_in, suspend_in}
use Rattle.law_steps.proofs.Settling.{settle_cases}
use Rattle.model_loop.specs.Ways.{steps}
use Rattle.model_value.specs.Input.{Input}
use Rattle.model_value.specs.declared.action.Action.TheVariants.{Fires, SleepDone, Step, StepInCycle, Wakeup}
use Rattle.law_groups.specs.Tags.{AddsNoTimes, IsQuiet, KeepsTags, is_deadline}
use Rattle.std.proofs.lemmas.List.Sums.{sum_by-cons, sum_by_push}
use Rattle.model_loop.specs.Cancel.{cancel}
use Rattle.law_steps.proofs.CancelSound.{settled_callbacks}
use Rattle.model_loop.specs.Owning.{AreCallbacks, is_callback, is_no_callback, is_plain}
use Rattle.law_steps.specs.Frames.{taken}
use Rattle.model_loop.specs.Totals.{callbacks_at, callbacks_of}
use Rattle.model_loop.proofs.FutureCases.{registered, registered_on, settled, settled_as}
use Rattle.std.specs.Option.{option_map_or}
use Rattle.std.proofs.lemmas.Bool.{false≢true, ne_eqb}
use Rattle.law_cancel.proofs.Effects.{asked_as, change_task-futures}
use Rattle.law_cancel.proofs.Lookups.{get-set_kept}
use Rattle.std.specs.List.{count_by}

abbrev one : Bool → ℕ
one b = cond b 1 0

other_fires : (action : Action) → is_deadline action ≡ false → (id : ℕ) → fires id action ≡ false
other_fires (Fires other) h id = absurd (false≢true (sym h))
other_fires _ h id = refl

other_sleeps : (action : Action) → is_deadline action ≡ false → (id tag : ℕ) → ends_sleep_on id tag action ≡ false
other_sleeps (SleepDone task future) h id tag = absurd (false≢true (sym h))
other_sleeps _ h id tag = refl

-- ---- one after the other
pub tags_on : (p q r : Parts) → KeepsTags q r → KeepsTags p q → KeepsTags p r
tags_on p q r b a = record {
  next = let x = a.next in let y = b.next in omega (arith, x, y);
  any = λ id. b.any id ∙ a.any id;
  as_tag = λ id tag. b.as_tag id tag ∙ a.as_tag id tag;
  others = λ id tag h.
      let n = a.next in
      let x = a.others id tag h in
      let y = b.others id tag (omega (arith, h, n)) in
      omega (arith, x, y);
}

pub times_on : (p q r : Parts) → AddsNoTimes q r → AddsNoTimes p q → AddsNoTimes p r
times_on p q r b a = record {
  timers = let x = a.timers in let y = b.timers in omega (arith, x, y);
  sleeps = λ id. let x = a.sleeps id in let y = b.sleeps id in omega (arith, x, y);
}

pub quiet_on : (p q r : Parts) → IsQuiet q r → IsQuiet p q → IsQuiet p r
quiet_on p q r b a = record { tags = tags_on p q r b.tags a.tags; times = times_on p q r b.times a.times }

-- ---- the same handles and timers
entries-same : (test : ℕ → Action → Bool) (p q : Parts) → q.pending ≡ p.pending → q.timers ≡ p.timers
    → entries test q ≡ entries test p
entries-same test p q pending timers =
    ap (λ l. handles_where test l + timers_where test q.timers) pending
    ∙ ap (λ l. handles_where test p.pending + timers_where test l) timers

pub same_quiet : (p q : Parts) → q.pending ≡ p.pending → q.timers ≡ p.timers → q.next_tag ≡ p.next_tag → IsQuiet p q
same_quiet p q pending timers next = record {
  tags = record {
    next = omega (arith, next);
    any = λ id. entries-same (fires_any id) p q pending timers;
    as_tag = λ id tag. entries-same (fires_as id tag) p q pending timers;
    others = λ id tag h. let e = entries-same (others_as id tag) p q pending timers in omega (arith, e);
  };
  times = record {
    timers = let e = ap (timers_where untimed) timers in omega (arith, e);
    sleeps = λ id. let e = entries-same (ends_sleep_on id) p q pending timers in omega (arith, e);
  };
}

pub refl_quiet : (p : Parts) → IsQuiet p p
refl_quiet p = same_quiet p p refl refl refl

-- ---- a handle that ends no sleep and fires no timeout
pub soon_quiet : (action : Action) (p : Parts) → is_deadline action ≡ false → IsQuiet p (soon action p)
soon_quiet action p other = record {
  tags = record {
    next = omega arith;
    any = λ id.
        let a = entries-soon (fires_any id) action p in
        let z : ◌≡◌ {A = ℕ} (cond (fires id action) 1 0) 0 = ap one (other_fires action other id) in
        omega (arith, a, z);
    as_tag = λ id tag.
        let a = entries-soon (fires_as id tag) action p in
        let z : ◌≡◌ {A = ℕ} (cond ((p.next_tag == tag) && fires id action) 1 0) 0 =
        ap (λ b. one ((p.next_tag == tag) && b)) (other_fires action other id) ∙ off (p.next_tag == tag) in
        omega (arith, a, z);
    others = λ id tag h.
        let a = entries-soon (others_as id tag) action p in
        let z : ◌≡◌ {A = ℕ} (cond ((p.next_tag == tag) && not (fires id action)) 1 0) 0 =
        ap (λ b. one (b && not (fires id action))) (ne_eqb p.next_tag tag (λ e. absurd (omega (arith, h, e)))) in
        omega (arith, a, z);
  };
  times = record {
    timers = omega arith;
    sleeps = λ id.
        let a = entries-soon (ends_sleep_on id) action p in
        let z : ◌≡◌ {A = ℕ} (cond (ends_sleep_on id p.next_tag action) 1 0) 0 =
        ap one (other_sleeps action other id p.next_tag) in
        omega (arith, a, z);
  };
}

callback_other : (action : Action) → is_no_callback action ≡ false → is_deadline action ≡ false
callback_other (SleepDone task future) h = absurd (false≢true (sym h))
callback_other (Fires timeout) h = absurd (false≢true (sym h))
callback_other _ h = refl

pub soon_all_quiet : (actions : List Action) (p : Parts) → count_by is_no_callback actions ≡ 0 → IsQuiet p (soon_all actions p)
soon_all_quiet [] p none = refl_quiet p
soon_all_quiet (a ∷ more) p none =
    go (is_no_callback a) refl (soon_all_quiet more (soon a p))
  where
    go : (b : Bool) → is_no_callback a ≡ b → (count_by is_no_callback more ≡ 0 → IsQuiet (soon a p) (soon_all more (soon a p)))
        → IsQuiet p (soon_all more (soon a p))
    go true e ih =
        let c : count_by is_no_callback (a ∷ more) ≡ 1 + count_by is_no_callback more =
        sum_by-cons (λ x. cond (is_no_callback x) 1 0) a more ∙ rw e refl in
        absurd (omega (arith, c, none))
    go false e ih =
        let c : count_by is_no_callback (a ∷ more) ≡ 0 + count_by is_no_callback more =
        sum_by-cons (λ x. cond (is_no_callback x) 1 0) a more ∙ rw e refl in
        quiet_on p (soon a p) _ (ih (omega (arith, c, none))) (soon_quiet a p (callback_other a e))

-- ---- futures
pub settle_quiet : (id : ℕ) (outcome : Outcome) (p : Parts) → AreCallbacks p → IsQuiet p (settle id outcome p)
settle_quiet id outcome p are = at (slice_get p.futures id) refl
  where
    until : (future : Future) → slice_get p.futures id ≡ Some future → (o : Option Outcome)
        → IsQuiet p (settled_as o id future outcome p)
    until future e (Some done) = refl_quiet p
    until future e None =
        quiet_on p (with_future id (record future { outcome = Some outcome; callbacks = [] }) p) _
        (soon_all_quiet future.callbacks _ (ap (λ o. count_by is_no_callback (callbacks_at o)) (sym e) ∙ are id))
        (same_quiet p _ refl refl refl)

    at : (o : Option Future) → slice_get p.futures id ≡ o → IsQuiet p (settled o id outcome p)
    at None e = refl_quiet p
    at (Some future) e = until future e future.outcome

pub register_quiet : (id : ℕ) (action : Action) (p : Parts) → is_deadline action ≡ false → IsQuiet p (register id action p)
register_quiet id action p other = at (slice_get p.futures id)
  where
    until : (future : Future) (o : Option Outcome) → IsQuiet p (registered_on o id future action p)
    until future (Some done) = soon_quiet action p other
    until future None = same_quiet p _ refl refl refl

    at : (o : Option Future) → IsQuiet p (registered o id action p)
    at None = refl_quiet p
    at (Some future) = until future future.outcome

pub change_task_quiet : (id : ℕ) (change : Task → Task) (p : Parts) → IsQuiet p (change_task id change p)
change_task_quiet id change p = at (slice_get p.tasks id)
  where
    at : (o : Option Task) → IsQuiet p (option_map_or (λ (t : Task). record p { tasks = slice_set p.tasks id (change t) }) o p)
    at None = refl_quiet p
    at (Some task) = same_quiet p _ refl refl refl

pub mark_asked_quiet : (id : ℕ) (p : Parts) → IsQuiet p (mark_asked id p)
mark_asked_quiet id p = at (slice_get p.futures id)
  where
    at : (o : Option Future) → IsQuiet p (option_map_or (λ (f : Future). with_future id (asked_as f) p) o p)
    at None = refl_quiet p
    at (Some future) = same_quiet p _ refl refl refl

-- ---- what is called when a future is done
pub register_callbacks : (id : ℕ) (action : Action) (p : Parts) → is_callback action ≡ true → AreCallbacks p → AreCallbacks (register id action p)
register_callbacks id action p ok are j = at (slice_get p.futures id) refl
  where
    until : (future : Future) → slice_get p.futures id ≡ Some future → (o : Option Outcome)
        → count_by is_no_callback (callbacks_of (registered_on o id future action p) j) ≡ 0
    until future e (Some done) = are j
    until future e None =
        get-set_kept (λ o. count_by is_no_callback (callbacks_at o)) p.futures id j future
        (record future { callbacks = future.callbacks ++ action ∷ [] }) e
        (sum_by_push (λ a. cond (is_no_callback a) 1 0) future.callbacks action ∙ rw ok (omega arith)) ∙ are j

    at : (o : Option Future) → slice_get p.futures id ≡ o → count_by is_no_callback (callbacks_of (registered o id action p) j) ≡ 0
    at None e = are j
    at (Some future) e = until future e future.outcome

change_callbacks : (id : ℕ) (change : Task → Task) (p : Parts) → AreCallbacks p → AreCallbacks (change_task id change p)
change_callbacks id change p are j =
    ap (λ (fs : List Future). count_by is_no_callback (callbacks_at (slice_get fs j))) (change_task-futures id change p) ∙ are j

-- whether there is such a future or not
pub asked_looks : (id : ℕ) (p : Parts) → LooksSame p (mark_asked id p)
asked_looks id p = at (slice_get p.futures id) refl
  where
    at : (o : Option Future) → slice_get p.futures id ≡ o → LooksSame p (mark_asked id p)
    at (Some future) e = asked_looks_same id p future e
    at None e = subst (λ o. LooksSame p (option_map_or (λ (f : Future). with_future id (asked_as f) p) o p)) (sym e) (refl_looks p)

-- ---- rows
abbrev KeepsQuiet : Parts → Parts → Type 0
KeepsQuiet p q = AreCallbacks p → AreCallbacks q × IsQuiet p q

quiet_task : (id : ℕ) (change : Task → Task) (p : Parts) → KeepsQuiet p (change_task id change p)
quiet_task id change p are = (change_callbacks id change p are, change_task_quiet id change p)

quiet_request : (change : PartsChange) (p : Parts) → OfRequest change p → KeepsQuiet p (made_of_parts change p)
quiet_request _ p (cancels future) are = (
  settle_cases AreCallbacks future Cancelled p are (λ q s. settled_callbacks future p q s are),
  settle_quiet future Cancelled p are,
)
quiet_request _ p (keeps_asked future) are = (same_callbacks p _ (asked_looks future p) are, mark_asked_quiet future p)
quiet_request _ p (counts task) are = quiet_task task _ p are
quiet_request _ p (sets_must_cancel task) are = quiet_task task _ p are

quiet_wait : (task on : ℕ) (change : PartsChange) (p : Parts) → OfWait task on change p → KeepsQuiet p (made_of_parts change p)
quiet_wait task on _ p (cycles why) are = (are, soon_quiet (StepInCycle task why) p refl)
quiet_wait task on _ p registers_step are = (register_callbacks on (Wakeup task) p refl are, register_quiet on (Wakeup task) p refl)
quiet_wait task on _ p begins_wait are = quiet_task task _ p are
quiet_wait task on change p (in_wait it) are = quiet_request change p it are
quiet_wait task on _ p clears_must_cancel are = quiet_task task _ p are

module _ {May : PartsChange → Parts → Type 0} (each : (change : PartsChange) (p : Parts) → May change p → KeepsQuiet p (made_of_parts change p)) where
  quiet_row : {p q : Parts} → Reaches made_of_parts May p q → AreCallbacks p → IsQuiet p q
  quiet_row row are =
      (fold KeepsQuiet (λ q h. (h, refl_quiet q)) (λ p q r a b h. let x = a h in let y = b x.0 in (y.0, quiet_on p q r y.1 x.1)) each row are).1

pub cancel_quiet : (id : ℕ) (p : Parts) → AreCallbacks p → IsQuiet p (cancel id p).parts
cancel_quiet id p = quiet_row quiet_request (cancel_in id p)

pub suspend_quiet : (task on : ℕ) (p : Parts) → AreCallbacks p → IsQuiet p (suspend task on p).parts
suspend_quiet task on p = quiet_row (quiet_wait task on) (suspend_in task on p)

-- ---- a step
pub handles-first : (test : ℕ → Action → Bool) (handle : Handle) (rest : List Handle) (p : Parts) → p.pending ≡ handle ∷ rest
    → entries test p ≡ one (not handle.dead && test handle.tag handle.action) + entries test (taken rest p)
handles-first test handle rest p first =
    let a : handles_where test p.pending ≡ one (not handle.dead && test handle.tag handle.action) + handles_where test rest =
    ap (handles_where test) first ∙ sum_by-cons (λ (h : Handle). cond (not h.dead && test h.tag h.action) 1 0) handle rest in
    omega (arith, a)

-- a handle that is no timeout's is taken out
pub taken_quiet : (handle : Handle) (rest : List Handle) (p : Parts) → p.pending ≡ handle ∷ rest
    → ((id : ℕ) → (not handle.dead && fires id handle.action) ≡ false) → IsQuiet p (taken rest p)
taken_quiet handle rest p first none = record {
  tags = record {
    next = omega arith;
    any = λ id.
        let a = handles-first (fires_any id) handle rest p first in
        let z : ◌≡◌ {A = ℕ} (cond (not handle.dead && fires id handle.action) 1 0) 0 = ap one (none id) in
        omega (arith, a, z);
    as_tag = λ id tag.
        let a = handles-first (fires_as id tag) handle rest p first in
        let z = tagged_none id tag (not handle.dead) (handle.tag == tag) (fires id handle.action) (none id) in
        omega (arith, a, z);
    others = λ id tag h. let a = handles-first (others_as id tag) handle rest p first in omega (arith, a);
  };
  times = record {
    timers = omega arith;
    sleeps = λ id. let a = handles-first (ends_sleep_on id) handle rest p first in omega (arith, a);
  };
}
  where
    tagged_none : (id tag : ℕ) (live t f : Bool) → (live && f) ≡ false → ◌≡◌ {A = ℕ} (cond (live && (t && f)) 1 0) 0
    tagged_none id tag false t f h = refl
    tagged_none id tag true t f h = rw h (off t)

pub begin_quiet : (task : ℕ) (input : Input) (handle : Handle) (rest : List Handle) (p : Parts) → p.pending ≡ handle ∷ rest
    → steps task handle.action ≡ true → IsQuiet p (begin_step task input (taken rest p)).parts
begin_quiet task input handle rest p first mine =
    quiet_on p (set_waiter task None (taken rest p)) _ (change_task_quiet task _ (set_waiter task None (taken rest p)))
    (quiet_on p (taken rest p) _ (change_task_quiet task _ (taken rest p)) (taken_quiet handle rest p first none))
  where
    steps_none : (action : Action) → steps task action ≡ true → (id : ℕ) → fires id action ≡ false
    steps_none (Fires other) h id = absurd (false≢true h)
    steps_none _ h id = refl

    none : (id : ℕ) → (not handle.dead && fires id handle.action) ≡ false
    none id = rw (steps_none handle.action mine id) (go (not handle.dead))
      where
        go : (b : Bool) → (b && false) ≡ false
        go true = refl
        go false = refl

pub spawn_quiet : (p : Parts) → IsQuiet p (spawn p)
spawn_quiet p = quiet_on p (record (make_future (OfTask (next_task p)) p) {
  tasks = p.tasks ++ record { future = next_future p; waiter = None; cancels = 0; must_cancel = false } ∷ [];
}) _ (soon_quiet (Step (next_task p)) _ refl) (same_quiet p _ refl refl refl)

pub make_quiet : (kind : FutureKind) (p : Parts) → IsQuiet p (make_future kind p)
make_quiet kind p = same_quiet p _ refl refl refl

-- ---- what follows for a timeout and for all timers
pub tag_kept_at : (p q : Parts) (id : ℕ) → p.next_tag ≤ q.next_tag → entries (fires_any id) q ≡ entries (fires_any id) p
    → ((tag : ℕ) → entries (fires_as id tag) q ≡ entries (fires_as id tag) p)
    → ((tag : ℕ) → tag < p.next_tag → entries (others_as id tag) q ≤ entries (others_as id tag) p)
    → (it : Timeout) → HasTag p id it → HasTag q id it
tag_kept_at p q id next any as_tag others it is = record {
  held = any ∙ is.held ∙ sym (at it.tag);
  active = is.active;
  below = λ tag e. let b = is.below tag e in omega (arith, b, next);
  own = λ tag e. let b = is.below tag e in let o = others tag b in let z = is.own tag e in omega (arith, o, z);
}
  where
    at : (o : Option ℕ) → entries_at q id o ≡ entries_at p id o
    at None = refl
    at (Some tag) = as_tag tag

pub tag_kept : (p q : Parts) → KeepsTags p q → (id : ℕ) (it : Timeout) → HasTag p id it → HasTag q id it
tag_kept p q k id it is = tag_kept_at p q id k.next (k.any id) (k.as_tag id) (k.others id) it is

pub timed_kept : (p q : Parts) → AddsNoTimes p q → ((id : ℕ) → is_plain p id ≡ true → is_plain q id ≡ true)
    → AreTimed p → AreTimed q
timed_kept p q k plains is = record {
  timers = let a = k.timers in let b = is.timers in omega (arith, a, b);
  sleeps = λ id h. let a = k.sleeps id in plains id (is.sleeps id (omega (arith, a, h)));
}
