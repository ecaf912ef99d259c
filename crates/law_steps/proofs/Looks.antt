-- A step that changes none of what the facts look at keeps them.
use Rattle.std.proofs.Common.{◌≡◌, ℕ, zero, suc, ◌+◌, ◌<◌, ◌⊎◌, Bool, true, false, not, ◌&&◌, List, [], ◌∷◌, Option, Some, None, is_none, length, option_map}
use Rattle.std.proofs.Common.{slice_get, slice_set, refl, ap, sym, subst, ◌∙◌, inl, inr}
use Rattle.std.proofs.Math.ListN.{length-set}
use Rattle.std.proofs.lemmas.Bool.{and_parts, and_from, false≢true}
use Rattle.std.specs.List.{count_by, list_all}
use Rattle.std.specs.Option.{option_map_or}
use Rattle.model_value.specs.Action.{Action}
use Rattle.model_value.specs.Value.{Outcome}
use Rattle.model_loop.specs.Parts.{FutureKind, Plain, OfTask, Many, Future, Task, Parts}
use Rattle.model_loop.specs.Futures.{outcome_at, future_outcome, is_pending, is_pending_at, made_before, mark_asked, asked_kind, with_future}
use Rattle.model_loop.specs.Tasks.{lives, waiter_of, future_of, change_task, must_cancel_of}
use Rattle.model_loop.specs.Spent.{spent_by, spent_below, is_spent}
use Rattle.model_loop.specs.Ways.{one_if, resumes, wakes, IsReady, steps, steps_among, wakeups_on, is_running, wakeups_at, ways, HasOneWay}
use Rattle.model_loop.specs.Totals.{callbacks_of, callbacks_at, pending_where}
use Rattle.model_loop.specs.MustCancel.{MustCancelWaits, MayKeepMustCancel}
use Rattle.law_cancel.proofs.PassCases.{passes_until, passes_at}
use Rattle.law_cancel.proofs.SpentCases.{spent_kind, spent_until}
use Rattle.law_cancel.proofs.Lookups.{get-set_kept}
use Rattle.law_cancel.proofs.Effects.{asked_as, change_task-futures, length-change_task, mark_asked-futures, mark_asked-tasks}
use Rattle.law_cancel.proofs.Counting.{change_task-kept}
use Rattle.model_loop.specs.Owning.{owner_in, owner_at, owner_of, own_future, OwnsFutures, AreSettled, AreCallbacks, is_no_callback}
use Rattle.model_loop.specs.Owning.{is_plain}
use Rattle.model_loop.specs.Sound.{HasNoCycle}
use Rattle.model_loop.specs.Children.{tells}
use Rattle.model_loop.proofs.FutureCases.{is_plain_at, is_plain_kind}
use Rattle.model_value.specs.declared.action.Action.TheVariants.{Step, StepInCycle, Wakeup, GroupDone}
use Rattle.law_steps.specs.Frames.{Follows}
use Rattle.law_cancel.proofs.Cycling.{passes-same, no_cycle_kept}

pub record LooksSame (p q : Parts) : Type 0 where
  pub pending : (test : Action → Bool) → Follows test → pending_where test q.pending ≡ pending_where test p.pending
  pub made : length q.futures ≡ length p.futures
  pub tasks : length q.tasks ≡ length p.tasks
  pub outcomes : (id : ℕ) → future_outcome q id ≡ future_outcome p id
  pub pends : (id : ℕ) → is_pending q id ≡ is_pending p id
  pub callbacks : (id : ℕ) → callbacks_of q id ≡ callbacks_of p id
  pub owners : (id : ℕ) → owner_of q id ≡ owner_of p id
  pub plains : (id : ℕ) → is_plain q id ≡ is_plain p id
  pub spents : (f : ℕ → Bool) (id : ℕ) → spent_by f (slice_get q.futures id) id ≡ spent_by f (slice_get p.futures id) id
  pub passing : (id : ℕ) (r : Parts) → passes_at (slice_get q.futures id) id r ≡ passes_at (slice_get p.futures id) id r
  pub waiters : (task : ℕ) → waiter_of q task ≡ waiter_of p task
  pub owned : (task : ℕ) → own_future q task ≡ own_future p task

-- ---- tests that look at tasks and groups alone
pub follow_resumes : (task : ℕ) → Follows (resumes task)
follow_resumes task (Step other) h = absurd (false≢true (sym h))
follow_resumes task (StepInCycle other cycle) h = absurd (false≢true (sym h))
follow_resumes task (Wakeup other) h = refl
follow_resumes task _ h = refl

pub follow_wakes : (task : ℕ) → Follows (wakes task)
follow_wakes task (Step other) h = refl
follow_wakes task (StepInCycle other cycle) h = refl
follow_wakes task (Wakeup other) h = absurd (false≢true (sym h))
follow_wakes task _ h = refl

pub follow_steps : (task : ℕ) → Follows (steps task)
follow_steps task (Step other) h = absurd (false≢true (sym h))
follow_steps task (StepInCycle other cycle) h = absurd (false≢true (sym h))
follow_steps task (Wakeup other) h = absurd (false≢true (sym h))
follow_steps task _ h = refl

pub follow_tells : (group task : ℕ) → Follows (tells group task)
follow_tells group task (GroupDone other child) h = absurd (false≢true (sym h))
follow_tells group task _ h = refl

-- ---- what else stays the same
pub future_of-owned : (p : Parts) (task : ℕ) → future_of p task ≡ option_map_or (λ (id : ℕ). id) (own_future p task) (length p.futures)
future_of-owned p task = at (slice_get p.tasks task)
  where
    at : (o : Option Task)
        → option_map_or (λ (t : Task). t.future) o (length p.futures) ≡ option_map_or (λ (id : ℕ). id) (option_map (λ (t : Task). t.future) o)
        (length p.futures)
    at None = refl
    at (Some t) = refl

pub future_of-same : (p q : Parts) → length q.futures ≡ length p.futures → (task : ℕ) → own_future q task ≡ own_future p task
    → future_of q task ≡ future_of p task
future_of-same p q made task same =
    future_of-owned q task ∙ ap (λ o. option_map_or (λ (id : ℕ). id) o (length q.futures)) same
    ∙ ap (λ n. option_map_or (λ (id : ℕ). id) (own_future p task) n) made ∙ sym (future_of-owned p task)

pub same-lives : {p q : Parts} → LooksSame p q → (task : ℕ) → lives q task ≡ lives p task
same-lives {p} {q} s task = ap (is_pending q) (future_of-same p q s.made task (s.owned task)) ∙ s.pends (future_of p task)

pub same-wakeups : {p q : Parts} → LooksSame p q → (task on : ℕ) → wakeups_on q task on ≡ wakeups_on p task on
same-wakeups s task on = ap (count_by (steps task)) (s.callbacks on)

-- spent futures by what is known of each future
pub spent_grows_below : (b : ℕ) (p q : Parts)
    → ((f : ℕ → Bool) (id : ℕ) → (spent_by f (slice_get q.futures id) id ≡ spent_by f (slice_get p.futures id) id) ⊎ (is_pending q id ≡ false)) → (id : ℕ)
    → spent_below b p id ≡ true → spent_below b q id ≡ true
spent_grows_below zero p q each id h = refl
spent_grows_below (suc b) p q each id h = go (each (spent_below b q) id) (λ x. spent_grows_below b p q each x)
  where
    Grow : Type 0
    Grow = (x : ℕ) → spent_below b p x ≡ true → spent_below b q x ≡ true

    all_grow : Grow → (ids : List ℕ) → list_all (spent_below b p) ids ≡ true → list_all (spent_below b q) ids ≡ true
    all_grow ih [] h = refl
    all_grow ih (x ∷ ids) h =
        let parts = and_parts (spent_below b p x) (list_all (spent_below b p) ids) h in
        and_from (spent_below b q x) (list_all (spent_below b q) ids) (ih x parts.0) (all_grow ih ids parts.1)

    kind : Grow → (k : FutureKind) → spent_kind (spent_below b p) k id ≡ true → spent_kind (spent_below b q) k id ≡ true
    kind ih Plain h = h
    kind ih (OfTask task) h = h
    kind ih (Many members asked) h = all_grow ih (made_before id members) h

    until : Grow → (o : Option Outcome) (k : FutureKind) → spent_until (spent_below b p) o k id ≡ true → spent_until (spent_below b q) o k id ≡ true
    until ih (Some outcome) k h = refl
    until ih None k h = kind ih k h

    at : Grow → (o : Option Future) → spent_by (spent_below b p) o id ≡ true → spent_by (spent_below b q) o id ≡ true
    at ih None h = refl
    at ih (Some future) h = until ih future.outcome future.kind h

    over : (o : Option Future) → is_pending_at o ≡ false → spent_by (spent_below b q) o id ≡ true
    over None h = refl
    over (Some future) h = ended future.outcome h
      where
        ended : (o : Option Outcome) → is_none o ≡ false → spent_until (spent_below b q) o future.kind id ≡ true
        ended (Some outcome) h = refl
        ended None h = absurd (cc)

    go : (spent_by (spent_below b q) (slice_get q.futures id) id ≡ spent_by (spent_below b q) (slice_get p.futures id) id) ⊎ (is_pending q id ≡ false) → Grow
        → spent_below (suc b) q id ≡ true
    go (inl same) ih = same ∙ at ih (slice_get p.futures id) h
    go (inr done) ih = over (slice_get q.futures id) done

pub spent-futures : (p q : Parts) → q.futures ≡ p.futures → (id : ℕ) → is_spent p id ≡ true → is_spent q id ≡ true
spent-futures p q fs id = spent_grows_below (suc id) p q (λ f j. inl (ap (λ (l : List Future). spent_by f (slice_get l j) j) fs)) id

pub same-spent : {p q : Parts} → LooksSame p q → (id : ℕ) → is_spent p id ≡ true → is_spent q id ≡ true
same-spent {p} {q} s id = spent_grows_below (suc id) p q (λ f j. inl (s.spents f j)) id

-- ---- the facts
pub same_ways : (running : Option ℕ) (p q : Parts) → LooksSame p q → HasOneWay running p → HasOneWay running q
same_ways running p q s is = record {
  one = λ task. ways_same task ∙ is.one task ∙ ap (λ b. one_if (b && not (is_running running task))) (sym (same-lives s task));
  on_waiter = λ task on h. s.waiters task ∙ is.on_waiter task on (subst (λ k. 0 < k) (same-wakeups s task on) h);
  stays = λ task on l w h. same-wakeups s task on ∙ is.stays task on (sym (same-lives s task) ∙ l) (sym (s.waiters task) ∙ w) (sym (s.pends on) ∙ h);
}
  where
    at_same : (task : ℕ) (w : Option ℕ) → wakeups_at q task w ≡ wakeups_at p task w
    at_same task None = refl
    at_same task (Some on) = same-wakeups s task on

    ways_same : (task : ℕ) → ways q task ≡ ways p task
    ways_same task =
        ap (λ w. steps_among task q.pending + wakeups_at q task w) (s.waiters task)
        ∙ ap (λ n. steps_among task q.pending + n) (at_same task (waiter_of p task))
        ∙ ap (λ n. n + wakeups_at p task (waiter_of p task)) (s.pending (steps task) (follow_steps task))

pub same_owns : (p q : Parts) → LooksSame p q → OwnsFutures p → OwnsFutures q
same_owns p q s owns id task = (λ h. s.owned task ∙ (owns id task).0 (sym (s.owners id) ∙ h), λ h. s.owners id ∙ (owns id task).1 (sym (s.owned task) ∙ h))

pub same_settled : (p q : Parts) → LooksSame p q → AreSettled p → AreSettled q
same_settled p q s settled id h = s.callbacks id ∙ settled id (sym (s.pends id) ∙ h)

pub same_callbacks : (p q : Parts) → LooksSame p q → AreCallbacks p → AreCallbacks q
same_callbacks p q s are id = ap (count_by is_no_callback) (s.callbacks id) ∙ are id

pub same_ready : (p q : Parts) → LooksSame p q → IsReady p → IsReady q
same_ready p q s is = record {
  free = λ task h. s.waiters task ∙ is.free task (subst (λ n. 0 < n) (s.pending (resumes task) (follow_resumes task)) h);
  woken = λ task h.
      let x = is.woken task (subst (λ n. 0 < n) (s.pending (wakes task) (follow_wakes task)) h) in
      (x.0, s.waiters task ∙ x.1, s.pends x.0 ∙ x.2);
}

pub same_no_cycle : (p q : Parts) → LooksSame p q → HasNoCycle p → HasNoCycle q
same_no_cycle p q s none = no_cycle_kept p q (λ x. passes-same p q x (s.passing x p) s.waiters) none

pub same_may : (running : Option ℕ) (p q : Parts) → LooksSame p q → (task : ℕ) → MayKeepMustCancel running p task → MayKeepMustCancel running q task
same_may running p q s task (inl r) = inl r
same_may running p q s task (inr (inl h)) = inr (inl (subst (λ n. 0 < n) (sym (s.pending (steps task) (follow_steps task))) h))
same_may running p q s task (inr (inr w)) = inr (inr (w.0, s.waiters task ∙ w.1, s.pends w.0 ∙ w.2, same-spent s w.0 w.3))

-- no more tasks must cancel
pub same_must_cancel : (running : Option ℕ) (p q : Parts) → LooksSame p q → ((task : ℕ) → must_cancel_of q task ≡ true → must_cancel_of p task ≡ true)
    → MustCancelWaits running p
    → MustCancelWaits running q
same_must_cancel running p q s fewer marks task l m = same_may running p q s task (marks task (sym (same-lives s task) ∙ l) (fewer task m))

-- ---- changes that look the same: a count or must_cancel of a task, and that a future was asked
pub change_task-pending : (id : ℕ) (change : Task → Task) (p : Parts) → (change_task id change p).pending ≡ p.pending
change_task-pending id change p = at (slice_get p.tasks id)
  where
    at : (o : Option Task) → (option_map_or (λ (t : Task). record p { tasks = slice_set p.tasks id (change t) }) o p).pending ≡ p.pending
    at None = refl
    at (Some task) = refl

-- the futures are the same ones
pub futures_look_same : (p q : Parts) → q.futures ≡ p.futures → length q.tasks ≡ length p.tasks
    → ((test : Action → Bool) → Follows test → pending_where test q.pending ≡ pending_where test p.pending)
    → ((task : ℕ) → waiter_of q task ≡ waiter_of p task) → ((task : ℕ) → own_future q task ≡ own_future p task)
    → LooksSame p q
futures_look_same p q fs tasks pending waiters owned = record {
  pending = pending;
  made = ap length fs;
  tasks = tasks;
  outcomes = λ j. ap (λ (l : List Future). outcome_at (slice_get l j)) fs;
  pends = λ j. ap (λ (l : List Future). is_pending_at (slice_get l j)) fs;
  callbacks = λ j. ap (λ (l : List Future). callbacks_at (slice_get l j)) fs;
  owners = λ j. ap (λ (l : List Future). owner_at (slice_get l j)) fs;
  plains = λ j. ap (λ (l : List Future). is_plain_at (slice_get l j)) fs;
  spents = λ f j. ap (λ (l : List Future). spent_by f (slice_get l j) j) fs;
  passing = λ j r. ap (λ (l : List Future). passes_at (slice_get l j) j r) fs;
  waiters = waiters;
  owned = owned;
}

-- only handles change that step no task and tell no group
pub handles_look_same : (p q : Parts) → q.futures ≡ p.futures → q.tasks ≡ p.tasks
    → ((test : Action → Bool) → Follows test → pending_where test q.pending ≡ pending_where test p.pending) → LooksSame p q
handles_look_same p q fs ts pending =
    futures_look_same p q fs (ap length ts) pending
    (λ task. ap (λ (l : List Task). option_map_or (λ (t : Task). t.waiter) (slice_get l task) None) ts)
    (λ task. ap (λ (l : List Task). option_map (λ (t : Task). t.future) (slice_get l task)) ts)

pub change_looks_same : (id : ℕ) (change : Task → Task) (p : Parts) → ((t : Task) → (change t).waiter ≡ t.waiter)
    → ((t : Task) → (change t).future ≡ t.future) → LooksSame p (change_task id change p)
change_looks_same id change p waiter future =
    futures_look_same p (change_task id change p) (change_task-futures id change p) (length-change_task id change p)
    (λ test f. ap (pending_where test) (change_task-pending id change p))
    (λ task. change_task-kept (λ (o : Option Task). option_map_or (λ (t : Task). t.waiter) o None) id change p waiter task)
    (λ task. change_task-kept (option_map (λ (t : Task). t.future)) id change p (λ t. ap Some (future t)) task)

pub refl_looks : (p : Parts) → LooksSame p p
refl_looks p = handles_look_same p p refl refl (λ test f. refl)

pub looks_on : (p q r : Parts) → LooksSame q r → LooksSame p q → LooksSame p r
looks_on p q r b a = record {
  pending = λ test f. b.pending test f ∙ a.pending test f;
  made = b.made ∙ a.made;
  tasks = b.tasks ∙ a.tasks;
  outcomes = λ j. b.outcomes j ∙ a.outcomes j;
  pends = λ j. b.pends j ∙ a.pends j;
  callbacks = λ j. b.callbacks j ∙ a.callbacks j;
  owners = λ j. b.owners j ∙ a.owners j;
  plains = λ j. b.plains j ∙ a.plains j;
  spents = λ f j. b.spents f j ∙ a.spents f j;
  passing = λ j r. b.passing j r ∙ a.passing j r;
  waiters = λ t. b.waiters t ∙ a.waiters t;
  owned = λ t. b.owned t ∙ a.owned t;
}

pub asked_looks_same : (id : ℕ) (p : Parts) (future : Future) → slice_get p.futures id ≡ Some future → LooksSame p (mark_asked id p)
asked_looks_same id p future e = record {
  pending = λ test f. ap (λ (q : Parts). pending_where test q.pending) whole;
  made = ap length fs ∙ length-set p.futures id (asked_as future);
  tasks = ap length (mark_asked-tasks id p);
  outcomes = λ j. see outcome_at j refl;
  pends = λ j. see is_pending_at j refl;
  callbacks = λ j. see callbacks_at j refl;
  owners = λ j. see owner_at j (owner future.kind);
  plains = λ j. see is_plain_at j (plain future.kind);
  spents = λ f j. see (λ o. spent_by f o j) j (spent f j future.outcome future.kind);
  passing = λ j r. see (λ o. passes_at o j r) j (passes j r future.outcome future.kind);
  waiters = λ task. ap (λ (ts : List Task). option_map_or (λ (t : Task). t.waiter) (slice_get ts task) None) (mark_asked-tasks id p);
  owned = λ task. ap (λ (ts : List Task). option_map (λ (t : Task). t.future) (slice_get ts task)) (mark_asked-tasks id p);
}
  where
    whole : mark_asked id p ≡ with_future id (asked_as future) p
    whole = ap (λ (o : Option Future). option_map_or (λ (f : Future). with_future id (asked_as f) p) o p) e

    fs : (mark_asked id p).futures ≡ slice_set p.futures id (asked_as future)
    fs = mark_asked-futures id p future e

    see : {Y : Type 0} (f : Option Future → Y) (j : ℕ) → f (Some (asked_as future)) ≡ f (Some future)
        → f (slice_get (mark_asked id p).futures j) ≡ f (slice_get p.futures j)
    see f j same = ap (λ (l : List Future). f (slice_get l j)) fs ∙ get-set_kept f p.futures id j future (asked_as future) e same

    owner : (k : FutureKind) → owner_in (asked_kind k) ≡ owner_in k
    owner Plain = refl
    owner (OfTask task) = refl
    owner (Many members asked) = refl

    spent : (f : ℕ → Bool) (j : ℕ) (o : Option Outcome) (k : FutureKind) → spent_until f o (asked_kind k) j ≡ spent_until f o k j
    spent f j (Some outcome) k = refl
    spent f j None Plain = refl
    spent f j None (OfTask task) = refl
    spent f j None (Many members asked) = refl

    plain : (k : FutureKind) → is_plain_kind (asked_kind k) ≡ is_plain_kind k
    plain Plain = refl
    plain (OfTask task) = refl
    plain (Many members asked) = refl

    passes : (j : ℕ) (r : Parts) (o : Option Outcome) (k : FutureKind)
        → passes_until o (asked_kind k) j r ≡ passes_until o k j r
    passes j r (Some outcome) k = refl
    passes j r None Plain = refl
    passes j r None (OfTask task) = refl
    passes j r None (Many members asked) = refl
