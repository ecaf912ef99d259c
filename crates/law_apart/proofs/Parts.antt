-- Each change of the loop's parts leaves the futures that it doesn't hold, but for cancels.
use Rattle.std.proofs.Common.{◌≡◌, ◌⊎◌, inl, inr, ℕ, ◌+◌, ◌-◌, ◌<◌, ◌≤◌, Bool, true, false, List, [], ◌∷◌, ◌++◌, Option, Some, None, length, map}
use Rattle.std.proofs.Common.{slice_get, slice_set, refl, sym, ap, subst, ◌∙◌, arith, le_refl, length-append}
use Rattle.std.proofs.Math.ListN.{length-set}
use Rattle.std.specs.Prelude.{not, ◌==◌, ◌||◌, filter, nat_le, nat_lt, if◌then◌else◌}
use Rattle.std.specs.List.{AllByRecursion as Each, list_any}
use Rattle.std.specs.Option.{option_map_or}
use Rattle.std.proofs.lemmas.Bool.{cases_eq, or_parts, true≢false}
use Rattle.std.proofs.lemmas.List.Folds.{list_any-append}
use Rattle.model_value.specs.Action.{Action}
use Rattle.model_value.specs.declared.action.Action.TheVariants as action
use Rattle.model_value.specs.declared.outcome.Outcome.TheVariants.{Cancelled}
use Rattle.model_value.specs.Value.{Outcome}
use Rattle.model_loop.specs.Futures.{asked_kind, future_outcome, make_future, mark_asked, next_future, outcome_at, register, settle, with_future}
use Rattle.model_loop.specs.Handles.{by_deadline, cancelled_if, due, fall_due, later, placed, revoke, soon, soon_all}
use Rattle.model_loop.specs.Parts.{Future, FutureKind, Handle, OfTask, Parts, Task, Timer}
use Rattle.model_loop.specs.Tasks.{change_task, must_still_cancel, next_task, one_more, spawn}
use Rattle.model_loop.proofs.FutureCases.{registered, registered_on, settled, settled_as}
use Rattle.law_cancel.proofs.Effects.{done_as, settle-futures}
use Rattle.law_cancel.proofs.Lookups.{get-push_other, get-set_kept, get-set_same}
use Rattle.law_steps.proofs.Settling.{settle_cases}
use Rattle.law_changes.specs.Changes.{CallsLater, CallsSoon, ClearsMustCancel, Counts, FallsDue, KeepsAsked, LeavesPending, MakesFuture, MakesTask, PartsChange}
use Rattle.law_changes.specs.Changes.{Passes, Registers, Revokes, SetsMustCancel, Settles, Uncounts, WaitsFor, made_of_parts}
use Rattle.law_sync.proofs.Lists.{each_append, each_at, each_filter, each_on, each_set}
use Rattle.law_apart.specs.Apart.{ArePartsApart, CallsNoSleep, EndsTheirs, HandleApart, IsTheirs, Leaves, StaysOrIsCancelled, TaskApart, TimerApart, ends_sleep}

-- ---- outcomes
pub settle_others : (id : ℕ) (outcome : Outcome) (p : Parts) (on : ℕ) → (id ≡ on → ⊥) → future_outcome (settle id outcome p) on ≡ future_outcome p on
settle_others id outcome p on other =
    settle_cases (λ q. future_outcome q on ≡ future_outcome p on) id outcome p refl (λ q so. ap outcome_at (so.others on other))

pub settle_made : (id : ℕ) (outcome : Outcome) (p : Parts) → next_future (settle id outcome p) ≡ next_future p
settle_made id outcome p = settle_cases (λ q. next_future q ≡ next_future p) id outcome p refl (λ q so. so.made)

cancel_stays : (id : ℕ) (p : Parts) → StaysOrIsCancelled p (settle id Cancelled p) id
cancel_stays id p = at (slice_get p.futures id) refl
  where
    until : (future : Future) → slice_get p.futures id ≡ Some future → (o : Option Outcome) → future.outcome ≡ o
        → StaysOrIsCancelled p (settled_as o id future Cancelled p) id
    until future e (Some done) o = inl refl
    until future e None o =
        subst (λ q. StaysOrIsCancelled p q id) (ap (λ x. settled_as x id future Cancelled p) o)
        (subst (λ q. StaysOrIsCancelled p q id) (ap (λ f. settled f id Cancelled p) e)
        (inr (
          ap outcome_at e ∙ o,
          ap (λ (fs : List Future). outcome_at (slice_get fs id)) (settle-futures id Cancelled p future e o)
              ∙ ap outcome_at (get-set_same p.futures id future (done_as Cancelled future) e),
        )))

    at : (o : Option Future) → slice_get p.futures id ≡ o → StaysOrIsCancelled p (settled o id Cancelled p) id
    at None e = inl refl
    at (Some future) e = until future e future.outcome refl

-- two things, one after the other
pub stays_then : (p q r : Parts) (on : ℕ) → StaysOrIsCancelled p q on → StaysOrIsCancelled q r on → StaysOrIsCancelled p r on
stays_then p q r on (inl a) (inl b) = inl (b ∙ a)
stays_then p q r on (inl a) (inr b) = inr (sym a ∙ b.0, b.1)
stays_then p q r on (inr a) (inl b) = inr (a.0, b ∙ a.1)
stays_then p q r on (inr a) (inr b) = inr (a.0, b.1)

pub leaves_then : (ours : ℕ → Bool) (p q r : Parts) → Leaves ours p q → Leaves ours q r → Leaves ours p r
leaves_then ours p q r a b = record {
  more = let x = a.more in let y = b.more in omega (arith, x, y);
  stay = λ future is. stays_then p q r future (a.stay future is) (b.stay future is);
}

-- ---- of more futures
pub theirs_more : (ours : ℕ → Bool) (next later_ : ℕ) → next ≤ later_ → (future : ℕ) → IsTheirs ours next future → IsTheirs ours later_ future
theirs_more ours next later_ le future is = (is.0, let l = is.1 in omega (arith, l, le))

ends_more : (ours : ℕ → Bool) (next later_ : ℕ) → next ≤ later_ → (it : Action) → EndsTheirs ours next it → EndsTheirs ours later_ it
ends_more ours next later_ le (action.SleepDone task future) is = theirs_more ours next later_ le future is
ends_more ours next later_ le _ is = tt

pub no_sleep : (ours : ℕ → Bool) (next : ℕ) (it : Action) → ends_sleep it ≡ false → EndsTheirs ours next it
no_sleep ours next (action.SleepDone task future) none = absurd (true≢false none)
no_sleep ours next _ none = tt

module _ (ours : ℕ → Bool) (made : ℕ) (below : (future : ℕ) → ours future ≡ true → future < made) where
  abbrev Apart : Parts → Type 0
  Apart p = ArePartsApart ours made p

  pub record Both (p q : Parts) : Type 0 where
    pub apart : ArePartsApart ours made q
    pub leaves : Leaves ours p q

  abbrev pub Theirs : Parts → ℕ → Type 0
  Theirs p future = IsTheirs ours (next_future p) future

  both_then : (p q r : Parts) → Both p q → (Apart q → Both q r) → Both p r
  both_then p q r a next = let b = next a.apart in record { apart = b.apart; leaves = leaves_then ours p q r a.leaves b.leaves }

  same_leaves : (p q : Parts) → q.futures ≡ p.futures → Leaves ours p q
  same_leaves p q same = record {
    more = let e = ap (λ (fs : List Future). length fs) same in omega (arith, e);
    stay = λ future is. inl (ap (λ (fs : List Future). outcome_at (slice_get fs future)) same);
  }

  -- nothing of it changes but the time, say
  pub both_same : (p : Parts) → Apart p → Both p p
  both_same p a = record { apart = a; leaves = same_leaves p p refl }

  soon_both : (it : Action) (p : Parts) → EndsTheirs ours (next_future p) it → Apart p → Both p (soon it p)
  soon_both it p fine a = record {
    apart = record {
      reached = a.reached;
      pending = each_append (HandleApart ours (next_future p)) p.pending
          (record { stamp = p.next_stamp; tag = p.next_tag; action = it; dead = false } ∷ []) a.pending (fine, tt);
      timers = a.timers;
      callbacks = a.callbacks;
      tasks = a.tasks;
    };
    leaves = same_leaves p (soon it p) refl;
  }

  pub soon_all_both : (all : List Action) (p : Parts) → list_any ends_sleep all ≡ false → Apart p → Both p (soon_all all p)
  soon_all_both [] p none a = both_same p a
  soon_all_both (it ∷ all) p none a =
      let parts = or_parts (ends_sleep it) (list_any ends_sleep all) none in
      both_then p (soon it p) (soon_all all (soon it p)) (soon_both it p (no_sleep ours (next_future p) it parts.0) a)
      (λ b. soon_all_both all (soon it p) parts.1 b)

  later_both : (when : ℕ) (it : Action) (p : Parts) → EndsTheirs ours (next_future p) it → Apart p → Both p (later when it p)
  later_both when it p fine a = record {
    apart = record {
      reached = a.reached;
      pending = a.pending;
      timers = each_append (TimerApart ours (next_future p)) p.timers (record { when = when; tag = p.next_tag; action = it } ∷ []) a.timers (fine, tt);
      callbacks = a.callbacks;
      tasks = a.tasks;
    };
    leaves = same_leaves p (later when it p) refl;
  }

  each_cancelled : (next tag : ℕ) (handles : List Handle) → Each (HandleApart ours next) handles
      → Each (HandleApart ours next) (map (cancelled_if tag) handles)
  each_cancelled next tag [] all = tt
  each_cancelled next tag (handle ∷ handles) all = (at (handle.tag == tag), each_cancelled next tag handles all.1)
    where
      at : (b : Bool) → HandleApart ours next (if b then record handle { dead = true } else handle)
      at true = all.0
      at false = all.0

  revoke_both : (tag : ℕ) (p : Parts) → Apart p → Both p (revoke tag p)
  revoke_both tag p a = record {
    apart = record {
      reached = a.reached;
      pending = each_cancelled (next_future p) tag p.pending a.pending;
      timers = each_filter (TimerApart ours (next_future p)) (λ (timer : Timer). not (timer.tag == tag)) p.timers a.timers;
      callbacks = a.callbacks;
      tasks = a.tasks;
    };
    leaves = same_leaves p (revoke tag p) refl;
  }

  -- ---- futures
  -- others of them, as many or more
  apart_later : (p : Parts) (futures : List Future) → length p.futures ≤ length futures → Each CallsNoSleep futures → Apart p
      → Apart (record p { futures = futures })
  apart_later p futures le all a = record {
    reached = let r = a.reached in omega (arith, r, le);
    pending = each_on (HandleApart ours (length p.futures)) (HandleApart ours (length futures))
        (λ handle is. ends_more ours (length p.futures) (length futures) le handle.action is) p.pending a.pending;
    timers = each_on (TimerApart ours (length p.futures)) (TimerApart ours (length futures))
        (λ timer is. ends_more ours (length p.futures) (length futures) le timer.action is) p.timers a.timers;
    callbacks = all;
    tasks = each_on (TaskApart ours (length p.futures)) (TaskApart ours (length futures))
        (λ task is. theirs_more ours (length p.futures) (length futures) le task.future is) p.tasks a.tasks;
  }

  make_both : (kind : FutureKind) (p : Parts) → Apart p → Both p (make_future kind p)
  make_both kind p a =
      let new : Future = record { kind = kind; outcome = None; callbacks = [] } in
      let more = length-append p.futures (new ∷ []) in
      record {
        apart = apart_later p (p.futures ++ new ∷ []) (omega (arith, more)) (each_append CallsNoSleep p.futures (new ∷ []) a.callbacks (refl, tt)) a;
        leaves = record {
          more = omega (arith, more);
          stay = λ future is. inl (ap outcome_at (get-push_other p.futures new future
              (λ same. let l = below future is in let r = a.reached in absurd (omega (arith, l, r, same)))));
        };
      }

  -- one future changes, and calls no sleep
  set_apart : (id : ℕ) (new : Future) (p : Parts) → CallsNoSleep new → Apart p → Apart (with_future id new p)
  set_apart id new p fine a =
      let same = length-set p.futures id new in
      apart_later p (slice_set p.futures id new) (omega (arith, same)) (each_set CallsNoSleep p.futures id new a.callbacks fine) a

  pub settle_apart : (id : ℕ) (outcome : Outcome) (p : Parts) → Apart p → Apart (settle id outcome p)
  settle_apart id outcome p a = at (slice_get p.futures id) refl
    where
      until : (future : Future) → slice_get p.futures id ≡ Some future → (o : Option Outcome) → Apart (settled_as o id future outcome p)
      until future e (Some done) = a
      until future e None =
          (soon_all_both future.callbacks (with_future id (record future { outcome = Some outcome; callbacks = [] }) p)
          (each_at CallsNoSleep p.futures id future e a.callbacks)
          (set_apart id (record future { outcome = Some outcome; callbacks = [] }) p refl a)).apart

      at : (o : Option Future) → slice_get p.futures id ≡ o → Apart (settled o id outcome p)
      at None e = a
      at (Some future) e = until future e future.outcome

  settle_leaves : (id : ℕ) (outcome : Outcome) (p : Parts) → (ours id ≡ false) ⊎ (outcome ≡ Cancelled) → Leaves ours p (settle id outcome p)
  settle_leaves id outcome p fine = record {
    more = settle_cases (λ q. next_future p ≤ next_future q) id outcome p (le_refl _) (λ q so. let m = so.made in omega (arith, m));
    stay = λ future is. at future is (cases_eq id future) fine;
  }
    where
      at : (future : ℕ) → ours future ≡ true → (id ≡ future) ⊎ (id ≡ future → ⊥) → (ours id ≡ false) ⊎ (outcome ≡ Cancelled)
          → StaysOrIsCancelled p (settle id outcome p) future
      at future is (inr other) fine = inl (settle_others id outcome p future other)
      at future is (inl same) (inl theirs) = absurd (true≢false (sym is ∙ ap ours (sym same) ∙ theirs))
      at future is (inl same) (inr cancelled) =
          subst (λ o. StaysOrIsCancelled p (settle id o p) future) (sym cancelled)
          (subst (λ f. StaysOrIsCancelled p (settle id Cancelled p) f) same (cancel_stays id p))

  -- the same outcome, and callbacks that end no sleep
  set_both : (id : ℕ) (old new : Future) (p : Parts) → slice_get p.futures id ≡ Some old → new.outcome ≡ old.outcome → CallsNoSleep new → Apart p
      → Both p (with_future id new p)
  set_both id old new p found same fine a = record {
    apart = set_apart id new p fine a;
    leaves = record {
      more = let e = length-set p.futures id new in omega (arith, e);
      stay = λ future is. inl (get-set_kept outcome_at p.futures id future old new found same);
    };
  }

  register_both : (id : ℕ) (it : Action) (p : Parts) → ends_sleep it ≡ false → Apart p → Both p (register id it p)
  register_both id it p none a = at (slice_get p.futures id) refl
    where
      until : (future : Future) → slice_get p.futures id ≡ Some future → (o : Option Outcome) → Both p (registered_on o id future it p)
      until future e (Some done) = soon_both it p (no_sleep ours (next_future p) it none) a
      until future e None =
          set_both id future (record future { callbacks = future.callbacks ++ it ∷ [] }) p e refl
          (list_any-append ends_sleep future.callbacks (it ∷ [])
          ∙ ap (λ b. b || list_any ends_sleep (it ∷ [])) (each_at CallsNoSleep p.futures id future e a.callbacks) ∙ ap (λ b. b || false) none) a

      at : (o : Option Future) → slice_get p.futures id ≡ o → Both p (registered o id it p)
      at None e = both_same p a
      at (Some future) e = until future e future.outcome

  mark_both : (id : ℕ) (p : Parts) → Apart p → Both p (mark_asked id p)
  mark_both id p a = at (slice_get p.futures id) refl
    where
      at : (o : Option Future) → slice_get p.futures id ≡ o
          → Both p (option_map_or (λ (future : Future). with_future id (record future { kind = asked_kind future.kind }) p) o p)
      at None e = both_same p a
      at (Some future) e =
          set_both id future (record future { kind = asked_kind future.kind }) p e refl (each_at CallsNoSleep p.futures id future e a.callbacks) a

  -- ---- tasks
  task_both : (id : ℕ) (change : Task → Task) (p : Parts) → ((task : Task) → (change task).future ≡ task.future) → Apart p
      → Both p (change_task id change p)
  task_both id change p keeps a = at (slice_get p.tasks id) refl
    where
      at : (o : Option Task) → slice_get p.tasks id ≡ o
          → Both p (option_map_or (λ (task : Task). record p { tasks = slice_set p.tasks id (change task) }) o p)
      at None e = both_same p a
      at (Some task) e = record {
        apart = record {
          reached = a.reached;
          pending = a.pending;
          timers = a.timers;
          callbacks = a.callbacks;
          tasks = each_set (TaskApart ours (next_future p)) p.tasks id (change task) a.tasks
              (subst (IsTheirs ours (next_future p)) (sym (keeps task)) (each_at (TaskApart ours (next_future p)) p.tasks id task e a.tasks));
        };
        leaves = same_leaves p (record p { tasks = slice_set p.tasks id (change task) }) refl;
      }

  -- a new future is none of ours
  pub new_theirs : (p : Parts) → Apart p → (next : ℕ) → next_future p < next → IsTheirs ours next (next_future p)
  new_theirs p a next more = (at (ours (next_future p)) refl, more)
    where
      at : (b : Bool) → ours (next_future p) ≡ b → ours (next_future p) ≡ false
      at true is = let l = below (next_future p) is in let r = a.reached in absurd (omega (arith, l, r))
      at false is = is

  spawn_both : (p : Parts) → Apart p → Both p (spawn p)
  spawn_both p a =
      let m = make_future (OfTask (next_task p)) p in
      let more = length-append p.futures (record { kind = OfTask (next_task p); outcome = None; callbacks = [] } ∷ []) in
      let new : Task = record { future = next_future p; waiter = None; cancels = 0; must_cancel = false } in
      both_then p m (spawn p) (make_both (OfTask (next_task p)) p a) (λ b.
      both_then m (record m { tasks = p.tasks ++ new ∷ [] }) (spawn p) (record {
        apart = record {
          reached = b.reached;
          pending = b.pending;
          timers = b.timers;
          callbacks = b.callbacks;
          tasks = each_append (TaskApart ours (next_future m)) p.tasks (new ∷ []) b.tasks (new_theirs p a (next_future m) (omega (arith, more)), tt);
        };
        leaves = same_leaves m (record m { tasks = p.tasks ++ new ∷ [] }) refl;
      }) (λ c. soon_both (action.Step (next_task p)) (record m { tasks = p.tasks ++ new ∷ [] }) tt c))

  -- ---- what falls due
  placed_all : (next : ℕ) (timer : Timer) (timers : List Timer) → TimerApart ours next timer → Each (TimerApart ours next) timers
      → Each (TimerApart ours next) (placed timer timers)
  placed_all next timer [] is all = (is, tt)
  placed_all next timer (other ∷ others) is all = at (nat_lt other.when timer.when) (placed_all next timer others is all.1)
    where
      at : (b : Bool) → Each (TimerApart ours next) (placed timer others)
          → Each (TimerApart ours next) (if b then other ∷ placed timer others else timer ∷ other ∷ others)
      at true rest = (all.0, rest)
      at false rest = (is, all)

  sorted_all : (next : ℕ) (timers : List Timer) → Each (TimerApart ours next) timers → Each (TimerApart ours next) (by_deadline timers)
  sorted_all next [] all = tt
  sorted_all next (timer ∷ timers) all = placed_all next timer (by_deadline timers) all.0 (sorted_all next timers all.1)

  fall_both : (timers : List Timer) (p : Parts) → Each (TimerApart ours (next_future p)) timers → Apart p → Both p (fall_due timers p)
  fall_both [] p all a = both_same p a
  fall_both (timer ∷ timers) p all a =
      let handle : Handle = record { stamp = p.next_stamp; tag = timer.tag; action = timer.action; dead = false } in
      let q = record p { pending = p.pending ++ handle ∷ []; next_stamp = p.next_stamp + 1 } in
      both_then p q (fall_due timers q) (record {
        apart = record {
          reached = a.reached;
          pending = each_append (HandleApart ours (next_future p)) p.pending (handle ∷ []) a.pending (all.0, tt);
          timers = a.timers;
          callbacks = a.callbacks;
          tasks = a.tasks;
        };
        leaves = same_leaves p q refl;
      }) (λ b. fall_both timers q all.1 b)

  due_both : (p : Parts) → Apart p → Both p (due p)
  due_both p a =
      let left = record p { timers = filter (λ (timer : Timer). nat_lt p.time timer.when) p.timers } in
      both_then p left (due p) (record {
        apart = record {
          reached = a.reached;
          pending = a.pending;
          timers = each_filter (TimerApart ours (next_future p)) (λ (timer : Timer). nat_lt p.time timer.when) p.timers a.timers;
          callbacks = a.callbacks;
          tasks = a.tasks;
        };
        leaves = same_leaves p left refl;
      }) (λ b. fall_both (by_deadline (filter (λ (timer : Timer). nat_le timer.when p.time) p.timers)) left
      (sorted_all (next_future p) (filter (λ (timer : Timer). nat_le timer.when p.time) p.timers)
      (each_filter (TimerApart ours (next_future p)) (λ (timer : Timer). nat_le timer.when p.time) p.timers a.timers)) b)

  -- ---- each change
  abbrev pub MayBe : PartsChange → Parts → Type 0
  MayBe (CallsSoon it) p = EndsTheirs ours (next_future p) it
  MayBe (CallsLater when it) p = EndsTheirs ours (next_future p) it
  MayBe (Registers future it) p = ends_sleep it ≡ false
  MayBe (Settles future outcome) p = (ours future ≡ false) ⊎ (outcome ≡ Cancelled)
  MayBe (LeavesPending rest) p = (handle : Handle) × (p.pending ≡ handle ∷ rest)
  MayBe _ p = Unit {0}

  pub change_both : (change : PartsChange) (p : Parts) → MayBe change p → Apart p → Both p (made_of_parts change p)
  change_both (CallsSoon it) p may a = soon_both it p may a
  change_both (CallsLater when it) p may a = later_both when it p may a
  change_both (Revokes tag) p may a = revoke_both tag p a
  change_both (MakesFuture kind) p may a = make_both kind p a
  change_both (Settles future outcome) p may a = record { apart = settle_apart future outcome p a; leaves = settle_leaves future outcome p may }
  change_both (Registers future it) p may a = register_both future it p may a
  change_both (KeepsAsked future) p may a = mark_both future p a
  change_both MakesTask p may a = spawn_both p a
  change_both (WaitsFor task on) p may a = task_both task (λ it. record it { waiter = on }) p (λ it. refl) a
  change_both (SetsMustCancel task) p may a = task_both task (λ it. record it { must_cancel = true }) p (λ it. refl) a
  change_both (ClearsMustCancel task) p may a = task_both task (λ it. record it { must_cancel = false }) p (λ it. refl) a
  change_both (Counts task) p may a = task_both task (λ it. record it { cancels = one_more it.cancels }) p (λ it. refl) a
  change_both (Uncounts profile task) p may a =
      task_both task (λ it. record it { cancels = it.cancels - 1; must_cancel = must_still_cancel profile it }) p (λ it. refl) a
  change_both (Passes now) p may a = record {
    apart = record { reached = a.reached; pending = a.pending; timers = a.timers; callbacks = a.callbacks; tasks = a.tasks };
    leaves = same_leaves p (made_of_parts (Passes now) p) refl;
  }
  change_both FallsDue p may a = due_both p a
  change_both (LeavesPending rest) p may a = record {
    apart = record {
      reached = a.reached;
      pending = (subst (Each (HandleApart ours (next_future p))) may.1 a.pending).1;
      timers = a.timers;
      callbacks = a.callbacks;
      tasks = a.tasks;
    };
    leaves = same_leaves p (record p { pending = rest }) refl;
  }
