-- What each change of the loop leaves of tasks and futures: those that there were stay, and what is done stays done.
use Rattle.std.proofs.Common.{◌≡◌, ℕ, ◌≤◌, ◌<◌, ◌⊎◌, inl, inr, Bool, true, false, Option, None, filter, length, nat_le}
use Rattle.std.proofs.Common.{nat_lt, slice_get, refl, sym, ap, ◌∙◌, arith, List, []}
use Rattle.std.specs.Option.{option_map_or}
use Rattle.std.proofs.lemmas.Bool.{false≢true}
use Rattle.model_value.specs.declared.outcome.Outcome.TheVariants.{Value as Returned, Failed, Cancelled}
use Rattle.model_value.specs.Action.{Action}
use Rattle.model_value.specs.Input.{Input}
use Rattle.model_value.specs.Value.{Value, Exc, Outcome}
use Rattle.model_loop.specs.Cancel.{cancel}
use Rattle.model_loop.specs.Groups.{exit_begin, exit_woken}
use Rattle.model_loop.specs.Loop.{Loop}
use Rattle.model_loop.specs.Suspend.{suspend}
use Rattle.law_cancel.proofs.Effects.{soon_all-futures, soon_all-tasks}
use Rattle.law_changes.specs.Changes.{PartsChange, CallsSoon, CallsLater, Revokes, MakesFuture, Settles, Registers, KeepsAsked, MakesTask, WaitsFor}
use Rattle.law_changes.specs.Changes.{SetsMustCancel, ClearsMustCancel, Counts, Uncounts, Passes, FallsDue, LeavesPending, MayInParts, made_of_parts}
use Rattle.law_changes.specs.Reaches.{PartsReach}
use Rattle.law_changes.proofs.LoopRows.{exit_begin_row, exit_woken_row, suspend_row}
use Rattle.law_changes.proofs.Parts.{parts_of}
use Rattle.law_changes.proofs.PartsRows.{cancel_row}
use Rattle.law_changes.proofs.Folds.{fold}
use Rattle.model_loop.specs.Futures.{is_pending, is_pending_at, next_future}
use Rattle.model_loop.specs.Handles.{due, by_deadline, soon_all}
use Rattle.model_loop.specs.Owning.{OwnsFutures}
use Rattle.model_loop.specs.Parts.{Future, Parts, Profile, One, Task, Timer}
use Rattle.model_loop.specs.Tasks.{future_of, lives, next_task, uncancel}
use Rattle.law_turns.specs.After.{IsAfter, OutcomeIn}
use Rattle.law_turns.proofs.Made.{asked_after, make_after, register_after, spawn_after}
use Rattle.law_turns.proofs.Parts.{change_after, settle_after}
use Rattle.law_replies.proofs.Counts.{own_there}
use Rattle.law_changes.proofs.Falling.{fall_due-futures}
use Rattle.law_promises.specs.Done.{IsDone}
use Rattle.law_groups.proofs.Due.{due-tasks}

-- tasks and futures stay, and what is done stays so
pub record IsLater (p q : Parts) : Type 0 where
  pub tasks : next_task p ≤ next_task q
  pub futures : next_future p ≤ next_future q
  pub owned : (task : ℕ) → task < next_task p → future_of q task ≡ future_of p task
  pub pends : (id : ℕ) → id < next_future p → is_pending q id ≡ true → is_pending p id ≡ true

pub later_then : (p q r : Parts) → IsLater p q → IsLater q r → IsLater p r
later_then p q r a b = record {
  tasks = let x = a.tasks in let y = b.tasks in omega (arith, x, y);
  futures = let x = a.futures in let y = b.futures in omega (arith, x, y);
  owned = λ task h. let n = a.tasks in b.owned task (omega (arith, h, n)) ∙ a.owned task h;
  pends = λ id h l. let n = a.futures in a.pends id h (b.pends id (omega (arith, h, n)) l);
}

pub later_same : (p q : Parts) → q.futures ≡ p.futures → q.tasks ≡ p.tasks → IsLater p q
later_same p q fs ts = record {
  tasks = let x : next_task q ≡ next_task p = ap length ts in omega (arith, x);
  futures = let x : next_future q ≡ next_future p = ap length fs in omega (arith, x);
  owned = λ task h.
      ap (λ (l : List Task). option_map_or (λ (t : Task). t.future) (slice_get l task) (next_future q)) ts
      ∙ ap (λ (l : List Future). option_map_or (λ (t : Task). t.future) (slice_get p.tasks task) (length l)) fs;
  pends = λ id h l. sym (ap (λ (l : List Future). is_pending_at (slice_get l id)) fs) ∙ l;
}

pub later_refl : (p : Parts) → IsLater p p
later_refl p = later_same p p refl refl

-- a task that is done stays so
pub stays_done : (p q : Parts) → IsLater p q → OwnsFutures p → (task : ℕ) → IsDone p task → IsDone q task
stays_done p q a owns task is = record { made = let x = is.made in let y = a.tasks in omega (arith, x, y); over = at (lives q task) refl }
  where
    at : (b : Bool) → lives q task ≡ b → b ≡ false
    at false e = refl
    at true e =
        absurd (false≢true (sym is.over
        ∙ a.pends (future_of p task) (own_there p owns task is.made) (sym (ap (is_pending q) (a.owned task is.made)) ∙ e)))

-- ---- what the frames of the loop tell of it
abbrev pub any : Value → Bool
any value = true

pub later_of : (grown : Bool) (excused : Option ℕ) (p q : Parts) → IsAfter any grown excused p q → IsLater p q
later_of grown excused p q a = record { tasks = a.tasks; futures = a.futures; owned = a.owned; pends = λ id h l. at id h (a.pends id l) }
  where
    at : (id : ℕ) → id < next_future p → (is_pending p id ≡ true) ⊎ (next_future p ≤ id) → is_pending p id ≡ true
    at id h (inl x) = x
    at id h (inr x) = absurd (omega (arith, h, x))

any_outcome : (outcome : Outcome) → OutcomeIn any outcome
any_outcome (Returned value) = refl
any_outcome (Failed fault) = tt
any_outcome Cancelled = tt

pub later_due : (p : Parts) → IsLater p (due p)
later_due p =
    let ready = by_deadline (filter (λ (timer : Timer). nat_le timer.when p.time) p.timers) in
    let rest = record p { timers = filter (λ (timer : Timer). nat_lt p.time timer.when) p.timers } in
    later_same p (due p) (fall_due-futures ready rest) (due-tasks p)

-- ---- one change, and a row of them
pub later_change : (r : Option ℕ) (change : PartsChange) (p : Parts) → MayInParts r change p → IsLater p (made_of_parts change p)
later_change r (MakesFuture kind) p may = later_of false None p _ (make_after any false None p kind)
later_change r (Settles future outcome) p may = later_of false None p _ (settle_after any false None future outcome p (any_outcome outcome))
later_change r (Registers future action) p may = later_of false None p _ (register_after any false None future action p may)
later_change r (KeepsAsked future) p may = later_of false None p _ (asked_after any false None future p)
later_change r MakesTask p may = later_of true None p _ (spawn_after any None p)
later_change r (WaitsFor task on) p may = later_of false None p _ (change_after any false None task _ p (λ t. refl))
later_change r (SetsMustCancel task) p may = later_of false None p _ (change_after any false None task _ p (λ t. refl))
later_change r (ClearsMustCancel task) p may = later_of false None p _ (change_after any false None task _ p (λ t. refl))
later_change r (Counts task) p may = later_of false None p _ (change_after any false None task _ p (λ t. refl))
later_change r (Uncounts profile task) p may = later_of false None p _ (change_after any false None task _ p (λ t. refl))
later_change r FallsDue p may = later_due p
later_change r (CallsSoon action) p may = later_same _ _ refl refl
later_change r (CallsLater when action) p may = later_same _ _ refl refl
later_change r (Revokes tag) p may = later_same _ _ refl refl
later_change r (Passes now) p may = later_same _ _ refl refl
later_change r (LeavesPending rest) p may = later_same _ _ refl refl

pub later_row : {r : Option ℕ} {p q : Parts} → PartsReach r p q → IsLater p q
later_row row = fold IsLater later_refl later_then (later_change _) row

-- ---- by their operations, for the laws that are not told by rows so far
pub later_uncancel : (profile : Profile) (task : ℕ) (p : Parts) → IsLater p (uncancel profile task p)
later_uncancel profile task p = later_change None (Uncounts profile task) p tt

pub later_cancel : (id : ℕ) (p : Parts) → IsLater p (cancel id p).parts
later_cancel id p = later_row (cancel_row None id p)

pub later_suspend : (task on : ℕ) (p : Parts) → IsLater p (suspend task on p).parts
later_suspend task on p = later_row (parts_of (suspend_row task on (record { parts = p; timeouts = []; groups = []; ledger = []; profile = One })))

pub later_exit_begin : (raised : Option Exc) (id : ℕ) (l : Loop) → IsLater l.parts (exit_begin raised id l).loop.parts
later_exit_begin raised id l = later_row (parts_of (exit_begin_row None raised id l))

pub later_exit_woken : (input : Input) (id : ℕ) (l : Loop) → IsLater l.parts (exit_woken input id l).loop.parts
later_exit_woken input id l = later_row (parts_of (exit_woken_row None input id l))

pub later_soon_all : (actions : List Action) (p : Parts) → IsLater p (soon_all actions p)
later_soon_all actions p = later_same p (soon_all actions p) (soon_all-futures actions p) (soon_all-tasks actions p)
