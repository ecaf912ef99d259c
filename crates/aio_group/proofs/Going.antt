-- Parts go on by each operation.
use Rattle.std.proofs.Common.{◌≡◌, ℕ, zero, suc, ◌+◌, ◌-◌, ◌<◌, ◌⊎◌, Bool, true, false, List, [], ◌∷◌, ◌++◌, Option, Some, None, length, slice_get, slice_set}
use Rattle.std.proofs.Common.{refl, ap, sym, subst, ◌∙◌, inl, inr, arith, length-append}
use Rattle.std.proofs.Math.ListN.{length-set}
use Rattle.std.proofs.lemmas.Bool.{cases_eq, false≢true}
use Rattle.std.specs.Option.{option_map_or}
use Rattle.model_value.specs.Action.{Action}
use Rattle.model_value.specs.declared.action.Action.TheVariants.{GroupDone}
use Rattle.model_value.specs.declared.outcome.Outcome.TheVariants.{Failed}
use Rattle.model_value.specs.Value.{Outcome}
use Rattle.model_loop.specs.Cancel.{cancel}
use Rattle.model_loop.specs.Futures.{outcome_at, future_outcome, is_pending_at, is_pending, next_future, new_plain, register, settle}
use Rattle.model_loop.specs.Groups.{with_child}
use Rattle.model_loop.specs.Ledger.{Origin, request_where, request_each}
use Rattle.model_loop.specs.Owning.{owner_at}
use Rattle.model_loop.specs.Parts as plain
use Rattle.model_loop.specs.Parts.{OfTask, FutureKind, Future, Task, Parts, Profile}
use Rattle.model_loop.specs.Tasks.{future_of, lives, next_task, spawn, uncancel}
use Rattle.model_loop.proofs.FutureCases.{registered, registered_on}
use Rattle.law_cancel.proofs.Counting.{goes-done}
use Rattle.law_cancel.proofs.Lookups.{get_within, get-push_other, get-set_kept}
use Rattle.law_cancel.proofs.Trace.{goes-tasks}
use Rattle.law_steps.proofs.Looks.{future_of-same}
use Rattle.law_steps.proofs.Stepping.{uncancel_looks_same}
use Rattle.law_steps.proofs.Settling.{IsSettled, settle_cases}
use Rattle.law_steps.proofs.Spreading.{as_row, with_spread}
use Rattle.law_groups.proofs.Holding.{KeepsOwners, settled_names, looks_names, cancels_names}
use Rattle.aio_task.specs.View.{View, parts}
use Rattle.aio_group.specs.GoesOn.{PartsGoOn, Moves}

pub same_on : (p : Parts) → PartsGoOn p p
same_on p = record {
  tasks = omega arith;
  futures = omega arith;
  own = λ _ _. refl;
  owners = λ _ _. refl;
  failures = λ _ _ e. e;
}

pub then_on : (p q r : Parts) → PartsGoOn p q → PartsGoOn q r → PartsGoOn p r
then_on p q r a b =
    let at = a.tasks in
    let bt = b.tasks in
    let af = a.futures in
    let bf = b.futures in
    record {
      tasks = omega (arith, at, bt);
      futures = omega (arith, af, bf);
      own = λ task m. b.own task (omega (arith, m, at)) ∙ a.own task m;
      owners = λ id m. b.owners id (omega (arith, m, af)) ∙ a.owners id m;
      failures = λ id fault e. b.failures id fault (a.failures id fault e);
    }

-- a future that has an outcome is done
done_at : (o : Option Future) (outcome : Outcome) → outcome_at o ≡ Some outcome → is_pending_at o ≡ false
done_at None outcome e = refl
done_at (Some future) outcome e = rw e refl

-- where the same is made and what is done stays
pub named_on : (p q : Parts) → KeepsOwners p q → length q.tasks ≡ length p.tasks
    → ((id : ℕ) → is_pending p id ≡ false → future_outcome q id ≡ future_outcome p id) → PartsGoOn p q
named_on p q names tasks stay =
    let made = names.made in
    record {
      tasks = omega (arith, tasks);
      futures = omega (arith, made);
      own = λ task m. future_of-same p q names.made task (names.owned task);
      owners = λ id m. names.owners id;
      failures = λ id fault e. stay id (done_at (slice_get p.futures id) (Failed fault) e) ∙ e;
    }

pub cancel_on : (id : ℕ) (p : Parts) → PartsGoOn p (cancel id p).parts
cancel_on id p =
    let spread = with_spread id [] p in
    named_on p (cancel id p).parts (cancels_names spread) (goes-tasks (as_row spread))
    (λ j d. ap outcome_at (goes-done (as_row spread) j d))

pub request_where_on : (b : Bool) (by : Origin) (id : ℕ) (p : Parts) → PartsGoOn p (request_where b by id p).parts
request_where_on true by id p = cancel_on id p
request_where_on false by id p = same_on p

pub request_each_on : (by : Origin) (tasks : List ℕ) (p : Parts) → PartsGoOn p (request_each by tasks p).parts
request_each_on by [] p = same_on p
request_each_on by (task ∷ tasks) p =
    let first = (request_where (lives p task) by (future_of p task) p).parts in
    then_on p first (request_each by tasks first).parts
    (request_where_on (lives p task) by (future_of p task) p) (request_each_on by tasks first)

pub settle_on : (id : ℕ) (outcome : Outcome) (p : Parts) → PartsGoOn p (settle id outcome p)
settle_on id outcome p = settle_cases (PartsGoOn p) id outcome p (same_on p) settled
  where
    settled : (q : Parts) → IsSettled id p q → PartsGoOn p q
    settled q s = named_on p q (settled_names id p q s) (ap length s.tasks) (λ j d. stay j d (cases_eq id j))
      where
        stay : (j : ℕ) → is_pending p j ≡ false → (id ≡ j) ⊎ (id ≡ j → ⊥) → future_outcome q j ≡ future_outcome p j
        stay j d (inl same) = absurd (false≢true (sym d ∙ subst (λ i. is_pending p i ≡ true) same s.was))
        stay j d (inr n) = ap outcome_at (s.others j n)

pub uncancel_on : (profile : Profile) (task : ℕ) (p : Parts) → PartsGoOn p (uncancel profile task p)
uncancel_on profile task p =
    let looks = uncancel_looks_same profile task p in
    named_on p (uncancel profile task p) (looks_names p (uncancel profile task p) looks) looks.tasks (λ id d. looks.outcomes id)

-- ---- what is made
-- a future more
module _ (kind : FutureKind) (p : Parts) where
  abbrev made : Future
  made = record { kind = kind; outcome = None; callbacks = [] }

  longer : length (p.futures ++ made ∷ []) ≡ length p.futures + 1
  longer = length-append p.futures (made ∷ [])

  within_at : (id : ℕ) → id < length p.futures → slice_get (p.futures ++ made ∷ []) id ≡ slice_get p.futures id
  within_at id m = get-push_other p.futures made id (λ e. absurd (omega (arith, m, e)))

  outcome_on : (id : ℕ) (outcome : Outcome) → future_outcome p id ≡ Some outcome
      → outcome_at (slice_get (p.futures ++ made ∷ []) id) ≡ Some outcome
  outcome_on id outcome e = ap outcome_at (within_at id (there (slice_get p.futures id) refl e)) ∙ e
    where
      there : (o : Option Future) → slice_get p.futures id ≡ o → outcome_at o ≡ Some outcome → id < length p.futures
      there None g d = absurd (cc)
      there (Some future) g d = get_within p.futures id future g

-- a task that is there keeps its future, whatever the number of the next one is
pub own_there : (tasks : List Task) (task next other : ℕ) → task < length tasks
    → option_map_or (λ (t : Task). t.future) (slice_get tasks task) next
    ≡ option_map_or (λ (t : Task). t.future) (slice_get tasks task) other
own_there [] task next other m = absurd (omega arith)
own_there (t ∷ tasks) zero next other m = refl
own_there (t ∷ tasks) (suc task) next other m = own_there tasks task next other (omega arith)

pub new_plain_on : (p : Parts) → PartsGoOn p (new_plain p)
new_plain_on p =
    let l = longer plain.Plain p in
    record {
      tasks = omega arith;
      futures = omega (arith, l);
      own = λ task m. own_there p.tasks task (next_future (new_plain p)) (next_future p) m;
      owners = λ id m. ap owner_at (within_at plain.Plain p id m);
      failures = λ id fault e. outcome_on plain.Plain p id (Failed fault) e;
    }

pub spawn_on : (p : Parts) → PartsGoOn p (spawn p)
spawn_on p =
    let kind = OfTask (next_task p) in
    let task_of : Task = record { future = next_future p; waiter = None; cancels = 0; must_cancel = false } in
    let l = longer kind p in
    let n = length-append p.tasks (task_of ∷ []) in
    record {
      tasks = omega (arith, n);
      futures = omega (arith, l);
      own = λ task m.
          ap (λ o. option_map_or (λ (t : Task). t.future) o (next_future (spawn p)))
          (get-push_other p.tasks task_of task (λ e. absurd (omega (arith, m, e))))
          ∙ own_there p.tasks task (next_future (spawn p)) (next_future p) m;
      owners = λ id m. ap owner_at (within_at kind p id m);
      failures = λ id fault e. outcome_on kind p id (Failed fault) e;
    }

pub register_on : (id : ℕ) (action : Action) (p : Parts) → PartsGoOn p (register id action p)
register_on id action p = at (slice_get p.futures id) refl
  where
    until : (future : Future) → slice_get p.futures id ≡ Some future → (o : Option Outcome)
        → PartsGoOn p (registered_on o id future action p)
    until future e (Some done) = record {
      tasks = omega arith;
      futures = omega arith;
      own = λ _ _. refl;
      owners = λ _ _. refl;
      failures = λ _ _ h. h;
    }
    until future e None =
        let new : Future = record future { callbacks = future.callbacks ++ action ∷ [] } in
        let n = length-set p.futures id new in
        record {
          tasks = omega arith;
          futures = omega (arith, n);
          own = λ task m. own_there p.tasks task (length (slice_set p.futures id new)) (next_future p) m;
          owners = λ j m. get-set_kept owner_at p.futures id j future new e refl;
          failures = λ j fault h. get-set_kept outcome_at p.futures id j future new e refl ∙ h;
        }

    at : (o : Option Future) → slice_get p.futures id ≡ o → PartsGoOn p (registered o id action p)
    at None e = same_on p
    at (Some future) e = until future e future.outcome

pub with_child_on : (id : ℕ) (p : Parts) → PartsGoOn p (with_child id p)
with_child_on id p =
    then_on p (spawn p) (with_child id p) (spawn_on p) (register_on (next_future p) (GroupDone id (next_task p)) (spawn p))

-- ---- views
pub same_moves : (v : View) → Moves v v
same_moves v = record { goes_on = same_on (parts v); frame = refl }

pub then_moves : (v w x : View) → Moves v w → Moves w x → Moves v x
then_moves v w x a b = record {
  goes_on = then_on (parts v) (parts w) (parts x) a.goes_on b.goes_on;
  frame = b.frame ∙ ap (λ (y : View). record y { queue = x.queue; futures = x.futures; tasks = x.tasks }) a.frame;
}
