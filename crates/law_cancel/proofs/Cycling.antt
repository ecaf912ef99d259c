-- No step of the parts makes a cycle: a request, an outcome and a callback add no pass, and a wait adds one pass, which
-- isn't part of a cycle where the wait wasn't refused.
use Rattle.std.proofs.Common.{◌≡◌, ◌≢◌, ℕ, ◌⊎◌, Bool, true, false, cond, ◌||◌, ◌==◌, List, [], ◌∷◌, ◌++◌, Option, Some, None, nat_eq, option_map, slice_get}
use Rattle.std.proofs.Common.{slice_set, refl, ap, sym, ◌∙◌, inl, inr}
use Rattle.std.specs.List.{list_any}
use Rattle.std.specs.Option.{option_map_or, option_to_list}
use Rattle.std.proofs.lemmas.Bool.{cases_eq, eqb-true, eq-eqb, or_cases}
use Rattle.std.proofs.lemmas.Option.{none-some, same_Some}
use Rattle.model_value.specs.declared.outcome.Outcome.TheVariants.{Cancelled}
use Rattle.model_value.specs.Action.{Action, CycleKind}
use Rattle.model_value.specs.declared.action.Action.TheVariants.{StepInCycle, Wakeup}
use Rattle.model_value.specs.declared.action.CycleKind.TheVariants.{Itself, ItsWaiter}
use Rattle.model_value.specs.Value.{Outcome}
use Rattle.model_loop.specs.Parts.{FutureKind, Plain, OfTask, Many, Future, Task, Parts}
use Rattle.model_loop.specs.Handles.{soon}
use Rattle.model_loop.specs.Futures.{next_future, settle, register, mark_asked}
use Rattle.model_loop.specs.Tasks.{waiter_of, future_of, change_task, clear_must_cancel, must_cancel_of}
use Rattle.model_loop.specs.Cancel.{cancel}
use Rattle.model_loop.specs.Cycles.{passes, PassesTo, Leads, at_once, through, leads, cycle}
use Rattle.model_loop.specs.Suspend.{wait_on, cancel_wait, suspend}
use Rattle.model_loop.specs.Owning.{OwnsFutures, own_future, owner_at, owner_in}
use Rattle.model_loop.specs.Sound.{HasNoCycle}
use Rattle.model_loop.proofs.FutureCases.{registered, registered_on}
use Rattle.law_cancel.proofs.SuspendCases.{suspend_unless}
use Rattle.law_cancel.proofs.PassCases.{passes_of_kind, passes_until, passes_at}
use Rattle.law_cancel.proofs.Lookups.{get-set_same, get-set_other, get-set_kept}
use Rattle.law_cancel.proofs.Effects.{settle-futures, settle-tasks, done_as, mark_asked-futures, mark_asked-tasks, asked_as, register-tasks, change_task-there}
use Rattle.law_cancel.proofs.Effects.{change_task-futures}
use Rattle.law_cancel.proofs.Counting.{change_task-kept}
use Rattle.law_cancel.proofs.Reach.{leads_decides}
use Rattle.law_cancel.proofs.Trace.{Goes, begins, settles, asks, raises, sets_must_cancel, with_row}

-- ---- passes go by the futures and by what tasks wait for
abbrev waiter_at : Option Task → Option ℕ
waiter_at o = option_map_or (λ (task : Task). task.waiter) o None

pub passes_at-same : (o : Option Future) (x : ℕ) (p q : Parts) → ((t : ℕ) → waiter_of q t ≡ waiter_of p t) → passes_at o x q ≡ passes_at o x p
passes_at-same None x p q same = refl
passes_at-same (Some future) x p q same = until future.outcome future.kind
  where
    kind : (k : FutureKind) → passes_of_kind k x q ≡ passes_of_kind k x p
    kind Plain = refl
    kind (OfTask t) = ap option_to_list (same t)
    kind (Many members asked) = refl

    until : (o : Option Outcome) (k : FutureKind) → passes_until o k x q ≡ passes_until o k x p
    until (Some outcome) k = refl
    until None k = kind k

pub passes-same : (p q : Parts) (x : ℕ) → passes_at (slice_get q.futures x) x p ≡ passes_at (slice_get p.futures x) x p
    → ((t : ℕ) → waiter_of q t ≡ waiter_of p t) → passes q x ≡ passes p x
passes-same p q x futures waiters = passes_at-same (slice_get q.futures x) x p q waiters ∙ futures

-- ---- a request
pub goes-passes : {s : List ℕ} {p : Parts} {t : List ℕ} {q : Parts} → Goes s p t q → (x : ℕ) → passes q x ≡ passes p x
goes-passes begins x = refl
goes-passes (settles {q = q} g id future e o k) x =
    passes-same q (settle id Cancelled q) x
    (ap (λ (fs : List Future). passes_at (slice_get fs x) x q) (settle-futures id Cancelled q future e o)
    ∙ get-set_kept (λ f. passes_at f x q) q.futures id x future (done_as Cancelled future) e (rw (o, k) refl))
    (λ t. ap (λ (ts : List Task). waiter_at (slice_get ts t)) (settle-tasks id Cancelled q)) ∙ goes-passes g x
goes-passes (asks {q = q} g id future members asked e o k) x =
    passes-same q (mark_asked id q) x
    (ap (λ (fs : List Future). passes_at (slice_get fs x) x q) (mark_asked-futures id q future e)
    ∙ get-set_kept (λ f. passes_at f x q) q.futures id x future (asked_as future) e (rw (o, k) refl))
    (λ t. ap (λ (ts : List Task). waiter_at (slice_get ts t)) (mark_asked-tasks id q)) ∙ goes-passes g x
goes-passes (raises {q = q} g id task n e) x =
    passes-same q (change_task id _ q) x
    (ap (λ (fs : List Future). passes_at (slice_get fs x) x q) (change_task-futures id _ q))
    (λ t. change_task-kept waiter_at id _ q (λ task. refl) t) ∙ goes-passes g x
goes-passes (sets_must_cancel {q = q} g id) x =
    passes-same q (change_task id _ q) x
    (ap (λ (fs : List Future). passes_at (slice_get fs x) x q) (change_task-futures id _ q))
    (λ t. change_task-kept waiter_at id _ q (λ task. refl) t) ∙ goes-passes g x

-- ---- where there are no more passes there is no more leading
pub leads_kept : (p q : Parts) → ((x y : ℕ) → PassesTo q x y → PassesTo p x y) → {from to : ℕ} → Leads q from to → Leads p from to
leads_kept p q edge (at_once {from = from} {to = to} e) = at_once (edge from to e)
leads_kept p q edge (through {from = from} next e l) = through next (edge from next e) (leads_kept p q edge l)

pub no_cycle_kept : (p q : Parts) → ((x : ℕ) → passes q x ≡ passes p x) → HasNoCycle p → HasNoCycle q
no_cycle_kept p q same none id l =
    none id (leads_kept p q (λ x y e. ap (list_any (λ next. next == y)) (sym (same x)) ∙ e) l)

leads_on : {p : Parts} {from to next : ℕ} → Leads p from next → Leads p next to → Leads p from to
leads_on (at_once e) l = through _ e l
leads_on (through next e k) l = through next e (leads_on k l)

pub cancel_makes_none : (id : ℕ) (p : Parts) → HasNoCycle p → HasNoCycle (cancel id p).parts
cancel_makes_none id p none = no_cycle_kept p (cancel id p).parts (goes-passes (with_row id [] p)) none

-- ---- callbacks
pub register-view : {Y : Type 0} (f : Option Future → Y)
    → ((future : Future) (action : Action) → f (Some (record future { callbacks = future.callbacks ++ action ∷ [] })) ≡ f (Some future))
    → (id : ℕ) (action : Action) (p : Parts) (x : ℕ) → f (slice_get (register id action p).futures x) ≡ f (slice_get p.futures x)
register-view {Y} f same id action p x = at (slice_get p.futures id) refl
  where
    until : (future : Future) → slice_get p.futures id ≡ Some future → (o : Option Outcome) → f (slice_get (registered_on o id future action p).futures x)
        ≡ f (slice_get p.futures x)
    until future e (Some done) = refl
    until future e None = get-set_kept f p.futures id x future (record future { callbacks = future.callbacks ++ action ∷ [] }) e (same future action)

    at : (o : Option Future) → slice_get p.futures id ≡ o → f (slice_get (registered o id action p).futures x) ≡ f (slice_get p.futures x)
    at None e = refl
    at (Some future) e = until future e future.outcome

-- ---- a wait adds one pass
abbrev with_waiter : ℕ → Task → Task
with_waiter on task = record task { waiter = Some on }

abbrev Edge : (task on : ℕ) (p : Parts) (x y : ℕ) → Type 0
Edge task on p x y = PassesTo p x y ⊎ ((x ≡ future_of p task) × (on ≡ y))

-- what a task waits for after another began to wait
waiter-other : (task on other : ℕ) (p : Parts) → task ≢ other → waiter_of (wait_on task on p) other ≡ waiter_of p other
waiter-other task on other p n = at (slice_get r.tasks task) ∙ ap (λ (ts : List Task). waiter_at (slice_get ts other)) (register-tasks on (Wakeup task) p)
  where
    r : Parts
    r = register on (Wakeup task) p

    at : (o : Option Task)
        → waiter_at (slice_get (option_map_or (λ (t : Task). record r { tasks = slice_set r.tasks task (with_waiter on t) }) o r).tasks other)
        ≡ waiter_of r other
    at None = refl
    at (Some t) = ap waiter_at (get-set_other r.tasks task other (with_waiter on t) n)

waiter-same : (task on : ℕ) (p : Parts) (it : Task) → slice_get p.tasks task ≡ Some it → waiter_of (wait_on task on p) task ≡ Some on
waiter-same task on p it e =
    ap (λ (q : Parts). waiter_of q task) (change_task-there task (with_waiter on) r it there)
    ∙ ap waiter_at (get-set_same r.tasks task it (with_waiter on it) there)
  where
    r : Parts
    r = register on (Wakeup task) p

    there : slice_get (register on (Wakeup task) p).tasks task ≡ Some it
    there = ap (λ (ts : List Task). slice_get ts task) (register-tasks on (Wakeup task) p) ∙ e

-- the passes of a future after the wait, by the future as it was
waiting-passes : (task on : ℕ) (p : Parts) (x : ℕ) → passes (wait_on task on p) x ≡ passes_at (slice_get p.futures x) x (wait_on task on p)
waiting-passes task on p x =
    ap (λ (fs : List Future). passes_at (slice_get fs x) x w) (change_task-futures task (with_waiter on) (register on (Wakeup task) p))
    ∙ register-view (λ o. passes_at o x w) (λ future action. refl) on (Wakeup task) p x
  where
    w : Parts
    w = wait_on task on p

-- a task's future has its task
owned : (p : Parts) → OwnsFutures p → (x task : ℕ) (future : Future) → slice_get p.futures x ≡ Some future → future.kind ≡ OfTask task
    → (it : Task) × (slice_get p.tasks task ≡ Some it) × (it.future ≡ x)
owned p owns x task future e k = at (slice_get p.tasks task) refl
  where
    own : own_future p task ≡ Some x
    own = (owns x task).0 (ap owner_at e ∙ ap owner_in k)

    at : (o : Option Task) → slice_get p.tasks task ≡ o → (it : Task) × (slice_get p.tasks task ≡ Some it) × (it.future ≡ x)
    at None n = absurd (none-some x (ap (option_map (λ (it : Task). it.future)) (sym n) ∙ own))
    at (Some it) n = (it, n, same_Some it.future x (ap (option_map (λ (t : Task). t.future)) (sym n) ∙ own))

edge_of : (task on : ℕ) (p : Parts) → OwnsFutures p → (x y : ℕ) → PassesTo (wait_on task on p) x y → Edge task on p x y
edge_of task on p owns x y h =
    at (slice_get p.futures x) refl (ap (list_any (λ n. n == y)) (sym (waiting-passes task on p x)) ∙ h)
  where
    w : Parts
    w = wait_on task on p

    Hit : List ℕ → Type 0
    Hit xs = list_any (λ n. n == y) xs ≡ true

    mine : (future : Future) → slice_get p.futures x ≡ Some future → future.kind ≡ OfTask task → Hit (option_to_list (waiter_of (wait_on task on p) task))
        → Edge task on p x y
    mine future e k hit =
        let own = owned p owns x task future e k in
        let last : (nat_eq on y || false) ≡ true = ap (λ o. list_any (λ n. n == y) (option_to_list o)) (sym (waiter-same task on p own.0 own.1)) ∙ hit in
        inr (sym (ap (λ o. option_map_or (λ (t : Task). t.future) o (next_future p)) own.1 ∙ own.2), first last)
      where
        first : (nat_eq on y || false) ≡ true → on ≡ y
        first l = elim_or (or_cases (nat_eq on y) false l)
          where
            elim_or : (nat_eq on y ≡ true) ⊎ (false ≡ true) → on ≡ y
            elim_or (inl e) = eqb-true on y e
            elim_or (inr e) = absurd (cc)

    of_task : (future : Future) (other : ℕ) → slice_get p.futures x ≡ Some future → future.outcome ≡ None → future.kind ≡ OfTask other
        → (task ≡ other) ⊎ (task ≡ other → ⊥) → Hit (option_to_list (waiter_of (wait_on task on p) other)) → Edge task on p x y
    of_task future other e o k (inl same) hit = mine future e (k ∙ ap OfTask (sym same))
        (ap (λ t. list_any (λ n. n == y) (option_to_list (waiter_of (wait_on task on p) t))) same ∙ hit)
    of_task future other e o k (inr n) hit =
        let old : Hit (option_to_list (waiter_of p other)) = ap (λ w. list_any (λ n. n == y) (option_to_list w)) (sym (waiter-other task on other p n)) ∙ hit in
        inl (ap (λ f. list_any (λ n. n == y) (passes_at f x p)) e ∙ rw (o, k) old)

    kind : (future : Future) → slice_get p.futures x ≡ Some future → future.outcome ≡ None → (k : FutureKind) → future.kind ≡ k
        → Hit (passes_of_kind k x (wait_on task on p)) → Edge task on p x y
    kind future e o Plain k hit = absurd (cc)
    kind future e o (OfTask other) k hit = of_task future other e o k (cases_eq task other) hit
    kind future e o (Many members asked) k hit = inl (ap (λ f. list_any (λ n. n == y) (passes_at f x p)) e ∙ rw (o, k) hit)

    until : (future : Future) → slice_get p.futures x ≡ Some future → (o : Option Outcome) → future.outcome ≡ o
        → Hit (passes_until o future.kind x (wait_on task on p)) → Edge task on p x y
    until future e (Some outcome) o hit = absurd (cc)
    until future e None o hit = kind future e o future.kind refl hit

    at : (o : Option Future) → slice_get p.futures x ≡ o → Hit (passes_at o x (wait_on task on p)) → Edge task on p x y
    at None e hit = absurd (cc)
    at (Some future) e hit = until future e future.outcome refl hit

-- ---- a way after the wait is an old one, or goes through the new pass
abbrev UpTo : Parts → ℕ → ℕ → Type 0
UpTo p from to = (from ≡ to) ⊎ Leads p from to

abbrev Ways : (task on : ℕ) (p : Parts) (x y : ℕ) → Type 0
Ways task on p x y = Leads p x y ⊎ (UpTo p x (future_of p task) × UpTo p on y)

ways_of : (task on : ℕ) (p : Parts) → OwnsFutures p → {x y : ℕ} → Leads (wait_on task on p) x y → Ways task on p x y
ways_of task on p owns (at_once {from = x} {to = y} e) = go (edge_of task on p owns x y e)
  where
    go : Edge task on p x y → Ways task on p x y
    go (inl old) = inl (at_once old)
    go (inr new) = inr (inl new.0, inl new.1)
ways_of task on p owns (through {from = x} {to = y} next e l) = go (edge_of task on p owns x next e) (ways_of task on p owns l)
  where
    old_first : PassesTo p x next → UpTo p next (future_of p task) → UpTo p x (future_of p task)
    old_first old (inl same) = inr (at_once (ap (λ n. list_any (λ z. z == n) (passes p x)) (sym same) ∙ old))
    old_first old (inr k) = inr (through next old k)

    go : Edge task on p x next → Ways task on p next y → Ways task on p x y
    go (inl old) (inl k) = inl (through next old k)
    go (inl old) (inr k) = inr (old_first old k.0, k.1)
    go (inr new) (inl k) = inr (inl new.0, inr (rw new.1 k))
    go (inr new) (inr k) = inr (inl new.0, k.1)

-- a wait that isn't refused is not for the task's own future, nor for one that leads to it
pub record IsAllowed (p : Parts) (task on : ℕ) : Type 0 where
  other : on ≢ future_of p task
  apart : Leads p on (future_of p task) → ⊥

pub allowed : (p : Parts) (task on : ℕ) → cycle p task on ≡ None → IsAllowed p task on
allowed p task on none = record { other = other; apart = apart }
  where
    other : on ≢ future_of p task
    other same =
        let t : nat_eq on (future_of p task) ≡ true = eq-eqb on (future_of p task) same in
        let c : cycle p task on ≡ Some Itself = rw t refl in
        cc

    apart : Leads p on (future_of p task) → ⊥
    apart l =
        let t : leads p on (future_of p task) ≡ true = (leads_decides p on (future_of p task)).1 l in
        go (nat_eq on (future_of p task)) (ap (λ b. cond (nat_eq on (future_of p task)) (Some Itself) (cond b (Some ItsWaiter) None)) (sym t) ∙ none)
      where
        go : (b : Bool) → cond b (Some Itself) (cond true (Some ItsWaiter) None) ≡ None → ⊥
        go true e = cc
        go false e = cc

pub wait_makes_none : (task on : ℕ) (p : Parts) → OwnsFutures p → IsAllowed p task on → HasNoCycle p → HasNoCycle (wait_on task on p)
wait_makes_none task on p owns ok none id l = go (ways_of task on p owns l)
  where
    own : ℕ
    own = future_of p task

    back : UpTo p id (future_of p task) → UpTo p on id → ⊥
    back (inl a) (inl b) = ok.other (b ∙ a)
    back (inl a) (inr b) = ok.apart (rw a at b)
    back (inr a) (inl b) = ok.apart (rw b a)
    back (inr a) (inr b) = ok.apart (leads_on b a)

    go : Ways task on p id id → ⊥
    go (inl k) = none id k
    go (inr k) = back k.0 k.1

-- ---- the whole wait
pub clear_must_cancel-passes : (task : ℕ) (p : Parts) (x : ℕ) → passes (clear_must_cancel task p) x ≡ passes p x
clear_must_cancel-passes task p x =
    passes-same p (clear_must_cancel task p) x
    (ap (λ (fs : List Future). passes_at (slice_get fs x) x p) (change_task-futures task _ p))
    (λ t. change_task-kept waiter_at task _ p (λ it. refl) t)

pub suspend_makes_none : (task on : ℕ) (p : Parts) → OwnsFutures p → HasNoCycle p → HasNoCycle (suspend task on p).parts
suspend_makes_none task on p owns none = at (cycle p task on) refl
  where
    must_cancel : (b : Bool) → HasNoCycle (wait_on task on p) → HasNoCycle (cancel_wait b task on (wait_on task on p)).parts
    must_cancel false h = h
    must_cancel true h =
        let asked = cancel on (wait_on task on p) in
        let k = cancel_makes_none on (wait_on task on p) h in
        elim asked.answer as (λ b. HasNoCycle (cond b (clear_must_cancel task asked.parts) asked.parts)) [
          | true ↦ no_cycle_kept asked.parts (clear_must_cancel task asked.parts) (clear_must_cancel-passes task asked.parts) k
          | false ↦ k
        ]

    at : (o : Option CycleKind) → cycle p task on ≡ o → HasNoCycle (suspend_unless o task on p).parts
    at (Some why) e = no_cycle_kept p (soon (StepInCycle task why) p)
        (λ x. passes_at-same (slice_get p.futures x) x p (soon (StepInCycle task why) p) (λ t. refl)) none
    at None e = must_cancel (must_cancel_of p task) (wait_makes_none task on p owns (allowed p task on e) none)
