-- What an outcome changes, field by field.
use Rattle.std.proofs.Common.{◌≡◌, ℕ, ◌+◌, ◌≤◌, Bool, true, false, cond, not, ◌&&◌, List, [], ◌∷◌, Option, Some, None, length, slice_get, slice_set, refl, ap}
use Rattle.std.proofs.Common.{sym, subst, ◌∙◌, arith}
use Rattle.std.proofs.Math.ListN.{length-set}
use Rattle.std.specs.List.{count_by}
use Rattle.std.proofs.lemmas.Bool.{and_parts, and_from}
use Rattle.std.proofs.lemmas.List.Sums.{sum_by_push, sum_by-cons, sum_by-le-sum_by}
use Rattle.model_value.specs.Action.{Action}
use Rattle.model_value.specs.Value.{Outcome}
use Rattle.model_loop.specs.Parts.{Handle, Future, Parts}
use Rattle.model_loop.specs.Handles.{soon, soon_all}
use Rattle.model_loop.specs.Futures.{with_future, settle, is_pending, is_pending_at}
use Rattle.model_loop.specs.Totals.{callbacks_of, callbacks_at, pending_where}
use Rattle.model_loop.specs.Owning.{owner_at, owner_of, is_plain}
use Rattle.model_loop.proofs.FutureCases.{is_plain_at, settled, settled_as}
use Rattle.law_cancel.proofs.Lookups.{get-set_same, get-set_other}
use Rattle.law_cancel.proofs.Effects.{settle-pending, settle-futures, settle-tasks, done_as}

-- those that pass a harder test are no more
pub count_fewer : {A : Type 0} (f g : A → Bool) → ((x : A) → f x ≡ true → g x ≡ true) → (xs : List A)
    → count_by f xs ≤ count_by g xs
count_fewer f g harder xs =
    sum_by-le-sum_by (λ x. cond (f x) 1 0) (λ x. cond (g x) 1 0) xs (λ x. one (f x) (g x) (harder x))
  where
    one : (a b : Bool) → (a ≡ true → b ≡ true) → cond a 1 0 ≤ cond b 1 0
    one false b h = omega arith
    one true b h = rw (h refl) (omega arith)

pub fewer_pending : (f g : Action → Bool) → ((action : Action) → f action ≡ true → g action ≡ true) → (handles : List Handle)
    → pending_where f handles ≤ pending_where g handles
fewer_pending f g harder handles =
    count_fewer (λ (h : Handle). not h.dead && f h.action) (λ (h : Handle). not h.dead && g h.action)
    (λ h e. let x = and_parts (not h.dead) (f h.action) e in and_from (not h.dead) (g h.action) x.0 (harder h.action x.1)) handles

pub soon-where : (test : Action → Bool) (action : Action) (p : Parts)
    → pending_where test (soon action p).pending ≡ pending_where test p.pending + cond (test action) 1 0
soon-where test action p = sum_by_push (λ (handle : Handle). cond (not handle.dead && test handle.action) 1 0) p.pending _

pub soon_all-where : (test : Action → Bool) (actions : List Action) (p : Parts)
    → pending_where test (soon_all actions p).pending ≡ pending_where test p.pending + count_by test actions
soon_all-where test [] p = omega arith
soon_all-where test (a ∷ more) p =
    let ih = soon_all-where test more (soon a p) in
    let one = soon-where test a p in
    let c = sum_by-cons (λ b. cond (test b) 1 0) a more in
    omega arith

pub soon_all-timers : (actions : List Action) (p : Parts) → (soon_all actions p).timers ≡ p.timers
soon_all-timers [] p = refl
soon_all-timers (a ∷ more) p = soon_all-timers more (soon a p)

-- From p to q a pending future got its outcome.
pub record IsSettled (id : ℕ) (p q : Parts) : Type 0 where
  pub was : is_pending p id ≡ true
  pub done : is_pending q id ≡ false
  pub none : callbacks_of q id ≡ []
  pub owner : owner_of q id ≡ owner_of p id
  pub plain : is_plain q id ≡ is_plain p id
  pub others : (j : ℕ) → (id ≡ j → ⊥) → slice_get q.futures j ≡ slice_get p.futures j
  pub made : length q.futures ≡ length p.futures
  pub tasks : q.tasks ≡ p.tasks
  pub timers : q.timers ≡ p.timers
  pub called : (test : Action → Bool) → pending_where test q.pending ≡ pending_where test p.pending + count_by test (callbacks_of p id)

pub settle_effect : (id : ℕ) (outcome : Outcome) (p : Parts) (future : Future) → slice_get p.futures id ≡ Some future → future.outcome ≡ None
    → IsSettled id p (settle id outcome p)
settle_effect id outcome p future e o = record {
  was = rw e (rw o refl);
  done = ap is_pending_at now;
  none = ap callbacks_at now;
  owner = ap owner_at now ∙ sym (ap owner_at e);
  plain = ap is_plain_at now ∙ sym (ap is_plain_at e);
  others = λ j n. ap (λ (fs : List Future). slice_get fs j) fs ∙ get-set_other p.futures id j (done_as outcome future) n;
  made = ap length fs ∙ length-set p.futures id (done_as outcome future);
  tasks = settle-tasks id outcome p;
  timers = ap (λ (q : Parts). q.timers) whole ∙ soon_all-timers future.callbacks _;
  called = λ test. ap (λ (q : Parts). pending_where test q.pending) whole ∙ soon_all-where test future.callbacks _
      ∙ ap (λ o. pending_where test p.pending + count_by test (callbacks_at o)) (sym e);
}
  where
    whole : settle id outcome p ≡ soon_all future.callbacks (with_future id (done_as outcome future) p)
    whole = settle-pending id outcome p future e o

    fs : (settle id outcome p).futures ≡ slice_set p.futures id (done_as outcome future)
    fs = settle-futures id outcome p future e o

    now : slice_get (settle id outcome p).futures id ≡ Some (done_as outcome future)
    now = ap (λ (l : List Future). slice_get l id) fs ∙ get-set_same p.futures id future (done_as outcome future) e

-- A future that can't be settled stays as it is; else the effect is one that keeps what such effects keep.
pub settle_cases : (P : Parts → Type 0) (id : ℕ) (outcome : Outcome) (p : Parts) → P p → ((q : Parts) → IsSettled id p q → P q) → P (settle id outcome p)
settle_cases P id outcome p same kept = at (slice_get p.futures id) refl
  where
    until : (future : Future) → slice_get p.futures id ≡ Some future → (o : Option Outcome) → future.outcome ≡ o → P (settled_as o id future outcome p)
    until future e (Some done) o = same
    until future e None o = subst P (settle-pending id outcome p future e o) (kept (settle id outcome p) (settle_effect id outcome p future e o))

    at : (o : Option Future) → slice_get p.futures id ≡ o → P (settled o id outcome p)
    at None e = same
    at (Some future) e = until future e future.outcome refl
