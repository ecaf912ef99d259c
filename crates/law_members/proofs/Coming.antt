-- How many handles are still to come, after each change.
use Rattle.std.proofs.Common.{◌≡◌, ◌≤◌, ◌+◌, ℕ, zero, suc, Bool, true, cond, not, ◌&&◌, List, [], ◌∷◌, ◌++◌, Option, Some, None}
use Rattle.std.proofs.Common.{slice_get, slice_set, refl, ap, arith}
use Rattle.std.specs.List.{count_by}
use Rattle.std.specs.Option.{option_map_or}
use Rattle.std.proofs.lemmas.List.Sums.{sum_by-cons, sum_by-le-sum_by, sum_by_push}
use Rattle.std.proofs.lemmas.Option.{none-some, same_Some}
use Rattle.model_value.specs.Action.{Action}
use Rattle.model_value.specs.Value.{Outcome}
use Rattle.model_loop.proofs.FutureCases.{registered as registered_by, registered_on, settled, settled_as}
use Rattle.model_loop.specs.Entries.{entries, handles_where}
use Rattle.model_loop.specs.Futures.{asked_kind, make_future, mark_asked, register, settle, with_future}
use Rattle.model_loop.specs.Handles.{due, later, revoke, soon, soon_all}
use Rattle.model_loop.specs.Parts.{FutureKind, Future, Handle, Parts, Task}
use Rattle.model_loop.specs.Tasks.{change_task}
use Rattle.law_cancel.proofs.Effects.{done_as, soon_all-futures}
use Rattle.law_groups.proofs.Due.{due-entries, due-futures}
use Rattle.law_groups.proofs.Entries.{entries-fewer, entries-later, entries-revoke, entries-soon}
use Rattle.law_steps.proofs.Settling.{count_fewer}
use Rattle.law_members.specs.Handles.{coming, registered}

-- ---- on futures
abbrev pub one_of : Bool → ℕ
one_of b = cond b 1 0

-- what is registered on one is among all
pub registered_there : (test : Action → Bool) (fs : List Future) (id : ℕ) (future : Future) → slice_get fs id ≡ Some future
    → count_by test future.callbacks ≤ registered test fs
registered_there test [] id future e = absurd (none-some future e)
registered_there test (x ∷ xs) zero future e =
    let c = sum_by-cons (λ (it : Future). count_by test it.callbacks) x xs in
    let s = ap (λ (it : Future). count_by test it.callbacks) (same_Some x future e) in
    omega (arith, c, s)
registered_there test (x ∷ xs) (suc id) future e =
    let c = sum_by-cons (λ (it : Future). count_by test it.callbacks) x xs in
    let ih = registered_there test xs id future e in
    omega (arith, c, ih)

registered_set : (test : Action → Bool) (fs : List Future) (id : ℕ) (old new : Future) → slice_get fs id ≡ Some old
    → registered test (slice_set fs id new) + count_by test old.callbacks ≡ registered test fs + count_by test new.callbacks
registered_set test [] id old new e = absurd (none-some old e)
registered_set test (x ∷ xs) zero old new e =
    let a = sum_by-cons (λ (it : Future). count_by test it.callbacks) x xs in
    let b = sum_by-cons (λ (it : Future). count_by test it.callbacks) new xs in
    let s = ap (λ (it : Future). count_by test it.callbacks) (same_Some x old e) in
    omega (arith, a, b, s)
registered_set test (x ∷ xs) (suc id) old new e =
    let a = sum_by-cons (λ (it : Future). count_by test it.callbacks) x xs in
    let b = sum_by-cons (λ (it : Future). count_by test it.callbacks) x (slice_set xs id new) in
    let ih = registered_set test xs id old new e in
    omega (arith, a, b, ih)

-- ---- of a test that passes what another passes
pub coming_fewer : (f g : Action → Bool) → ((it : Action) → f it ≡ true → g it ≡ true) → (p : Parts) → coming f p ≤ coming g p
coming_fewer f g harder p =
    let a = entries-fewer (λ tag. f) (λ tag. g) p (λ tag it e. harder it e) in
    let b = sum_by-le-sum_by (λ (it : Future). count_by f it.callbacks) (λ (it : Future). count_by g it.callbacks) p.futures
    (λ it. count_fewer f g harder it.callbacks) in
    omega (arith, a, b)

module _ (test : Action → Bool) where
  -- ---- what the changes are made of
  pub soon_coming : (it : Action) (p : Parts) → coming test (soon it p) ≡ coming test p + one_of (test it)
  soon_coming it p = let a = entries-soon (λ tag. test) it p in omega (arith, a)

  soon_all_entries : (all : List Action) (p : Parts) → entries (λ tag. test) (soon_all all p) ≡ entries (λ tag. test) p + count_by test all
  soon_all_entries [] p = omega arith
  soon_all_entries (it ∷ all) p =
      let a = entries-soon (λ tag. test) it p in
      let c = sum_by-cons (λ it. cond (test it) 1 0) it all in
      let ih = soon_all_entries all (soon it p) in
      omega (arith, a, c, ih)

  pub later_coming : (when : ℕ) (it : Action) (p : Parts) → coming test (later when it p) ≡ coming test p + one_of (test it)
  later_coming when it p = let a = entries-later (λ tag. test) when it p in omega (arith, a)

  pub revoke_coming : (tag : ℕ) (p : Parts) → coming test (revoke tag p) ≤ coming test p
  revoke_coming tag p = let a = entries-revoke (λ other. test) tag p in omega (arith, a)

  push_registered : (fs : List Future) (kind : FutureKind)
      → registered test (fs ++ record { kind = kind; outcome = None; callbacks = [] } ∷ []) ≡ registered test fs
  push_registered fs kind =
      let a = sum_by_push (λ (it : Future). count_by test it.callbacks) fs (record { kind = kind; outcome = None; callbacks = [] }) in
      omega (arith, a)

  pub make_coming : (kind : FutureKind) (p : Parts) → coming test (make_future kind p) ≡ coming test p
  make_coming kind p = let a = push_registered p.futures kind in omega (arith, a)

  pub settle_coming : (id : ℕ) (outcome : Outcome) (p : Parts) → coming test (settle id outcome p) ≤ coming test p
  settle_coming id outcome p = at (slice_get p.futures id) refl
    where
      until : (future : Future) (o : Option Outcome) → slice_get p.futures id ≡ Some future
          → coming test (settled_as o id future outcome p) ≤ coming test p
      until future (Some done) found = omega arith
      until future None found =
          let q = with_future id (done_as outcome future) p in
          let a = soon_all_entries future.callbacks q in
          let b = ap (registered test) (soon_all-futures future.callbacks q) in
          let c = registered_set test p.futures id future (done_as outcome future) found in
          omega (arith, a, b, c)

      at : (f : Option Future) → slice_get p.futures id ≡ f → coming test (settled f id outcome p) ≤ coming test p
      at None found = omega arith
      at (Some future) found = until future future.outcome found

  pub register_coming : (id : ℕ) (it : Action) (p : Parts) → coming test (register id it p) ≤ coming test p + one_of (test it)
  register_coming id it p = at (slice_get p.futures id) refl
    where
      until : (future : Future) (o : Option Outcome) → slice_get p.futures id ≡ Some future
          → coming test (registered_on o id future it p) ≤ coming test p + one_of (test it)
      until future (Some done) found = let a = soon_coming it p in omega (arith, a)
      until future None found =
          let a = registered_set test p.futures id future (record future { callbacks = future.callbacks ++ it ∷ [] }) found in
          let b = sum_by_push (λ it. cond (test it) 1 0) future.callbacks it in
          omega (arith, a, b)

      at : (f : Option Future) → slice_get p.futures id ≡ f → coming test (registered_by f id it p) ≤ coming test p + one_of (test it)
      at None found = omega arith
      at (Some future) found = until future future.outcome found

  pub mark_coming : (id : ℕ) (p : Parts) → coming test (mark_asked id p) ≤ coming test p
  mark_coming id p = at (slice_get p.futures id) refl
    where
      at : (f : Option Future) → slice_get p.futures id ≡ f
          → coming test (option_map_or (λ (future : Future). with_future id (record future { kind = asked_kind future.kind }) p) f p) ≤ coming test p
      at None found = omega arith
      at (Some future) found =
          let a = registered_set test p.futures id future (record future { kind = asked_kind future.kind }) found in
          omega (arith, a)

  pub task_coming : (id : ℕ) (change : Task → Task) (p : Parts) → coming test (change_task id change p) ≤ coming test p
  task_coming id change p = at (slice_get p.tasks id)
    where
      at : (o : Option Task) → coming test (option_map_or (λ (it : Task). record p { tasks = slice_set p.tasks id (change it) }) o p) ≤ coming test p
      at None = omega arith
      at (Some it) = omega arith

  pub due_coming : (p : Parts) → coming test (due p) ≡ coming test p
  due_coming p =
      let a = due-entries (λ tag. test) p in
      let b = ap (registered test) (due-futures p) in
      omega (arith, a, b)

  -- the first handle is taken out
  pub taken_coming : (handle : Handle) (rest : List Handle) (p : Parts) → p.pending ≡ handle ∷ rest
      → coming test p ≡ one_of (not handle.dead && test handle.action) + coming test (record p { pending = rest })
  taken_coming handle rest p first =
      let a = ap (handles_where (λ tag. test)) first in
      let c = sum_by-cons (λ (h : Handle). cond (not h.dead && test h.action) 1 0) handle rest in
      omega (arith, a, c)
