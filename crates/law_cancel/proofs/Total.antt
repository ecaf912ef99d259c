-- A request ends: the bounds of its definition are never reached.
use Rattle.std.proofs.Common.{◌≡◌, ℕ, zero, suc, ◌<◌, ◌≤◌, Bool, true, false, cond, ◌||◌, List, [], ◌∷◌, ◌++◌, Option, Some, None, length, nat_lt, slice_get}
use Rattle.std.proofs.Common.{refl, ap, ◌∙◌, arith}
use Rattle.std.proofs.lemmas.Option.{slice_get_within}
use Rattle.std.proofs.lemmas.Bool.{ltb-true}
use Rattle.model_value.specs.Value.{Outcome}
use Rattle.model_loop.specs.Parts.{FutureKind, Plain, OfTask, Many, Future, Task, Parts}
use Rattle.model_loop.specs.Futures.{made_before}
use Rattle.model_loop.specs.Tasks.{raise_count}
use Rattle.model_loop.specs.Cancel.{CancelRequest, Canceller, has_seen, cancel_each, cancel_by, cancel_below, cancel_within, cancel_with}
use Rattle.law_cancel.proofs.CancelCases.{asked_where, must_cancel_unless, cancel_waiter, cancel_unseen, cancel_task_where, cancel_kind, cancel_until}
use Rattle.law_cancel.proofs.CancelCases.{cancel_at}
use Rattle.law_cancel.proofs.Effects.{length-change_task}
use Rattle.law_cancel.proofs.Seen.{left, left_le, left-push}
use Rattle.law_cancel.proofs.Trace.{Goes, IsRow, goes-tasks, goes-left, below_row, within_row}

-- ---- a request through each of some futures, by two cancellers that agree where it comes to
abbrev pub with_answer : Bool → CancelRequest → CancelRequest
with_answer answer r = record r { answer = answer || r.answer }

abbrev pub further : CancelRequest → Canceller → List ℕ → CancelRequest
further first cancel ids = with_answer first.answer (cancel_each cancel ids first.seen first.parts)

each_same : (K : List ℕ → Parts → Type 0) (F G : Canceller) (id : ℕ)
    → ((m : ℕ) (s : List ℕ) (p : Parts) → K s p → K (F m s p).seen (F m s p).parts)
    → ((m : ℕ) (s : List ℕ) (p : Parts) → m < id → K s p → F m s p ≡ G m s p)
    → (members : List ℕ) (s : List ℕ) (p : Parts) → K s p → cancel_each F (made_before id members) s p ≡ cancel_each G (made_before id members) s p
each_same K F G id stays same [] s p k = refl
each_same K F G id stays same (m ∷ members) s p k =
    go (nat_lt m id) refl (λ t q kq. each_same K F G id stays same members t q kq)
  where
    go : (b : Bool) → nat_lt m id ≡ b
        → ((t : List ℕ) (q : Parts) → K t q → cancel_each F (made_before id members) t q ≡ cancel_each G (made_before id members) t q)
        → cancel_each F (cond b (m ∷ made_before id members) (made_before id members)) s p
        ≡ cancel_each G (cond b (m ∷ made_before id members) (made_before id members)) s p
    go false e ih = ih s p k
    go true e ih =
        let first = F m s p in
        ap (with_answer first.answer) (ih first.seen first.parts (stays m s p k))
        ∙ ap (λ (r : CancelRequest). further r G (made_before id members)) (same m s p (ltb-true m id e) k)

-- ---- one future, by cancellers that agree on its members and on what its task waits for
module _ (F G V W : Canceller) (id : ℕ) (s : List ℕ) (p : Parts)
    (members_same : (members : List ℕ) → cancel_each F (made_before id members) s p ≡ cancel_each G (made_before id members) s p)
    (waiter_same : (t : ℕ) (task : Task) (w : ℕ) → has_seen s t ≡ false → slice_get p.tasks t ≡ Some task → V w (s ++ t ∷ []) (raise_count t p)
    ≡ W w (s ++ t ∷ []) (raise_count t p)) where
  unseen_same : (t : ℕ) (o : Option Task) → slice_get p.tasks t ≡ o → has_seen s t ≡ false → cancel_unseen V t o s p ≡ cancel_unseen W t o s p
  unseen_same t None e n = refl
  unseen_same t (Some task) e n = go task.waiter
    where
      go : (waiter : Option ℕ) → cancel_waiter V t waiter (s ++ t ∷ []) (raise_count t p) ≡ cancel_waiter W t waiter (s ++ t ∷ []) (raise_count t p)
      go None = refl
      go (Some w) = ap (λ (r : CancelRequest). must_cancel_unless r.answer t r) (waiter_same t task w n e)

  task_same : (seen : Bool) (t : ℕ) → has_seen s t ≡ seen → cancel_task_where V seen t s p ≡ cancel_task_where W seen t s p
  task_same true t n = refl
  task_same false t n = unseen_same t (slice_get p.tasks t) refl n

  kind_same : (k : FutureKind) → cancel_kind F V k id s p ≡ cancel_kind G W k id s p
  kind_same Plain = refl
  kind_same (OfTask task) = task_same (has_seen s task) task refl
  kind_same (Many members asked) = ap (λ (r : CancelRequest). asked_where r.answer id r) (members_same members)

  until_same : (o : Option Outcome) (k : FutureKind) → cancel_until F V o k id s p ≡ cancel_until G W o k id s p
  until_same (Some outcome) k = refl
  until_same None k = kind_same k

  at_same : (o : Option Future) → cancel_at F V o id s p ≡ cancel_at G W o id s p
  at_same None = refl
  at_same (Some future) = until_same future.outcome future.kind

  by_same : cancel_by F V id s p ≡ cancel_by G W id s p
  by_same = at_same (slice_get p.futures id)

-- ---- a bound on the number of a future is enough where it is greater
bounds_same : (b c : ℕ) (V : Canceller) → IsRow V → (id : ℕ) (s : List ℕ) (p : Parts) → id < b → id < c → cancel_below b V id s p ≡ cancel_below c V id s p
bounds_same zero c V row id s p h k = absurd (omega arith)
bounds_same (suc b) zero V row id s p h k = absurd (omega arith)
bounds_same (suc b) (suc c) V row id s p h k =
    by_same (cancel_below b V) (cancel_below c V) V V id s p
    (λ members. each_same (λ t q. Unit {0}) (cancel_below b V) (cancel_below c V) id (λ m t q u. tt)
    (λ m t q below u. bounds_same b c V row m t q (omega arith) (omega arith)) members s p tt)
    (λ t task w n e. refl)

-- ---- two cancellers agree where fewer than so many tasks are left
abbrev AgreeBelow : ℕ → Canceller → Canceller → Type 0
AgreeBelow n V W = (id : ℕ) (s : List ℕ) (p : Parts) → left (length p.tasks) s < n → V id s p ≡ W id s p

-- a task that is visited leaves fewer
pub fewer : (s : List ℕ) (p : Parts) (t : ℕ) (task : Task) → has_seen s t ≡ false → slice_get p.tasks t ≡ Some task
    → left (length (raise_count t p).tasks) (s ++ t ∷ []) < left (length p.tasks) s
fewer s p t task n e =
    let l : length (raise_count t p).tasks ≡ length p.tasks = length-change_task t _ p in
    let h = left-push (length p.tasks) s t (slice_get_within p.tasks t task e) n in
    rw l (omega arith)

-- none of the changes of a request makes more tasks left
pub no_more : {s : List ℕ} {p : Parts} {t : List ℕ} {q : Parts} → Goes s p t q → left (length q.tasks) t ≤ left (length p.tasks) s
no_more {p = p} g = rw (goes-tasks g) (goes-left (length p.tasks) g)

below_same : (bound n : ℕ) (V W : Canceller) → IsRow V → AgreeBelow n V W → (id : ℕ) (s : List ℕ) (p : Parts) → left (length p.tasks) s ≤ n
    → cancel_below bound V id s p ≡ cancel_below bound W id s p
below_same zero n V W row agree id s p h = refl
below_same (suc bound) n V W row agree id s p h =
    by_same (cancel_below bound V) (cancel_below bound W) V W id s p
    (λ members. each_same (λ t q. left (length q.tasks) t ≤ n) (cancel_below bound V) (cancel_below bound W) id
    (λ m t q k. let f = no_more (below_row bound V row m t q) in omega arith)
    (λ m t q below k. below_same bound n V W row agree m t q k) members s p h)
    (λ t task w un e. let f = fewer s p t task un e in agree w (s ++ t ∷ []) (raise_count t p) (omega arith))

within_same : (n m : ℕ) (id : ℕ) (s : List ℕ) (p : Parts) → left (length p.tasks) s < n → left (length p.tasks) s < m → cancel_within n id s p
    ≡ cancel_within m id s p
within_same zero m id s p h k = absurd (omega arith)
within_same (suc n) zero id s p h k = absurd (omega arith)
within_same (suc n) (suc m) id s p h k =
    below_same (suc id) (left (length p.tasks) s) (cancel_within n) (cancel_within m) (within_row n)
    (λ i t q l. within_same n m i t q (omega arith) (omega arith)) id s p (omega arith)

-- ---- the definition with itself in place of its bounds
pub cancel_with_itself : (id : ℕ) (s : List ℕ) (p : Parts) → cancel_with id s p ≡ cancel_by cancel_with cancel_with id s p
cancel_with_itself id s p =
    let n = length p.tasks in
    by_same (cancel_below id (cancel_within n)) cancel_with (cancel_within n) cancel_with id s p
    (λ members. each_same (λ t q. length q.tasks ≡ n) (cancel_below id (cancel_within n)) cancel_with id
    (λ m t q k. goes-tasks (below_row id (cancel_within n) (within_row n) m t q) ∙ k)
    (λ m t q below k. rw k (bounds_same id (suc m) (cancel_within n) (within_row n) m t q below (omega arith)))
    members s p refl)
    (λ t task w un e.
    let l : length (raise_count t p).tasks ≡ n = length-change_task t _ p in
    let f = fewer s p t task un e in
    let g = left_le n s in
    let l' : left (length (raise_count t p).tasks) (s ++ t ∷ []) < n = omega arith in
    rw l (within_same n (suc n) w (s ++ t ∷ []) (raise_count t p) l' (omega arith)))
