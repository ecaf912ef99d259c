-- The function that cancels does what the rows say, and nothing else meets them.
use Rattle.std.proofs.Common.{◌≡◌, ℕ, zero, suc, ◌<◌, ◌≤◌, Bool, true, false, cond, ◌||◌, List, [], ◌∷◌, ◌++◌, Option, Some, None, is_none, length, nat_lt}
use Rattle.std.proofs.Common.{slice_get, subst, refl, ap, sym, ◌∙◌, arith}
use Rattle.std.proofs.lemmas.Bool.{ltb-true}
use Rattle.model_value.specs.Value.{Outcome}
use Rattle.model_loop.specs.Parts.{FutureKind, Plain, OfTask, Many, Future, Task, Parts}
use Rattle.model_loop.specs.Futures.{is_pending_at, made_before}
use Rattle.model_loop.specs.Tasks.{raise_count}
use Rattle.model_loop.specs.Cancel.{CancelRequest, Canceller, answers, has_seen, cancel_each, cancel_by, cancel_below, cancel_within, cancel_with}
use Rattle.model_loop.specs.Cancelling.{IsPendingAs, Cancels, done, plain, many, visited, task, no_task, CancelsEach, none, each, CancelsWaiter, waits_not}
use Rattle.model_loop.specs.Cancelling.{waits}
use Rattle.law_cancel.proofs.CancelCases.{asked_where, must_cancel_unless, cancel_waiter, cancel_unseen, cancel_task_where, cancel_kind, cancel_until}
use Rattle.law_cancel.proofs.CancelCases.{cancel_at}
use Rattle.law_cancel.proofs.Seen.{left, left_le}
use Rattle.law_cancel.proofs.Trace.{IsRow, below_row, within_row}
use Rattle.law_cancel.proofs.Total.{cancel_with_itself, fewer, no_more}

-- ---- the function meets the rows
each_meets : (K : List ℕ → Parts → Type 0) (F : Canceller) (id : ℕ)
    → ((m : ℕ) (s : List ℕ) (p : Parts) → K s p → K (F m s p).seen (F m s p).parts)
    → ((m : ℕ) (s : List ℕ) (p : Parts) → m < id → K s p → Cancels m s p (F m s p))
    → (members : List ℕ) (s : List ℕ) (p : Parts) → K s p
    → CancelsEach (made_before id members) s p (cancel_each F (made_before id members) s p)
each_meets K F id stays meet [] s p k = none
each_meets K F id stays meet (m ∷ members) s p k =
    go (nat_lt m id) refl (λ t q kq. each_meets K F id stays meet members t q kq)
  where
    go : (b : Bool) → nat_lt m id ≡ b
        → ((t : List ℕ) (q : Parts) → K t q → CancelsEach (made_before id members) t q (cancel_each F (made_before id members) t q))
        → CancelsEach (cond b (m ∷ made_before id members) (made_before id members)) s p (cancel_each F (cond b (m ∷ made_before id members)
        (made_before id members)) s p)
    go false e ih = ih s p k
    go true e ih =
        let first = F m s p in
        each (meet m s p (ltb-true m id e) k) (ih first.seen first.parts (stays m s p k))

module _ (F V : Canceller) (id : ℕ) (s : List ℕ) (p : Parts)
    (members_meet : (members : List ℕ) → CancelsEach (made_before id members) s p (cancel_each F (made_before id members) s p))
    (waiter_meets : (t : ℕ) (it : Task) (w : ℕ) → has_seen s t ≡ false → slice_get p.tasks t ≡ Some it → Cancels w (s ++ t ∷ []) (raise_count t p)
    (V w (s ++ t ∷ []) (raise_count t p))) where
  unseen_meets : (t : ℕ) → IsPendingAs p id (OfTask t) → has_seen s t ≡ false → (o : Option Task) → slice_get p.tasks t ≡ o
      → Cancels id s p (cancel_unseen V t o s p)
  unseen_meets t is n None e = no_task is n e
  unseen_meets t is n (Some it) e = go it.waiter refl
    where
      go : (waiter : Option ℕ) → it.waiter ≡ waiter → Cancels id s p (cancel_waiter V t waiter (s ++ t ∷ []) (raise_count t p))
      go None w = task {request = answers false (s ++ t ∷ []) (raise_count t p)} is n e
          (subst (λ o. CancelsWaiter o (s ++ t ∷ []) (raise_count t p) (answers false (s ++ t ∷ []) (raise_count t p))) (sym w) waits_not)
      go (Some on) w = task is n e
          (subst (λ o. CancelsWaiter o (s ++ t ∷ []) (raise_count t p) (V on (s ++ t ∷ []) (raise_count t p))) (sym w) (waits (waiter_meets t it on n e)))

  task_meets : (t : ℕ) → IsPendingAs p id (OfTask t) → (seen : Bool) → has_seen s t ≡ seen → Cancels id s p (cancel_task_where V seen t s p)
  task_meets t is true n = visited is n
  task_meets t is false n = unseen_meets t is n (slice_get p.tasks t) refl

  kind_meets : (k : FutureKind) → IsPendingAs p id k → Cancels id s p (cancel_kind F V k id s p)
  kind_meets Plain is = plain is
  kind_meets (OfTask t) is = task_meets t is (has_seen s t) refl
  kind_meets (Many members asked) is = many is (members_meet members)

  until_meets : (future : Future) → slice_get p.futures id ≡ Some future → (o : Option Outcome) → future.outcome ≡ o
      → Cancels id s p (cancel_until F V o future.kind id s p)
  until_meets future e (Some outcome) o = done (ap is_pending_at e ∙ ap is_none o)
  until_meets future e None o = kind_meets future.kind (record { future = future; found = e; pending = o; kind_is = refl })

  at_meets : (o : Option Future) → slice_get p.futures id ≡ o → Cancels id s p (cancel_at F V o id s p)
  at_meets None e = done (ap is_pending_at e)
  at_meets (Some future) e = until_meets future e future.outcome refl

  by_meets : Cancels id s p (cancel_by F V id s p)
  by_meets = at_meets (slice_get p.futures id) refl

abbrev MeetsBelow : ℕ → Canceller → Type 0
MeetsBelow n V = (id : ℕ) (s : List ℕ) (p : Parts) → left (length p.tasks) s < n → Cancels id s p (V id s p)

below_meets : (bound n : ℕ) (V : Canceller) → IsRow V → MeetsBelow n V → (id : ℕ) (s : List ℕ) (p : Parts)
    → id < bound → left (length p.tasks) s ≤ n → Cancels id s p (cancel_below bound V id s p)
below_meets zero n V row meet id s p b h = absurd (omega arith)
below_meets (suc bound) n V row meet id s p b h =
    by_meets (cancel_below bound V) V id s p
    (λ members. each_meets (λ t q. left (length q.tasks) t ≤ n) (cancel_below bound V) id
    (λ m t q k. let f = no_more (below_row bound V row m t q) in omega arith)
    (λ m t q below k. below_meets bound n V row meet m t q (omega arith) k) members s p h)
    (λ t it w un e. let f = fewer s p t it un e in meet w (s ++ t ∷ []) (raise_count t p) (omega arith))

within_meets : (n : ℕ) (id : ℕ) (s : List ℕ) (p : Parts) → left (length p.tasks) s < n → Cancels id s p (cancel_within n id s p)
within_meets zero id s p h = absurd (omega arith)
within_meets (suc n) id s p h =
    below_meets (suc id) (left (length p.tasks) s) (cancel_within n) (within_row n)
    (λ i t q l. within_meets n i t q (omega arith)) id s p (omega arith) (omega arith)

pub cancel_meets : (id : ℕ) (s : List ℕ) (p : Parts) → Cancels id s p (cancel_with id s p)
cancel_meets id s p =
    let l = left_le (length p.tasks) s in within_meets (suc (length p.tasks)) id s p (omega arith)

-- ---- and nothing else does
not_pending : (F V : Canceller) (id : ℕ) (s : List ℕ) (p : Parts) (o : Option Future) → is_pending_at o ≡ false → cancel_at F V o id s p ≡ answers false s p
not_pending F V id s p None h = refl
not_pending F V id s p (Some future) h = go future.outcome h
  where
    go : (o : Option Outcome) → is_none o ≡ false → cancel_until F V o future.kind id s p ≡ answers false s p
    go (Some outcome) n = refl
    go None n = absurd (cc)

by_kind : (F V : Canceller) (id : ℕ) (s : List ℕ) (p : Parts) (k : FutureKind) → IsPendingAs p id k → cancel_by F V id s p ≡ cancel_kind F V k id s p
by_kind F V id s p k is =
    ap (λ o. cancel_at F V o id s p) is.found
    ∙ ap (λ o. cancel_until F V o is.future.kind id s p) is.pending
    ∙ ap (λ kind. cancel_kind F V kind id s p) is.kind_is

abbrev then_each : CancelRequest → CancelRequest → CancelRequest
then_each first others = record others { answer = first.answer || others.answer }

mutual
  pub only_cancel : {id : ℕ} {s : List ℕ} {p : Parts} {r : CancelRequest} → Cancels id s p r → cancel_with id s p ≡ r
  only_cancel {id = id} {s = s} {p = p} (done d) =
      cancel_with_itself id s p ∙ not_pending cancel_with cancel_with id s p (slice_get p.futures id) d
  only_cancel {id = id} {s = s} {p = p} (plain is) = cancel_with_itself id s p ∙ by_kind cancel_with cancel_with id s p Plain is
  only_cancel {id = id} {s = s} {p = p} (many {members = members} {asked = asked} is e) =
      cancel_with_itself id s p ∙ by_kind cancel_with cancel_with id s p (Many members asked) is
      ∙ ap (λ (r : CancelRequest). asked_where r.answer id r) (only_each e)
  only_cancel {id = id} {s = s} {p = p} (visited {task = t} is n) =
      cancel_with_itself id s p ∙ by_kind cancel_with cancel_with id s p (OfTask t) is
      ∙ ap (λ b. cancel_task_where cancel_with b t s p) n
  only_cancel {id = id} {s = s} {p = p} (task {task = t} {it = it} is n e w) =
      cancel_with_itself id s p ∙ by_kind cancel_with cancel_with id s p (OfTask t) is
      ∙ ap (λ b. cancel_task_where cancel_with b t s p) n
      ∙ ap (λ o. cancel_unseen cancel_with t o s p) e
      ∙ only_waiter t w
  only_cancel {id = id} {s = s} {p = p} (no_task {task = t} is n e) =
      cancel_with_itself id s p ∙ by_kind cancel_with cancel_with id s p (OfTask t) is
      ∙ ap (λ b. cancel_task_where cancel_with b t s p) n
      ∙ ap (λ o. cancel_unseen cancel_with t o s p) e

  only_each : {ids s : List ℕ} {p : Parts} {r : CancelRequest} → CancelsEach ids s p r → cancel_each cancel_with ids s p ≡ r
  only_each none = refl
  only_each {s = s} {p = p} (each {id = id} {ids = ids} {first = first} {others = others} c e) =
      ap (λ (f : CancelRequest). then_each f (cancel_each cancel_with ids f.seen f.parts)) (only_cancel c)
      ∙ ap (then_each first) (only_each e)

  only_waiter : (t : ℕ) {o : Option ℕ} {s : List ℕ} {p : Parts} {r : CancelRequest} → CancelsWaiter o s p r
      → cancel_waiter cancel_with t o s p ≡ must_cancel_unless r.answer t r
  only_waiter t waits_not = refl
  only_waiter t (waits c) = ap (λ (r : CancelRequest). must_cancel_unless r.answer t r) (only_cancel c)
