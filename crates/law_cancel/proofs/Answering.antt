-- What a request answers: false exactly where its target is spent, and then it changes nothing.
use Rattle.std.proofs.Common.{◌≡◌, ℕ, zero, suc, ◌<◌, Bool, true, false, cond, not, ◌&&◌, List, [], ◌∷◌, ◌++◌, Option, Some, None, length, nat_lt, slice_get}
use Rattle.std.proofs.Common.{refl, ap, sym, ◌∙◌, arith}
use Rattle.std.specs.List.{list_all}
use Rattle.std.proofs.lemmas.Bool.{ltb-true, or_parts}
use Rattle.model_value.specs.Value.{Outcome}
use Rattle.model_loop.specs.Parts.{FutureKind, Plain, OfTask, Many, Future, Task, Parts}
use Rattle.model_loop.specs.Futures.{made_before}
use Rattle.model_loop.specs.Tasks.{raise_count}
use Rattle.model_loop.specs.Spent.{spent_by, spent_below, is_spent}
use Rattle.model_loop.specs.Cancel.{CancelRequest, Canceller, answers, has_seen, cancel_each, cancel_below, cancel_within, cancel_with}
use Rattle.law_cancel.proofs.SpentCases.{spent_kind, spent_until}
use Rattle.law_cancel.proofs.CancelCases.{asked_where, must_cancel_unless, cancel_waiter, cancel_unseen, cancel_task_where, cancel_kind, cancel_until}
use Rattle.law_cancel.proofs.CancelCases.{cancel_at}
use Rattle.law_cancel.proofs.Total.{further}

-- ---- spent futures: a greater bound changes nothing
pub all_same : (f g : ℕ → Bool) (id : ℕ) → ((m : ℕ) → m < id → f m ≡ g m) → (members : List ℕ) → list_all f (made_before id members)
    ≡ list_all g (made_before id members)
all_same f g id same [] = refl
all_same f g id same (m ∷ members) =
    go (nat_lt m id) refl (all_same f g id same members)
  where
    go : (b : Bool) → nat_lt m id ≡ b → list_all f (made_before id members) ≡ list_all g (made_before id members)
        → list_all f (cond b (m ∷ made_before id members) (made_before id members)) ≡ list_all g (cond b (m ∷ made_before id members) (made_before id members))
    go false e ih = ih
    go true e ih = rw (same m (ltb-true m id e), ih)

pub spent_by_same : (f g : ℕ → Bool) (id : ℕ) → ((m : ℕ) → m < id → f m ≡ g m) → (o : Option Future) → spent_by f o id ≡ spent_by g o id
spent_by_same f g id same None = refl
spent_by_same f g id same (Some future) = until future.outcome future.kind
  where
    kind : (k : FutureKind) → spent_kind f k id ≡ spent_kind g k id
    kind Plain = refl
    kind (OfTask task) = refl
    kind (Many members asked) = all_same f g id same members

    until : (o : Option Outcome) (k : FutureKind) → spent_until f o k id ≡ spent_until g o k id
    until (Some outcome) k = refl
    until None k = kind k

spent_bounds : (b c : ℕ) (p : Parts) (id : ℕ) → id < b → id < c → spent_below b p id ≡ spent_below c p id
spent_bounds zero c p id h k = absurd (omega arith)
spent_bounds (suc b) zero p id h k = absurd (omega arith)
spent_bounds (suc b) (suc c) p id h k =
    spent_by_same (spent_below b p) (spent_below c p) id (λ m below. spent_bounds b c p m (omega arith) (omega arith)) (slice_get p.futures id)

pub spent_by_itself : (p : Parts) (id : ℕ) → is_spent p id ≡ spent_by (is_spent p) (slice_get p.futures id) id
spent_by_itself p id =
    spent_by_same (spent_below id p) (is_spent p) id (λ m below. spent_bounds id (suc m) p m below (omega arith)) (slice_get p.futures id)

-- ---- a request to a task answers true
must_cancel_answers : (answer : Bool) (task : ℕ) (r : CancelRequest) → r.answer ≡ answer → (must_cancel_unless answer task r).answer ≡ true
must_cancel_answers true task r e = e
must_cancel_answers false task r e = refl

waiter_answers : (cancel : Canceller) (task : ℕ) (waiter : Option ℕ) (s : List ℕ) (p : Parts) → (cancel_waiter cancel task waiter s p).answer ≡ true
waiter_answers cancel task None s p = refl
waiter_answers cancel task (Some waiter) s p = must_cancel_answers (cancel waiter s p).answer task (cancel waiter s p) refl

unseen_answers : (cancel : Canceller) (id : ℕ) (o : Option Task) (s : List ℕ) (p : Parts) → (cancel_unseen cancel id o s p).answer ≡ true
unseen_answers cancel id None s p = refl
unseen_answers cancel id (Some task) s p = waiter_answers cancel id task.waiter (s ++ id ∷ []) (raise_count id p)

task_answers : (cancel : Canceller) (seen : Bool) (id : ℕ) (s : List ℕ) (p : Parts) → (cancel_task_where cancel seen id s p).answer ≡ true
task_answers cancel true id s p = refl
task_answers cancel false id s p = unseen_answers cancel id (slice_get p.tasks id) s p

asked_answers : (answer : Bool) (id : ℕ) (r : CancelRequest) → (asked_where answer id r).answer ≡ r.answer
asked_answers true id r = refl
asked_answers false id r = refl

-- ---- where the answer is false, nothing changed
abbrev Still : Canceller → Type 0
Still cancel = (id : ℕ) (s : List ℕ) (p : Parts) → (cancel id s p).answer ≡ false → cancel id s p ≡ answers false s p

each_still : (cancel : Canceller) → Still cancel → (ids s : List ℕ) (p : Parts) → (cancel_each cancel ids s p).answer ≡ false → cancel_each cancel ids s p
    ≡ answers false s p
each_still cancel still [] s p h = refl
each_still cancel still (id ∷ ids) s p h =
    let first = cancel id s p in
    let e : first ≡ answers false s p = still id s p (or_parts first.answer (cancel_each cancel ids first.seen first.parts).answer h).0 in
    let on : further first cancel ids ≡ cancel_each cancel ids s p = ap (λ (r : CancelRequest). further r cancel ids) e in
    on ∙ each_still cancel still ids s p (sym (ap (λ (r : CancelRequest). r.answer) on) ∙ h)

asked_still : (answer : Bool) (id : ℕ) (s : List ℕ) (p : Parts) (r : CancelRequest) → r.answer ≡ answer → (r.answer ≡ false → r ≡ answers false s p)
    → (asked_where answer id r).answer ≡ false → asked_where answer id r ≡ answers false s p
asked_still true id s p r e still h = absurd (cc)
asked_still false id s p r e still h = still h

kind_still : (member waiter : Canceller) → Still member → (k : FutureKind) (id : ℕ) (s : List ℕ) (p : Parts) → (cancel_kind member waiter k id s p).answer
    ≡ false → cancel_kind member waiter k id s p ≡ answers false s p
kind_still member waiter still Plain id s p h = absurd (cc)
kind_still member waiter still (OfTask task) id s p h =
    let t = task_answers waiter (has_seen s task) task s p in absurd (cc)
kind_still member waiter still (Many members asked) id s p h =
    let r = cancel_each member (made_before id members) s p in
    asked_still r.answer id s p r refl (each_still member still (made_before id members) s p) h

at_still : (member waiter : Canceller) → Still member → (o : Option Future) (id : ℕ) (s : List ℕ) (p : Parts) → (cancel_at member waiter o id s p).answer
    ≡ false → cancel_at member waiter o id s p ≡ answers false s p
at_still member waiter still None id s p h = refl
at_still member waiter still (Some future) id s p h = until future.outcome future.kind h
  where
    until : (o : Option Outcome) (k : FutureKind) → (cancel_until member waiter o k id s p).answer ≡ false → cancel_until member waiter o k id s p
        ≡ answers false s p
    until (Some outcome) k h = refl
    until None k h = kind_still member waiter still k id s p h

pub below_still : (bound : ℕ) (waiter : Canceller) → Still (cancel_below bound waiter)
below_still zero waiter id s p h = refl
below_still (suc bound) waiter id s p h =
    at_still (cancel_below bound waiter) waiter (below_still bound waiter) (slice_get p.futures id) id s p h

pub with_still : Still cancel_with
with_still id s p h = below_still (suc id) (cancel_within (length p.tasks)) id s p h

-- ---- the answer
abbrev AnswersBy : (ℕ → Bool) → Parts → Canceller → Type 0
AnswersBy spent p cancel = (id : ℕ) (s : List ℕ) → (cancel id s p).answer ≡ not (spent id)

each_answer : (spent : ℕ → Bool) (p : Parts) (cancel : Canceller) → Still cancel → AnswersBy spent p cancel → (ids s : List ℕ)
    → (cancel_each cancel ids s p).answer ≡ not (list_all spent ids)
each_answer spent p cancel still by [] s = refl
each_answer spent p cancel still by (id ∷ ids) s =
    go (spent id) (by id s) (each_answer spent p cancel still by ids s)
  where
    first : CancelRequest
    first = cancel id s p

    go : (b : Bool) → (cancel id s p).answer ≡ not b → (cancel_each cancel ids s p).answer ≡ not (list_all spent ids)
        → (further (cancel id s p) cancel ids).answer ≡ not (b && list_all spent ids)
    go false e ih = rw e refl
    go true e ih = ap (λ (r : CancelRequest). (further r cancel ids).answer) (still id s p e) ∙ ih

at_answer : (spent : ℕ → Bool) (p : Parts) (member waiter : Canceller) → Still member → AnswersBy spent p member → (o : Option Future) (id : ℕ) (s : List ℕ)
    → (cancel_at member waiter o id s p).answer ≡ not (spent_by spent o id)
at_answer spent p member waiter still by None id s = refl
at_answer spent p member waiter still by (Some future) id s = until future.outcome future.kind
  where
    kind : (k : FutureKind) → (cancel_kind member waiter k id s p).answer ≡ not (spent_kind spent k id)
    kind Plain = refl
    kind (OfTask task) = task_answers waiter (has_seen s task) task s p
    kind (Many members asked) =
        let r = cancel_each member (made_before id members) s p in
        asked_answers r.answer id r ∙ each_answer spent p member still by (made_before id members) s

    until : (o : Option Outcome) (k : FutureKind) → (cancel_until member waiter o k id s p).answer ≡ not (spent_until spent o k id)
    until (Some outcome) k = refl
    until None k = kind k

pub below_answer : (bound : ℕ) (waiter : Canceller) (p : Parts) → AnswersBy (spent_below bound p) p (cancel_below bound waiter)
below_answer zero waiter p id s = refl
below_answer (suc bound) waiter p id s =
    at_answer (spent_below bound p) p (cancel_below bound waiter) waiter (below_still bound waiter) (below_answer bound waiter p) (slice_get p.futures id) id s

pub with_answer_spent : (id : ℕ) (s : List ℕ) (p : Parts) → (cancel_with id s p).answer ≡ not (is_spent p id)
with_answer_spent id s p = below_answer (suc id) (cancel_within (length p.tasks)) p id s
