-- A cancel request as a row of small changes. Each law about requests is proved of one change.
use Rattle.std.proofs.Common.{◌≡◌, ℕ, zero, suc, ◌≤◌, Bool, true, false, List, [], ◌∷◌, ◌++◌, Option, Some, None, length, slice_get, refl, ap, sym, ◌∙◌}
use Rattle.std.proofs.Common.{append_assoc, append-nil}
use Rattle.model_value.specs.declared.outcome.Outcome.TheVariants.{Cancelled}
use Rattle.model_value.specs.Value.{Outcome}
use Rattle.model_loop.specs.Parts.{FutureKind, Plain, OfTask, Many, Future, Task, Parts}
use Rattle.model_loop.specs.Futures.{made_before, settle, mark_asked}
use Rattle.model_loop.specs.Tasks.{set_must_cancel, raise_count}
use Rattle.model_loop.specs.Cancel.{CancelRequest, Canceller, has_seen, cancel_each, cancel_by, cancel_below, cancel_within, cancel_with}
use Rattle.law_cancel.proofs.CancelCases.{asked_where, must_cancel_unless, cancel_waiter, cancel_unseen, cancel_task_where, cancel_kind, cancel_until}
use Rattle.law_cancel.proofs.CancelCases.{cancel_at}
use Rattle.law_cancel.proofs.Lookups.{get-set_kept}
use Rattle.law_cancel.proofs.Effects.{settle-futures, settle-tasks, done_as, mark_asked-futures, mark_asked-tasks, asked_as, length-change_task}
use Rattle.law_cancel.proofs.Effects.{change_task-futures}
use Rattle.law_cancel.proofs.Seen.{left, left_falls}

-- From the parts p, with the tasks s visited, changes lead on.
pub data Goes (s : List ℕ) (p : Parts) : List ℕ → Parts → Type 0 where
  begins : Goes s p s p
  -- a pending future that is no task's and stands for no others is cancelled
  settles : {t : List ℕ} {q : Parts} → Goes s p t q → (id : ℕ) (future : Future) → slice_get q.futures id ≡ Some future → future.outcome ≡ None → future.kind
      ≡ Plain → Goes s p t (settle id Cancelled q)
  -- a pending one that stands for others keeps that it was asked
  asks : {t : List ℕ} {q : Parts} → Goes s p t q → (id : ℕ) (future : Future) (members : List ℕ) (asked : Bool) → slice_get q.futures id ≡ Some future
      → future.outcome ≡ None → future.kind ≡ Many members asked → Goes s p t (mark_asked id q)
  -- a task that wasn't visited counts
  raises : {t : List ℕ} {q : Parts} → Goes s p t q → (id : ℕ) (task : Task) → has_seen t id ≡ false → slice_get q.tasks id ≡ Some task
      → Goes s p (t ++ id ∷ []) (raise_count id q)
  -- a task must cancel
  sets_must_cancel : {t : List ℕ} {q : Parts} → Goes s p t q → (id : ℕ) → Goes s p t (set_must_cancel id q)

pub goes_on : {s t : List ℕ} {p q : Parts} {u : List ℕ} {r : Parts} → Goes s p t q → Goes t q u r → Goes s p u r
goes_on g begins = g
goes_on g (settles h id future e o k) = settles (goes_on g h) id future e o k
goes_on g (asks h id future members asked e o k) = asks (goes_on g h) id future members asked e o k
goes_on g (raises h id task n e) = raises (goes_on g h) id task n e
goes_on g (sets_must_cancel h id) = sets_must_cancel (goes_on g h) id

-- the tasks stay as many
pub goes-tasks : {s : List ℕ} {p : Parts} {t : List ℕ} {q : Parts} → Goes s p t q → length q.tasks ≡ length p.tasks
goes-tasks begins = refl
goes-tasks (settles {q = q} g id future e o k) = ap length (settle-tasks id Cancelled q) ∙ goes-tasks g
goes-tasks (asks {q = q} g id future members asked e o k) = ap length (mark_asked-tasks id q) ∙ goes-tasks g
goes-tasks (raises {q = q} g id task n e) = length-change_task id _ q ∙ goes-tasks g
goes-tasks (sets_must_cancel {q = q} g id) = length-change_task id _ q ∙ goes-tasks g

-- more and more tasks were visited
pub goes-seen : {s : List ℕ} {p : Parts} {t : List ℕ} {q : Parts} → Goes s p t q → (u : List ℕ) × (t ≡ s ++ u)
goes-seen {s} begins = ([], sym (append-nil s))
goes-seen (settles g id future e o k) = goes-seen g
goes-seen (asks g id future members asked e o k) = goes-seen g
goes-seen {s} (raises g id task n e) =
    let h = goes-seen g in
    (h.0 ++ id ∷ [], ap (λ (x : List ℕ). x ++ id ∷ []) h.1 ∙ append_assoc s h.0 (id ∷ []))
goes-seen (sets_must_cancel g id) = goes-seen g

pub goes-left : {s : List ℕ} {p : Parts} {t : List ℕ} {q : Parts} (n : ℕ) → Goes s p t q → left n t ≤ left n s
goes-left {s} n g = let h = goes-seen g in rw h.1 (left_falls n s h.0)

-- which futures are pending and stand for others stays the same
abbrev pub kind_many : FutureKind → Bool
kind_many (Many members asked) = true
kind_many _ = false

abbrev pub pending_many : Option Outcome → FutureKind → Bool
pending_many None kind = kind_many kind
pending_many (Some outcome) kind = false

abbrev pub is_pending_many : Option Future → Bool
is_pending_many None = false
is_pending_many (Some future) = pending_many future.outcome future.kind

pub goes-many : {s : List ℕ} {p : Parts} {t : List ℕ} {q : Parts} → Goes s p t q → (j : ℕ) → is_pending_many (slice_get q.futures j)
    ≡ is_pending_many (slice_get p.futures j)
goes-many begins j = refl
goes-many (settles {q = q} g id future e o k) j =
    ap (λ (fs : List Future). is_pending_many (slice_get fs j)) (settle-futures id Cancelled q future e o)
    ∙ get-set_kept is_pending_many q.futures id j future (done_as Cancelled future) e (rw (o, k)) ∙ goes-many g j
goes-many (asks {q = q} g id future members asked e o k) j =
    ap (λ (fs : List Future). is_pending_many (slice_get fs j)) (mark_asked-futures id q future e)
    ∙ get-set_kept is_pending_many q.futures id j future (asked_as future) e (rw (o, k)) ∙ goes-many g j
goes-many (raises {q = q} g id task n e) j =
    ap (λ (fs : List Future). is_pending_many (slice_get fs j)) (change_task-futures id _ q) ∙ goes-many g j
goes-many (sets_must_cancel {q = q} g id) j =
    ap (λ (fs : List Future). is_pending_many (slice_get fs j)) (change_task-futures id _ q) ∙ goes-many g j

-- ---- a request is such a row
abbrev pub IsRow : Canceller → Type 0
IsRow cancel = (id : ℕ) (s : List ℕ) (p : Parts) → Goes s p (cancel id s p).seen (cancel id s p).parts

abbrev Row : List ℕ → Parts → CancelRequest → Type 0
Row s p r = Goes s p r.seen r.parts

pub each_row : (cancel : Canceller) → IsRow cancel → (ids s : List ℕ) (p : Parts) → Row s p (cancel_each cancel ids s p)
each_row cancel row [] s p = begins
each_row cancel row (id ∷ ids) s p =
    let first = cancel id s p in
    goes_on (row id s p) (each_row cancel row ids first.seen first.parts)

-- a pending future that stands for others, out of the test
pub record IsMany (o : Option Future) : Type 0 where
  pub future : Future
  pub members : List ℕ
  pub asked : Bool
  pub there : o ≡ Some future
  pub pending : future.outcome ≡ None
  pub many : future.kind ≡ Many members asked

pub many_there : (o : Option Future) → is_pending_many o ≡ true → IsMany o
many_there None h = absurd (cc)
many_there (Some future) h = go future.outcome future.kind refl refl h
  where
    go : (o : Option Outcome) (k : FutureKind) → future.outcome ≡ o → future.kind ≡ k → pending_many o k ≡ true → IsMany (Some future)
    go (Some outcome) k eo ek h = absurd (cc)
    go None Plain eo ek h = absurd (cc)
    go None (OfTask task) eo ek h = absurd (cc)
    go None (Many members asked) eo ek h =
        record { future = future; members = members; asked = asked; there = refl; pending = eo; many = ek }

asked_row : (s : List ℕ) (p : Parts) (answer : Bool) (id : ℕ) (r : CancelRequest) → Row s p r → is_pending_many (slice_get r.parts.futures id) ≡ true
    → Row s p (asked_where answer id r)
asked_row s p false id r g h = g
asked_row s p true id r g h =
    let m = many_there (slice_get r.parts.futures id) h in
    asks g id m.future m.members m.asked m.there m.pending m.many

must_cancel_row : (s : List ℕ) (p : Parts) (answer : Bool) (task : ℕ) (r : CancelRequest) → Row s p r → Row s p (must_cancel_unless answer task r)
must_cancel_row s p true task r g = g
must_cancel_row s p false task r g = sets_must_cancel g task

waiter_row : (cancel : Canceller) → IsRow cancel → (task : ℕ) (waiter : Option ℕ) (s : List ℕ) (p : Parts) → Row s p (cancel_waiter cancel task waiter s p)
waiter_row cancel row task None s p = sets_must_cancel begins task
waiter_row cancel row task (Some waiter) s p =
    let r = cancel waiter s p in must_cancel_row s p r.answer task r (row waiter s p)

unseen_row : (cancel : Canceller) → IsRow cancel → (id : ℕ) (o : Option Task) (s : List ℕ) (p : Parts) → slice_get p.tasks id ≡ o → has_seen s id ≡ false
    → Row s p (cancel_unseen cancel id o s p)
unseen_row cancel row id None s p e n = begins
unseen_row cancel row id (Some task) s p e n =
    goes_on (raises begins id task n e) (waiter_row cancel row id task.waiter (s ++ id ∷ []) (raise_count id p))

task_row : (cancel : Canceller) → IsRow cancel → (seen : Bool) (id : ℕ) (s : List ℕ) (p : Parts) → has_seen s id ≡ seen
    → Row s p (cancel_task_where cancel seen id s p)
task_row cancel row true id s p n = begins
task_row cancel row false id s p n = unseen_row cancel row id (slice_get p.tasks id) s p refl n

kind_row : (member waiter : Canceller) → IsRow member → IsRow waiter → (id : ℕ) (s : List ℕ) (p : Parts) (future : Future) → slice_get p.futures id
    ≡ Some future → future.outcome ≡ None → (k : FutureKind) → future.kind ≡ k → Row s p (cancel_kind member waiter k id s p)
kind_row member waiter member_row waits_row id s p future e o Plain k = settles begins id future e o k
kind_row member waiter member_row waits_row id s p future e o (OfTask task) k = task_row waiter waits_row (has_seen s task) task s p refl
kind_row member waiter member_row waits_row id s p future e o (Many members asked) k =
    let r = cancel_each member (made_before id members) s p in
    let g = each_row member member_row (made_before id members) s p in
    let many : is_pending_many (slice_get r.parts.futures id) ≡ true = goes-many g id ∙ ap is_pending_many e ∙ rw (o, k) refl in
    asked_row s p r.answer id r g many

until_row : (member waiter : Canceller) → IsRow member → IsRow waiter → (id : ℕ) (s : List ℕ) (p : Parts) (future : Future) → slice_get p.futures id
    ≡ Some future → (o : Option Outcome) → future.outcome ≡ o → Row s p (cancel_until member waiter o future.kind id s p)
until_row member waiter member_row waits_row id s p future e (Some outcome) o = begins
until_row member waiter member_row waits_row id s p future e None o = kind_row member waiter member_row waits_row id s p future e o future.kind refl

at_row : (member waiter : Canceller) → IsRow member → IsRow waiter → (id : ℕ) (s : List ℕ) (p : Parts) (o : Option Future) → slice_get p.futures id ≡ o
    → Row s p (cancel_at member waiter o id s p)
at_row member waiter member_row waits_row id s p None e = begins
at_row member waiter member_row waits_row id s p (Some future) e = until_row member waiter member_row waits_row id s p future e future.outcome refl

pub by_row : (member waiter : Canceller) → IsRow member → IsRow waiter → IsRow (cancel_by member waiter)
by_row member waiter member_row waits_row id s p = at_row member waiter member_row waits_row id s p (slice_get p.futures id) refl

pub below_row : (bound : ℕ) (waiter : Canceller) → IsRow waiter → IsRow (cancel_below bound waiter)
below_row zero waiter row id s p = begins
below_row (suc bound) waiter row id s p =
    by_row (cancel_below bound waiter) waiter (below_row bound waiter row) row id s p

pub within_row : (tasks : ℕ) → IsRow (cancel_within tasks)
within_row zero id s p = begins
within_row (suc tasks) id s p = below_row (suc id) (cancel_within tasks) (within_row tasks) id s p

pub with_row : IsRow cancel_with
with_row id s p = within_row (suc (length p.tasks)) id s p
