-- A cancel request as a row of small changes, where a task must cancel only if it waits for nothing that can be cancelled.
use Rattle.std.proofs.Common.{◌≡◌, ℕ, zero, suc, ◌<◌, ◌⊎◌, Bool, true, false, List, [], ◌∷◌, ◌++◌, Option, Some, None, length, slice_get, refl, ap, sym, ◌∙◌}
use Rattle.std.proofs.Common.{inl, inr, arith}
use Rattle.std.specs.Option.{option_map_or}
use Rattle.std.proofs.lemmas.Bool.{not-false}
use Rattle.model_value.specs.declared.outcome.Outcome.TheVariants.{Cancelled}
use Rattle.model_value.specs.Value.{Outcome}
use Rattle.model_loop.specs.Parts.{FutureKind, Plain, OfTask, Many, Future, Task, Parts}
use Rattle.model_loop.specs.Futures.{made_before, settle, mark_asked}
use Rattle.model_loop.specs.Tasks.{set_must_cancel, raise_count, waiter_of}
use Rattle.model_loop.specs.Spent.{is_spent}
use Rattle.model_loop.specs.Cancel.{CancelRequest, Canceller, answers, has_seen, cancel_each, cancel_below, cancel_within, cancel_with}
use Rattle.law_cancel.proofs.CancelCases.{asked_where, must_cancel_unless, cancel_waiter, cancel_unseen, cancel_task_where, cancel_kind, cancel_until}
use Rattle.law_cancel.proofs.CancelCases.{cancel_at}
use Rattle.law_cancel.proofs.Counting.{change_task-kept}
use Rattle.law_cancel.proofs.Answering.{below_still, below_answer}
use Rattle.law_cancel.proofs.Seen.{left, left_le}
use Rattle.law_cancel.proofs.Total.{fewer, no_more}
use Rattle.law_cancel.proofs.Trace as row

-- a task that waits for nothing, or for what can't be cancelled
abbrev pub CanMustCancel : Parts → ℕ → Type 0
CanMustCancel p id = (waiter_of p id ≡ None) ⊎ ((on : ℕ) × (waiter_of p id ≡ Some on) × (is_spent p on ≡ true))

pub data Spreads (s : List ℕ) (p : Parts) : List ℕ → Parts → Type 0 where
  begins : Spreads s p s p
  settles : {t : List ℕ} {q : Parts} → Spreads s p t q → (id : ℕ) (future : Future) → slice_get q.futures id ≡ Some future → future.outcome ≡ None
      → future.kind ≡ Plain → Spreads s p t (settle id Cancelled q)
  asks : {t : List ℕ} {q : Parts} → Spreads s p t q → (id : ℕ) (future : Future) (members : List ℕ) (asked : Bool) → slice_get q.futures id ≡ Some future
      → future.outcome ≡ None → future.kind ≡ Many members asked → Spreads s p t (mark_asked id q)
  raises : {t : List ℕ} {q : Parts} → Spreads s p t q → (id : ℕ) (task : Task) → has_seen t id ≡ false → slice_get q.tasks id ≡ Some task
      → Spreads s p (t ++ id ∷ []) (raise_count id q)
  sets_must_cancel : {t : List ℕ} {q : Parts} → Spreads s p t q → (id : ℕ) → CanMustCancel q id → Spreads s p t (set_must_cancel id q)

pub spreads_on : {s t : List ℕ} {p q : Parts} {u : List ℕ} {r : Parts} → Spreads s p t q → Spreads t q u r → Spreads s p u r
spreads_on g begins = g
spreads_on g (settles h id future e o k) = settles (spreads_on g h) id future e o k
spreads_on g (asks h id future members asked e o k) = asks (spreads_on g h) id future members asked e o k
spreads_on g (raises h id task n e) = raises (spreads_on g h) id task n e
spreads_on g (sets_must_cancel h id m) = sets_must_cancel (spreads_on g h) id m

pub as_row : {s : List ℕ} {p : Parts} {t : List ℕ} {q : Parts} → Spreads s p t q → row.Goes s p t q
as_row begins = row.begins
as_row (settles g id future e o k) = row.settles (as_row g) id future e o k
as_row (asks g id future members asked e o k) = row.asks (as_row g) id future members asked e o k
as_row (raises g id task n e) = row.raises (as_row g) id task n e
as_row (sets_must_cancel g id m) = row.sets_must_cancel (as_row g) id

-- ---- a request is such a row, where fewer than so many tasks are left
abbrev IsRow : ℕ → Canceller → Type 0
IsRow n cancel = (id : ℕ) (s : List ℕ) (p : Parts) → left (length p.tasks) s < n → Spreads s p (cancel id s p).seen (cancel id s p).parts

-- and tells where it did nothing
abbrev Tells : ℕ → Canceller → Type 0
Tells n cancel = (id : ℕ) (s : List ℕ) (p : Parts) → left (length p.tasks) s < n → (cancel id s p).answer ≡ false
    → (cancel id s p ≡ answers false s p) × (is_spent p id ≡ true)

abbrev Row : List ℕ → Parts → CancelRequest → Type 0
Row s p r = Spreads s p r.seen r.parts

each_row : (n : ℕ) (cancel : Canceller) → IsRow n cancel → (ids s : List ℕ) (p : Parts) → left (length p.tasks) s < n → Row s p (cancel_each cancel ids s p)
each_row n cancel is [] s p l = begins
each_row n cancel is (id ∷ ids) s p l =
    let first = cancel id s p in
    let g = is id s p l in
    let f = no_more (as_row g) in
    spreads_on g (each_row n cancel is ids first.seen first.parts (omega arith))

asked_row : (s : List ℕ) (p : Parts) (answer : Bool) (id : ℕ) (r : CancelRequest) → Row s p r → row.is_pending_many (slice_get r.parts.futures id) ≡ true
    → Row s p (asked_where answer id r)
asked_row s p false id r g h = g
asked_row s p true id r g h =
    let m = row.many_there (slice_get r.parts.futures id) h in
    asks g id m.future m.members m.asked m.there m.pending m.many

must_cancel_row : (s : List ℕ) (p : Parts) (answer : Bool) (task : ℕ) (r : CancelRequest) → Row s p r → (answer ≡ false → CanMustCancel r.parts task)
    → Row s p (must_cancel_unless answer task r)
must_cancel_row s p true task r g m = g
must_cancel_row s p false task r g m = sets_must_cancel g task (m refl)

raised-waiter : (id : ℕ) (p : Parts) (task : Task) → slice_get p.tasks id ≡ Some task → (w : Option ℕ) → task.waiter ≡ w → waiter_of (raise_count id p) id ≡ w
raised-waiter id p task e w h =
    change_task-kept (λ (o : Option Task). option_map_or (λ (t : Task). t.waiter) o None) id _ p (λ t. refl) id
    ∙ ap (λ (o : Option Task). option_map_or (λ (t : Task). t.waiter) o None) e ∙ h

module _ (n : ℕ) (waiter : Canceller) (is : IsRow n waiter) (tells : Tells n waiter) where
  waiter_row : (task : ℕ) (w : Option ℕ) (s : List ℕ) (p : Parts) → left (length p.tasks) s < n → waiter_of p task ≡ w
      → Row s p (cancel_waiter waiter task w s p)
  waiter_row task None s p l e = sets_must_cancel begins task (inl e)
  waiter_row task (Some w) s p l e =
      let r = waiter w s p in
      must_cancel_row s p r.answer task r (is w s p l) (λ f.
      let t = tells w s p l f in
      inr (w, ap (λ (q : CancelRequest). waiter_of q.parts task) t.0 ∙ e, ap (λ (q : CancelRequest). is_spent q.parts w) t.0 ∙ t.1))

  unseen_row : (id : ℕ) (o : Option Task) (s : List ℕ) (p : Parts) → left (length p.tasks) s < suc n → slice_get p.tasks id ≡ o → has_seen s id ≡ false
      → Row s p (cancel_unseen waiter id o s p)
  unseen_row id None s p l e un = begins
  unseen_row id (Some task) s p l e un =
      let f = fewer s p id task un e in
      spreads_on (raises begins id task un e)
      (waiter_row id task.waiter (s ++ id ∷ []) (raise_count id p) (omega arith) (raised-waiter id p task e task.waiter refl))

  task_row : (seen : Bool) (id : ℕ) (s : List ℕ) (p : Parts) → left (length p.tasks) s < suc n → has_seen s id ≡ seen
      → Row s p (cancel_task_where waiter seen id s p)
  task_row true id s p l e = begins
  task_row false id s p l e = unseen_row id (slice_get p.tasks id) s p l refl e

  module _ (member : Canceller) (member_is : IsRow (suc n) member) where
    kind_row : (id : ℕ) (s : List ℕ) (p : Parts) → left (length p.tasks) s < suc n → (future : Future) → slice_get p.futures id ≡ Some future
        → future.outcome ≡ None → (k : FutureKind) → future.kind ≡ k → Row s p (cancel_kind member waiter k id s p)
    kind_row id s p l future e o Plain k = settles begins id future e o k
    kind_row id s p l future e o (OfTask task) k = task_row (has_seen s task) task s p l refl
    kind_row id s p l future e o (Many members asked) k =
        let r = cancel_each member (made_before id members) s p in
        let g = each_row (suc n) member member_is (made_before id members) s p l in
        let many : row.is_pending_many (slice_get r.parts.futures id) ≡ true = row.goes-many (as_row g) id ∙ ap row.is_pending_many e ∙ rw (o, k) refl in
        asked_row s p r.answer id r g many

    until_row : (id : ℕ) (s : List ℕ) (p : Parts) → left (length p.tasks) s < suc n → (future : Future) → slice_get p.futures id ≡ Some future
        → (o : Option Outcome) → future.outcome ≡ o → Row s p (cancel_until member waiter o future.kind id s p)
    until_row id s p l future e (Some outcome) o = begins
    until_row id s p l future e None o = kind_row id s p l future e o future.kind refl

    at_row : (id : ℕ) (s : List ℕ) (p : Parts) → left (length p.tasks) s < suc n → (o : Option Future) → slice_get p.futures id ≡ o
        → Row s p (cancel_at member waiter o id s p)
    at_row id s p l None e = begins
    at_row id s p l (Some future) e = until_row id s p l future e future.outcome refl

  below_row : (bound : ℕ) → IsRow (suc n) (cancel_below bound waiter)
  below_row zero id s p l = begins
  below_row (suc bound) id s p l =
      at_row (cancel_below bound waiter) (below_row bound) id s p l (slice_get p.futures id) refl

within_tells : (n : ℕ) → Tells n (cancel_within n)
within_tells zero id s p l e = absurd (omega (arith, l))
within_tells (suc n) id s p l e =
    (below_still (suc id) (cancel_within n) id s p e, not-false (is_spent p id) (sym (below_answer (suc id) (cancel_within n) p id s) ∙ e))

within_row : (n : ℕ) → IsRow n (cancel_within n)
within_row zero id s p l = absurd (omega (arith, l))
within_row (suc n) id s p l = below_row n (cancel_within n) (within_row n) (within_tells n) (suc id) id s p l

pub with_spread : (id : ℕ) (s : List ℕ) (p : Parts) → Spreads s p (cancel_with id s p).seen (cancel_with id s p).parts
with_spread id s p = let h = left_le (length p.tasks) s in within_row (suc (length p.tasks)) id s p (omega arith)
