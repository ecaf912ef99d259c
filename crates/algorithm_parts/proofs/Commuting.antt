-- A request on the parts as something else sees them. Where that sees no difference in what a request reads, and what a
-- request does to the parts commutes with seeing them so, the whole request does.
use Rattle.std.proofs.Common.{◌≡◌, ℕ, zero, suc, Bool, true, false, List, [], ◌∷◌, ◌++◌, Option, Some, None, length, slice_get, slice_set, refl, ap}
use Rattle.std.proofs.Common.{◌∙◌}
use Rattle.std.specs.Option.{option_map_or}
use Rattle.model_value.specs.declared.outcome.Outcome.TheVariants.{Cancelled}
use Rattle.model_value.specs.Value.{Outcome}
use Rattle.model_loop.specs.Parts.{FutureKind, Plain, OfTask, Many, Future, Task, Parts}
use Rattle.model_loop.specs.Futures.{made_before, settle, mark_asked}
use Rattle.model_loop.specs.Tasks.{raise_count, change_task}
use Rattle.model_loop.specs.Cancel.{CancelRequest, Canceller, answers, has_seen, cancel_each, cancel_by, cancel_below, cancel_within, cancel}
use Rattle.law_cancel.proofs.CancelCases.{asked_where, must_cancel_unless, cancel_waiter, cancel_unseen, cancel_task_where, cancel_kind, cancel_until}
use Rattle.law_cancel.proofs.CancelCases.{cancel_at}
use Rattle.law_cancel.proofs.Trace.{Goes, IsRow, below_row, within_row}

abbrev pub seen_by : (Parts → Parts) → CancelRequest → CancelRequest
seen_by view r = record r { parts = view r.parts }

-- What sees no difference, where the parts are good, as a request leaves them.
pub record SeesRequests (view : Parts → Parts) (Good : Parts → Type 0) : Type 0 where
  pub goes : (s : List ℕ) (p : Parts) (t : List ℕ) (q : Parts) → Goes s p t q → Good p → Good q
  pub raised : (task : ℕ) (p : Parts) → Good p → Good (raise_count task p)
  pub tasks : (p : Parts) → (view p).tasks ≡ p.tasks
  pub put : (tasks : List Task) (p : Parts) → record (view p) { tasks = tasks } ≡ view (record p { tasks = tasks })
  pub future : (member waiter : Canceller) (id : ℕ) (s : List ℕ) (p q : Parts) → Good p
      → cancel_at member waiter (slice_get (view p).futures id) id s q ≡ cancel_at member waiter (slice_get p.futures id) id s q
  pub settles : (id : ℕ) (p : Parts) → Good p → settle id Cancelled (view p) ≡ view (settle id Cancelled p)
  pub asks : (id : ℕ) (p : Parts) → mark_asked id (view p) ≡ view (mark_asked id p)

module _ (view : Parts → Parts) (Good : Parts → Type 0) (sees : SeesRequests view Good) where
  pub changes : (id : ℕ) (change : Task → Task) (p : Parts) → change_task id change (view p) ≡ view (change_task id change p)
  changes id change p = ap at (sees.tasks p) ∙ so (slice_get p.tasks id)
    where
      at : List Task → Parts
      at ts = option_map_or (λ (task : Task). record (view p) { tasks = slice_set ts id (change task) }) (slice_get ts id) (view p)

      so : (o : Option Task)
          → option_map_or (λ (task : Task). record (view p) { tasks = slice_set p.tasks id (change task) }) o (view p)
          ≡ view (option_map_or (λ (task : Task). record p { tasks = slice_set p.tasks id (change task) }) o p)
      so None = refl
      so (Some task) = sees.put (slice_set p.tasks id (change task)) p

  abbrev Commutes : Canceller → Type 0
  Commutes F = (id : ℕ) (s : List ℕ) (p : Parts) → Good p → F id s (view p) ≡ seen_by view (F id s p)

  each_commutes : (F : Canceller) → IsRow F → Commutes F → (ids : List ℕ) (s : List ℕ) (p : Parts) → Good p
      → cancel_each F ids s (view p) ≡ seen_by view (cancel_each F ids s p)
  each_commutes F row c [] s p good = refl
  each_commutes F row c (id ∷ ids) s p good =
      let r = F id s p in
      rw (c id s p good, each_commutes F row c ids r.seen r.parts (sees.goes s p r.seen r.parts (row id s p) good)) refl

  module _ (F V : Canceller) (frow : IsRow F) (fc : Commutes F) (vc : Commutes V) (id : ℕ) (s : List ℕ) (p : Parts) (good : Good p) where
    asked : (b : Bool) (r : CancelRequest) → asked_where b id (seen_by view r) ≡ seen_by view (asked_where b id r)
    asked true r = ap (λ q. record r { parts = q }) (sees.asks id r.parts)
    asked false r = refl

    must_cancel : (b : Bool) (t : ℕ) (r : CancelRequest) → must_cancel_unless b t (seen_by view r) ≡ seen_by view (must_cancel_unless b t r)
    must_cancel true t r = refl
    must_cancel false t r = ap (λ q. record r { parts = q; answer = true }) (changes t _ r.parts)

    waits : (t : ℕ) (w : Option ℕ) (u : List ℕ) (q : Parts) → Good q
        → cancel_waiter V t w u (view q) ≡ seen_by view (cancel_waiter V t w u q)
    waits t None u q g = ap (answers true u) (changes t _ q)
    waits t (Some w) u q g = ap (λ (r : CancelRequest). must_cancel_unless r.answer t r) (vc w u q g) ∙ must_cancel (V w u q).answer t (V w u q)

    unseen : (t : ℕ) (o : Option Task) → cancel_unseen V t o s (view p) ≡ seen_by view (cancel_unseen V t o s p)
    unseen t None = refl
    unseen t (Some task) =
        ap (cancel_waiter V t task.waiter (s ++ t ∷ [])) (changes t _ p)
        ∙ waits t task.waiter (s ++ t ∷ []) (raise_count t p) (sees.raised t p good)

    task : (seen : Bool) (t : ℕ) → cancel_task_where V seen t s (view p) ≡ seen_by view (cancel_task_where V seen t s p)
    task true t = refl
    task false t = ap (λ ts. cancel_unseen V t (slice_get ts t) s (view p)) (sees.tasks p) ∙ unseen t (slice_get p.tasks t)

    kind : (k : FutureKind) → cancel_kind F V k id s (view p) ≡ seen_by view (cancel_kind F V k id s p)
    kind Plain = ap (answers true s) (sees.settles id p good)
    kind (OfTask t) = task (has_seen s t) t
    kind (Many members asked_before) =
        let r = cancel_each F (made_before id members) s p in
        ap (λ (x : CancelRequest). asked_where x.answer id x) (each_commutes F frow fc (made_before id members) s p good) ∙ asked r.answer r

    until : (o : Option Outcome) (k : FutureKind) → cancel_until F V o k id s (view p) ≡ seen_by view (cancel_until F V o k id s p)
    until (Some outcome) k = refl
    until None k = kind k

    future_at : (o : Option Future) → cancel_at F V o id s (view p) ≡ seen_by view (cancel_at F V o id s p)
    future_at None = refl
    future_at (Some future) = until future.outcome future.kind

    by_commutes : cancel_by F V id s (view p) ≡ seen_by view (cancel_by F V id s p)
    by_commutes = sees.future F V id s p (view p) good ∙ future_at (slice_get p.futures id)

  below_commutes : (bound : ℕ) (V : Canceller) → IsRow V → Commutes V → Commutes (cancel_below bound V)
  below_commutes zero V row c id s p good = refl
  below_commutes (suc bound) V row c id s p good =
      by_commutes (cancel_below bound V) V (below_row bound V row) (below_commutes bound V row c) c id s p good

  within_commutes : (tasks : ℕ) → Commutes (cancel_within tasks)
  within_commutes zero id s p good = refl
  within_commutes (suc tasks) id s p good =
      below_commutes (suc id) (cancel_within tasks) (within_row tasks) (within_commutes tasks) id s p good

  pub cancels : (id : ℕ) (p : Parts) → Good p → cancel id (view p) ≡ seen_by view (cancel id p)
  cancels id p good =
      ap (λ ts. cancel_within (suc (length ts)) id [] (view p)) (sees.tasks p) ∙ within_commutes (suc (length p.tasks)) id [] p good
