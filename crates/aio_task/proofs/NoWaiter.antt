-- Where nobody waits for a future that is pending, nothing passes to it, so no cycle of waits goes through it: a task that
-- lives and waits for it has its wakeup there, and what stands for it has it as a member.
use Rattle.std.proofs.Common.{◌≡◌, ◌≢◌, ℕ, ◌+◌, ◌⊎◌, Bool, true, false, cond, ◌||◌, ◌==◌, List, [], ◌∷◌, Option, Some, None, nat_eq, option_map, slice_get}
use Rattle.std.proofs.Common.{refl, ap, sym, ◌∙◌, inl, inr, arith}
use Rattle.std.proofs.lemmas.Bool.{cases_Bool, eqb-true, false≢true, ne_eqb, or_cases}
use Rattle.std.proofs.lemmas.List.Sums.{sum_by-cons}
use Rattle.std.proofs.lemmas.Option.{none-some, same_Some}
use Rattle.std.specs.Prelude.{is_none}
use Rattle.std.specs.List.{list_any, count_by}
use Rattle.std.specs.Option.{option_map_or, option_to_list}
use Rattle.model_value.specs.Action.{Action}
use Rattle.model_value.specs.declared.action.Action.TheVariants.{Step, StepInCycle, Wakeup}
use Rattle.model_value.specs.declared.action.CycleKind.TheVariants.{Itself, ItsWaiter}
use Rattle.model_value.specs.Value.{Outcome}
use Rattle.model_loop.specs.Parts.{FutureKind, Plain, OfTask, Many, Future, Task, Parts}
use Rattle.model_loop.specs.Futures.{is_pending, is_pending_at, next_future, made_before}
use Rattle.model_loop.specs.Tasks.{future_of, waiter_of, lives}
use Rattle.model_loop.specs.Totals.{callbacks_of}
use Rattle.model_loop.specs.Ways.{steps, wakeups_on, HasOneWay}
use Rattle.model_loop.specs.Owning.{OwnsFutures, own_future, owner_at, owner_in}
use Rattle.model_loop.specs.Cycles.{PassesTo, Leads, at_once, through, leads, cycle}
use Rattle.law_cancel.proofs.PassCases.{passes_of_kind, passes_until, passes_at}
use Rattle.law_cancel.proofs.Reach.{leads_decides}
use Rattle.algorithm_parts.specs.Shape.{members_of, members_at}
use Rattle.aio_future.specs.Awaited.{is_step, IsUnawaited}

-- ---- callbacks that are no steps
no_step : (task : ℕ) (action : Action) → is_step action ≡ false → steps task action ≡ false
no_step task (Step other) h = absurd (false≢true (sym h))
no_step task (StepInCycle other cycle) h = absurd (false≢true (sym h))
no_step task (Wakeup other) h = absurd (false≢true (sym h))
no_step task _ h = refl

abbrev once : Bool → ℕ
once b = cond b 1 0

none_step : (task : ℕ) (actions : List Action) → list_any is_step actions ≡ false → count_by (steps task) actions ≡ 0
none_step task [] h = refl
none_step task (a ∷ actions) h = at (is_step a) refl h (none_step task actions)
  where
    at : (b : Bool) → is_step a ≡ b → (b || list_any is_step actions) ≡ false
        → (list_any is_step actions ≡ false → count_by (steps task) actions ≡ 0) → count_by (steps task) (a ∷ actions) ≡ 0
    at true e k ih = absurd (false≢true (sym k))
    at false e k ih =
        let first : cond (steps task a) 1 0 ≡ 0 = ap once (no_step task a e) in
        let all : count_by (steps task) (a ∷ actions) ≡ cond (steps task a) 1 0 + count_by (steps task) actions =
        sum_by-cons (λ x. cond (steps task x) 1 0) a actions in
        let others : count_by (steps task) actions ≡ 0 = ih k in
        omega (arith, first, all, others)

-- ---- a way ends with a pass
last_pass : (p : Parts) {from to : ℕ} → Leads p from to → (x : ℕ) × PassesTo p x to
last_pass p (at_once {from = from} h) = (from, h)
last_pass p (through next h l) = last_pass p l

-- ---- a future that nobody waits for
abbrev Hits : ℕ → List ℕ → Type 0
Hits own xs = list_any (λ n. n == own) xs ≡ true

module _ (running : Option ℕ) (p : Parts) (owns : OwnsFutures p) (one_way : HasOneWay running p) (own : ℕ) (pending : is_pending p own ≡ true)
    (free : IsUnawaited own p.futures) where
  -- a task that lives doesn't wait for it
  waits_not : (task : ℕ) → lives p task ≡ true → waiter_of p task ≡ Some own → ⊥
  waits_not task lively waits =
      let one : wakeups_on p task own ≡ 1 = one_way.stays task own lively waits pending in
      let none : wakeups_on p task own ≡ 0 = none_step task (callbacks_of p own) free.wakes in
      omega (arith, one, none)

  owner_lives : (x task : ℕ) (future : Future) → slice_get p.futures x ≡ Some future → future.kind ≡ OfTask task → future.outcome ≡ None
      → lives p task ≡ true
  owner_lives x task future e k o = at (slice_get p.tasks task) refl
    where
      mine : own_future p task ≡ Some x
      mine = (owns x task).0 (ap owner_at e ∙ ap owner_in k)

      there : is_pending p x ≡ true
      there = ap is_pending_at e ∙ ap is_none o

      at : (t : Option Task) → slice_get p.tasks task ≡ t → lives p task ≡ true
      at None n = absurd (none-some x (ap (option_map (λ (it : Task). it.future)) (sym n) ∙ mine))
      at (Some it) n =
          let same : it.future ≡ x = same_Some it.future x (ap (option_map (λ (t : Task). t.future)) (sym n) ∙ mine) in
          ap (is_pending p) (ap (λ (t : Option Task). option_map_or (λ (u : Task). u.future) t (next_future p)) n ∙ same) ∙ there

  passes_not : (x : ℕ) → PassesTo p x own → ⊥
  passes_not x h = at (slice_get p.futures x) refl h
    where
      waiter : (task : ℕ) → lives p task ≡ true → (w : Option ℕ) → waiter_of p task ≡ w → Hits own (option_to_list w) → ⊥
      waiter task lively None e hit = false≢true hit
      waiter task lively (Some on) e hit = go (or_cases (nat_eq on own) false hit)
        where
          go : (nat_eq on own ≡ true) ⊎ (false ≡ true) → ⊥
          go (inl same) = waits_not task lively (e ∙ ap Some (eqb-true on own same))
          go (inr never) = false≢true never

      kind : (future : Future) → slice_get p.futures x ≡ Some future → future.outcome ≡ None → (k : FutureKind) → future.kind ≡ k
          → Hits own (passes_of_kind k x p) → ⊥
      kind future e o Plain k hit = false≢true hit
      kind future e o (OfTask task) k hit = waiter task (owner_lives x task future e k o) (waiter_of p task) refl hit
      kind future e o (Many members asked) k hit =
          let held : members_at (slice_get p.futures x) ≡ members = ap members_at e ∙ ap members_of k in
          let none : list_any (λ n. n == own) (made_before x members) ≡ false =
          ap (λ xs. list_any (λ n. n == own) (made_before x xs)) (sym held) ∙ free.member x in
          false≢true (sym none ∙ hit)

      until : (future : Future) → slice_get p.futures x ≡ Some future → (o : Option Outcome) → future.outcome ≡ o
          → Hits own (passes_until o future.kind x p) → ⊥
      until future e (Some outcome) o hit = false≢true hit
      until future e None o hit = kind future e o future.kind refl hit

      at : (f : Option Future) → slice_get p.futures x ≡ f → Hits own (passes_at f x p) → ⊥
      at None e hit = false≢true hit
      at (Some future) e hit = until future e future.outcome refl hit

  unled : (from : ℕ) → leads p from own ≡ false
  unled from = at (cases_Bool (leads p from own))
    where
      at : (leads p from own ≡ true) ⊎ (leads p from own ≡ false) → leads p from own ≡ false
      at (inl h) = let last = last_pass p ((leads_decides p from own).0 h) in absurd (passes_not last.0 last.1)
      at (inr h) = h

-- Nobody waits for a task that lives, so whatever it awaits is no cycle, but for itself.
pub no_cycle_through : (running : Option ℕ) (p : Parts) (task on : ℕ) → OwnsFutures p → HasOneWay running p → lives p task ≡ true
    → IsUnawaited (future_of p task) p.futures → on ≢ future_of p task → cycle p task on ≡ None
no_cycle_through running p task on owns one_way lively free other =
    ap (λ b. cond b (Some Itself) (cond (leads p on (future_of p task)) (Some ItsWaiter) None)) (ne_eqb on (future_of p task) other)
    ∙ ap (λ b. cond b (Some ItsWaiter) None) (unled running p owns one_way (future_of p task) lively free on)
