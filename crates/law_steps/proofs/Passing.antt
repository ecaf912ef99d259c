-- Steps that add no pass make no cycle.
use Rattle.std.proofs.Common.{◌≡◌, ℕ, ◌⊎◌, true, false, ◌==◌, List, [], Option, Some, None, is_none, length, slice_get, refl, ap, sym, subst, ◌∙◌, inl, inr}
use Rattle.std.proofs.Common.{Bool, Err, Ok, Result, arith, cond, nat_eq, nat_lt, ◌<◌, ◌||◌, ◌∷◌}
use Rattle.std.proofs.lemmas.Bool.{cases_eq, false≢true, eqb-true, ltb-true}
use Rattle.std.specs.List.{list_any}
use Rattle.std.specs.Option.{option_map_or, option_to_list}
use Rattle.model_value.specs.Value.{Outcome, Exc, Value}
use Rattle.model_loop.specs.Parts.{FutureKind, Plain, OfTask, Many, Future, Task, Parts}
use Rattle.model_loop.specs.Futures.{settle, is_pending, is_pending_at, made_before, make_future}
use Rattle.model_loop.specs.Tasks.{waiter_of, set_waiter, begin_step, spawn, clear_must_cancel, finish, future_of}
use Rattle.model_loop.specs.Cycles.{passes, PassesTo, Leads, through, at_once}
use Rattle.model_loop.specs.Sound.{HasNoCycle, ArePartsSound}
use Rattle.law_cancel.proofs.PassCases.{passes_of_kind, passes_until, passes_at}
use Rattle.law_cancel.proofs.Cycling.{leads_kept, no_cycle_kept, passes-same}
use Rattle.law_cancel.proofs.Effects.{change_task-futures}
use Rattle.law_cancel.proofs.Counting.{change_task-kept}
use Rattle.law_steps.proofs.Settling.{IsSettled, settle_cases}
use Rattle.law_steps.proofs.SettleWays.{settled-waiter}
use Rattle.law_steps.proofs.Stepping.{at_task, waits_none}
use Rattle.law_steps.proofs.Spawning.{new_future, old_future, waiter_new, waiter_same}
use Rattle.model_value.specs.Input.{Input}
use Rattle.law_steps.proofs.Looks.{change_looks_same, same_no_cycle}
use Rattle.law_steps.proofs.Making.{made_new, made_old}
use Rattle.model_loop.specs.Owning.{owner_in}
use Rattle.std.proofs.lemmas.Option.{none-some, slice_get_within}

-- each future is as it was or passes nowhere, and each task waits as it did or for nothing
pub no_cycle_more : (p q : Parts) → ((x : ℕ) → (slice_get q.futures x ≡ slice_get p.futures x) ⊎ (passes q x ≡ []))
    → ((t : ℕ) → (waiter_of q t ≡ waiter_of p t) ⊎ (waiter_of q t ≡ None)) → HasNoCycle p → HasNoCycle q
no_cycle_more p q futures waiters none id l = none id (leads_kept p q edge l)
  where
    edge : (x y : ℕ) → PassesTo q x y → PassesTo p x y
    edge x y h = go (futures x)
      where
        of_task : (t : ℕ) → (waiter_of q t ≡ waiter_of p t) ⊎ (waiter_of q t ≡ None) → list_any (λ n. n == y) (option_to_list (waiter_of q t)) ≡ true
            → list_any (λ n. n == y) (option_to_list (waiter_of p t)) ≡ true
        of_task t (inl same) hit = ap (λ w. list_any (λ n. n == y) (option_to_list w)) (sym same) ∙ hit
        of_task t (inr z) hit = absurd (false≢true (ap (λ w. list_any (λ n. n == y) (option_to_list w)) (sym z) ∙ hit))

        kind : (k : FutureKind) → list_any (λ n. n == y) (passes_of_kind k x q) ≡ true → list_any (λ n. n == y) (passes_of_kind k x p) ≡ true
        kind Plain hit = hit
        kind (OfTask t) hit = of_task t (waiters t) hit
        kind (Many members asked) hit = hit

        until : (o : Option Outcome) (k : FutureKind) → list_any (λ n. n == y) (passes_until o k x q) ≡ true
            → list_any (λ n. n == y) (passes_until o k x p) ≡ true
        until (Some outcome) k hit = hit
        until None k hit = kind k hit

        at : (o : Option Future) → list_any (λ n. n == y) (passes_at o x q) ≡ true → list_any (λ n. n == y) (passes_at o x p) ≡ true
        at None hit = hit
        at (Some future) hit = until future.outcome future.kind hit

        go : (slice_get q.futures x ≡ slice_get p.futures x) ⊎ (passes q x ≡ []) → PassesTo p x y
        go (inl same) = at (slice_get p.futures x) (ap (λ o. list_any (λ n. n == y) (passes_at o x q)) (sym same) ∙ h)
        go (inr z) = absurd (false≢true (ap (list_any (λ n. n == y)) (sym z) ∙ h))

-- an outcome
pub settle_no_cycle : (id : ℕ) (outcome : Outcome) (p : Parts) → HasNoCycle p → HasNoCycle (settle id outcome p)
settle_no_cycle id outcome p none = settle_cases HasNoCycle id outcome p none settled
  where
    settled : (q : Parts) → IsSettled id p q → HasNoCycle q
    settled q s = no_cycle_more p q (λ x. at x (cases_eq id x)) (λ t. inl (settled-waiter s t)) none
      where
        over : (o : Option Future) (x : ℕ) → is_pending_at o ≡ false → passes_at o x q ≡ []
        over None x h = refl
        over (Some future) x h = ended future.outcome h
          where
            ended : (o : Option Outcome) → is_none o ≡ false → passes_until o future.kind x q ≡ []
            ended (Some outcome) h = refl
            ended None h = absurd (false≢true (sym h))

        at : (x : ℕ) → (id ≡ x) ⊎ (id ≡ x → ⊥) → (slice_get q.futures x ≡ slice_get p.futures x) ⊎ (passes q x ≡ [])
        at x (inl same) = inr (over (slice_get q.futures x) x (subst (λ i. is_pending q i ≡ false) same s.done))
        at x (inr n) = inl (s.others x n)

-- a step's beginning
pub begin_no_cycle : (task : ℕ) (input : Input) (p : Parts) → HasNoCycle p → HasNoCycle (begin_step task input p).parts
begin_no_cycle task input p none = no_cycle_more p begun (λ x. inl (futures x)) (λ t. at t (cases_eq task t)) none
  where
    waiting : Parts
    waiting = set_waiter task None p

    begun : Parts
    begun = clear_must_cancel task (set_waiter task None p)

    futures : (x : ℕ) → slice_get (clear_must_cancel task (set_waiter task None p)).futures x ≡ slice_get p.futures x
    futures x =
        ap (λ (l : List Future). slice_get l x)
        (change_task-futures task _ (set_waiter task None p) ∙ change_task-futures task _ p)

    through : (t : ℕ) → waiter_of (clear_must_cancel task (set_waiter task None p)) t ≡ waiter_of (set_waiter task None p) t
    through t =
        change_task-kept (λ (o : Option Task). option_map_or (λ (t : Task). t.waiter) o None) task _ (set_waiter task None p)
        (λ t. refl) t

    at : (t : ℕ) → (task ≡ t) ⊎ (task ≡ t → ⊥) → (waiter_of (clear_must_cancel task (set_waiter task None p)) t ≡ waiter_of p t)
        ⊎ (waiter_of (clear_must_cancel task (set_waiter task None p)) t ≡ None)
    at t (inl same) = inr (through t ∙ subst (λ i. waiter_of (set_waiter task None p) i ≡ None) same (waits_none task p))
    at t (inr n) =
        inl (through t ∙ at_task (λ (o : Option Task). option_map_or (λ (t : Task). t.waiter) o None) task _ p t n)

-- a new task
pub spawn_no_cycle : (running excused : Option ℕ) (p : Parts) → ArePartsSound running excused p → HasNoCycle p → HasNoCycle (spawn p)
spawn_no_cycle running excused p is none =
    no_cycle_more p (spawn p) (λ x. at x (cases_eq x (length p.futures))) (λ t. inl (waiter_same running excused p is t)) none
  where
    at : (x : ℕ) → (x ≡ length p.futures) ⊎ (x ≡ length p.futures → ⊥) → (slice_get (spawn p).futures x ≡ slice_get p.futures x) ⊎ (passes (spawn p) x ≡ [])
    at x (inl e) = inr (subst (λ i. passes (spawn p) i ≡ []) (sym e)
        (ap (λ o. passes_at o (length p.futures) (spawn p)) (new_future running excused p is) ∙ ap option_to_list (waiter_new running excused p is)))
    at x (inr k) = inl (old_future running excused p is x k)

-- ---- a handle is appended or taken out, and a task ends
pub same_tasks_no_cycle : (p q : Parts) → q.futures ≡ p.futures → q.tasks ≡ p.tasks → HasNoCycle p → HasNoCycle q
same_tasks_no_cycle p q fs ts none =
    no_cycle_kept p q (λ x. passes-same p q x (ap (λ (l : List Future). passes_at (slice_get l x) x p) fs)
    (λ t. ap (λ (l : List Task). option_map_or (λ (t : Task). t.waiter) (slice_get l t) None) ts)) none

pub finish_no_cycle : (task : ℕ) (end : Result Value Exc) (p : Parts) → HasNoCycle p → HasNoCycle (finish task end p)
finish_no_cycle task (Err fault) p none = settle_no_cycle (future_of p task) _ p none
finish_no_cycle task (Ok value) p none =
    settle_no_cycle (future_of p task) _ (clear_must_cancel task p)
    (same_no_cycle p (clear_must_cancel task p) (change_looks_same task _ p (λ t. refl) (λ t. refl)) none)

-- ---- a new future that is no task's: nothing passes to it
module _ (kind : FutureKind) (free : owner_in kind ≡ None) (running excused : Option ℕ) (p : Parts) (is : ArePartsSound running excused p) where
  abbrev new : ℕ
  new = length p.futures

  below : (bound y : ℕ) (members : List ℕ) → list_any (λ m. m == y) (made_before bound members) ≡ true → y < bound
  below bound y [] h = absurd (false≢true h)
  below bound y (m ∷ members) h = go (nat_lt m bound) refl h (below bound y members)
    where
      hit : (b : Bool) → m < bound → nat_eq m y ≡ b → (b || list_any (λ z. z == y) (made_before bound members)) ≡ true
          → (list_any (λ z. z == y) (made_before bound members) ≡ true → y < bound) → y < bound
      hit true l e x rest = let same = eqb-true m y e in omega (arith, l, same)
      hit false l e x rest = rest x

      go : (b : Bool) → nat_lt m bound ≡ b
          → list_any (λ z. z == y) (cond b (m ∷ made_before bound members) (made_before bound members)) ≡ true
          → (list_any (λ z. z == y) (made_before bound members) ≡ true → y < bound) → y < bound
      go false e x rest = rest x
      go true e x rest = hit (nat_eq m y) (ltb-true m bound e) refl x rest

  waited : (t y : ℕ) → (o : Option ℕ) → waiter_of p t ≡ o → list_any (λ z. z == y) (option_to_list o) ≡ true → y < new
  waited t y None e h = absurd (false≢true h)
  waited t y (Some on) e h = go (nat_eq on y) refl h
    where
      go : (b : Bool) → nat_eq on y ≡ b → (b || false) ≡ true → y < new
      go true x h = let same = eqb-true on y x in let w = is.waits_made t on e in omega (arith, same, w)
      go false x h = absurd (false≢true h)

  -- an old future passes as it did, and to an old one
  old_edge : (x y : ℕ) → (x ≡ new → ⊥) → PassesTo (make_future kind p) x y → PassesTo p x y × (y < new)
  old_edge x y n h = (was, at (slice_get p.futures x) refl was)
    where
      was : PassesTo p x y
      was =
          ap (list_any (λ z. z == y)) (sym (passes-same p (make_future kind p) x
          (ap (λ o. passes_at o x p) (made_old kind free running excused p is x n)) (λ t. refl))) ∙ h

      of_kind : (future : Future) → slice_get p.futures x ≡ Some future → (k : FutureKind)
          → list_any (λ z. z == y) (passes_of_kind k x p) ≡ true → y < new
      of_kind future e Plain h = absurd (false≢true h)
      of_kind future e (OfTask t) h = waited t y (waiter_of p t) refl h
      of_kind future e (Many members asked) h =
          let a = below x y members h in
          let b = slice_get_within p.futures x future e in
          omega (arith, a, b)

      until : (future : Future) → slice_get p.futures x ≡ Some future → (o : Option Outcome)
          → list_any (λ z. z == y) (passes_until o future.kind x p) ≡ true → y < new
      until future e (Some outcome) h = absurd (false≢true h)
      until future e None h = of_kind future e future.kind h

      at : (o : Option Future) → slice_get p.futures x ≡ o → list_any (λ z. z == y) (passes_at o x p) ≡ true → y < new
      at None e h = absurd (false≢true h)
      at (Some future) e h = until future e future.outcome h

  new_edge : (y : ℕ) → PassesTo (make_future kind p) new y → y < new
  new_edge y h = of_kind kind free (ap (λ o. list_any (λ z. z == y) (passes_at o new (make_future kind p)))
      (sym (made_new kind free running excused p is)) ∙ h)
    where
      of_kind : (k : FutureKind) → owner_in k ≡ None → list_any (λ z. z == y) (passes_of_kind k new (make_future kind p)) ≡ true → y < new
      of_kind Plain f h = absurd (false≢true h)
      of_kind (OfTask t) f h = absurd (none-some t (sym f))
      of_kind (Many members asked) f h = below new y members h

  edge_below : (x y : ℕ) → PassesTo (make_future kind p) x y → y < new
  edge_below x y h = go (cases_eq x new)
    where
      go : (x ≡ new) ⊎ (x ≡ new → ⊥) → y < new
      go (inl same) = new_edge y (subst (λ i. PassesTo (make_future kind p) i y) same h)
      go (inr n) = (old_edge x y n h).1

  ends_below : {from to : ℕ} → Leads (make_future kind p) from to → to < new
  ends_below (at_once {from = from} {to = to} e) = edge_below from to e
  ends_below (through next e l) = ends_below l

  old_way : {from to : ℕ} → Leads (make_future kind p) from to → (from ≡ new → ⊥) → Leads p from to
  old_way (at_once {from = from} {to = to} e) n = at_once (old_edge from to n e).0
  old_way (through {from = from} next e l) n =
      let edge = old_edge from next n e in
      let b = edge.1 in
      through next edge.0 (old_way l (λ same. absurd (omega (arith, b, same))))

  pub make_no_cycle : HasNoCycle p → HasNoCycle (make_future kind p)
  make_no_cycle none id l = let b = ends_below l in none id (old_way l (λ same. absurd (omega (arith, b, same))))
