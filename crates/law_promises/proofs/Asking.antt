-- A request that a timeout or a group makes raises its task's count, and what is taken back lowers it by one at most.
use Rattle.std.proofs.Common.{◌≡◌, ℕ, ◌+◌, ◌≤◌, ◌<◌, ◌⊎◌, inl, inr, Bool, true, false, cond, ◌&&◌, ◌||◌, ◌==◌, List, [], ◌∷◌, ◌++◌, Option, Some, None, length}
use Rattle.std.proofs.Common.{is_none, map, nat_lt, option_map, slice_get, refl, sym, ap, subst, ◌∙◌, arith}
use Rattle.std.specs.List.{count_by, list_any}
use Rattle.std.specs.Option.{option_map_or}
use Rattle.std.proofs.lemmas.Bool.{cases_eq, cases_lt, eq-eqb, ltb-false, ne_eqb, false≢true, leb-true}
use Rattle.std.proofs.lemmas.List.Folds.{list_any-append}
use Rattle.std.proofs.lemmas.List.Sums.{count_by-le-length}
use Rattle.std.proofs.lemmas.Option.{none-some}
use Rattle.model_value.specs.Action.{CycleKind}
use Rattle.model_value.specs.Number.{most}
use Rattle.model_value.specs.Value.{Outcome}
use Rattle.model_loop.specs.Balance.{lowers}
use Rattle.model_loop.specs.Cancel.{Canceller, cancel, cancel_below, cancel_within, has_seen}
use Rattle.model_loop.specs.Cycles.{cycle}
use Rattle.model_loop.specs.Futures.{is_pending_at, next_future}
use Rattle.model_loop.specs.Ledger.{Origin, ByWait, LedgerEntry, Raised, Took, ask_cancel, raised_among}
use Rattle.model_loop.specs.Loop.{Loop, take_one_back}
use Rattle.model_loop.specs.Owning.{OwnsFutures, owner_at, owner_in, owner_of, own_future}
use Rattle.model_loop.specs.Parts.{FutureKind, Plain, OfTask, Many, Future, Parts, Profile, Task}
use Rattle.model_loop.specs.Suspend.{cancel_wait, suspend, wait_on}
use Rattle.model_loop.specs.Tasks.{cancelling, future_of, must_cancel_of, lives, next_task, one_more, raise_count, uncancel}
use Rattle.model_machine.specs.Replies.{most_ids}
use Rattle.law_cancel.proofs.SuspendCases.{suspend_unless}
use Rattle.law_cancel.proofs.CancelCases.{cancel_at, cancel_kind, cancel_unseen, cancel_until, cancel_waiter, must_cancel_unless}
use Rattle.law_cancel.proofs.Counting.{goes-counts}
use Rattle.law_cancel.proofs.Trace.{goes-seen, with_row, within_row}
use Rattle.law_changes.proofs.Balancing.{request_balances, uncancel_balances}
use Rattle.law_steps.proofs.Waiting.{task_there}
use Rattle.law_turns.proofs.Requests.{cancel_after}
use Rattle.law_replies.proofs.Counts.{lives_within}
use Rattle.law_promises.proofs.Later.{any, later_cancel, later_uncancel}
use Rattle.law_promises.specs.Owed.{is_by_hand, uncancels, AreFound, IsFound, IsCovered, IsRight, owed, owes_timeout, owes_group}
use Rattle.law_promises.proofs.Found.{found_on, is_took, none_found}
use Rattle.law_promises.proofs.Owed.{back, count_cons, first_none, no_lowers}

-- ---- requests take nothing back
raised_took : (by : Origin) (tasks : List ℕ) → list_any is_took (map (λ t. Raised t by) tasks) ≡ false
raised_took by [] = refl
raised_took by (t ∷ tasks) = raised_took by tasks

pub request_took : (by : Origin) (id : ℕ) (p : Parts) → list_any is_took (ask_cancel by id p).entries ≡ false
request_took by id p = raised_took by (raised_among p (cancel id p).seen)

pub suspend_took : (task on : ℕ) (p : Parts) → list_any is_took (suspend task on p).entries ≡ false
suspend_took task on p = at (cycle p task on)
  where
    must_cancel : (b : Bool) → list_any is_took (cancel_wait b task on (wait_on task on p)).entries ≡ false
    must_cancel false = refl
    must_cancel true = request_took (ByWait task) on (wait_on task on p)

    at : (o : Option CycleKind) → list_any is_took (suspend_unless o task on p).entries ≡ false
    at (Some why) = refl
    at None = must_cancel (must_cancel_of p task)

-- ---- a request to a live task's own future visits the task
visited : (waiter : Canceller) (task : ℕ) (p : Parts) (on : Option ℕ)
    → ((id : ℕ) → (u : List ℕ) × ((waiter id (task ∷ []) (raise_count task p)).seen ≡ (task ∷ []) ++ u))
    → has_seen (cancel_waiter waiter task on (task ∷ []) (raise_count task p)).seen task ≡ true
visited waiter task p None h = ap (λ b. b || false) (eq-eqb task task refl)
visited waiter task p (Some id) h = at (waiter id (task ∷ []) (raise_count task p)).answer
  where
    seen : has_seen (waiter id (task ∷ []) (raise_count task p)).seen task ≡ true
    seen =
        ap (λ (s : List ℕ). has_seen s task) (h id).1
        ∙ ap (λ b. b || has_seen (h id).0 task) (eq-eqb task task refl)

    at : (b : Bool) → has_seen (must_cancel_unless b task (waiter id (task ∷ []) (raise_count task p))).seen task ≡ true
    at true = seen
    at false = seen

of_task : (task : ℕ) (kind : FutureKind) → owner_in kind ≡ Some task → kind ≡ OfTask task
of_task task (OfTask other) e = ap (λ o. kind_of o) e
  where
    kind_of : Option ℕ → FutureKind
    kind_of (Some t) = OfTask t
    kind_of None = OfTask other
of_task task Plain e = absurd (none-some task e)
of_task task (Many members asked) e = absurd (none-some task e)

module _ (p : Parts) (owns : OwnsFutures p) (task : ℕ) (living : lives p task ≡ true) where
  visits_at : (future : Future) → slice_get p.futures (future_of p task) ≡ Some future → future.outcome ≡ None → future.kind ≡ OfTask task
      → (it : Task) → slice_get p.tasks task ≡ Some it → has_seen (cancel (future_of p task) p).seen task ≡ true
  visits_at future e open_ kind it t =
      let id = future_of p task in
      let waiter = cancel_within (length p.tasks) in
      let member = cancel_below id waiter in
      let a = ap (λ (o : Option Future). has_seen (cancel_at member waiter o id [] p).seen task) e in
      let b = ap (λ (o : Option Outcome). has_seen (cancel_until member waiter o future.kind id [] p).seen task) open_ in
      let c = ap (λ (k : FutureKind). has_seen (cancel_kind member waiter k id [] p).seen task) kind in
      let d = ap (λ (o : Option Task). has_seen (cancel_unseen waiter task o [] p).seen task) t in
      a ∙ b ∙ c ∙ d
      ∙ visited waiter task p it.waiter (λ on. goes-seen (within_row (length p.tasks) on (task ∷ []) (raise_count task p)))

  pub visits : has_seen (cancel (future_of p task) p).seen task ≡ true
  visits = at (slice_get p.futures (future_of p task)) refl
    where
      there : (it : Task) × (slice_get p.tasks task ≡ Some it)
      there = task_there p task living

      own : own_future p task ≡ Some (future_of p task)
      own = go (slice_get p.tasks task) there.1
        where
          go : (o : Option Task) → o ≡ Some there.0
              → option_map (λ (t : Task). t.future) o ≡ Some (option_map_or (λ (t : Task). t.future) o (next_future p))
          go (Some t) e = refl
          go None e = absurd (none-some there.0 e)

      owner : owner_of p (future_of p task) ≡ Some task
      owner = (owns (future_of p task) task).1 own

      until : (future : Future) → slice_get p.futures (future_of p task) ≡ Some future → (o : Option Outcome) → future.outcome ≡ o
          → has_seen (cancel (future_of p task) p).seen task ≡ true
      until future e None o =
          visits_at future e o (of_task task future.kind (sym (ap owner_at e) ∙ owner)) there.0 there.1
      until future e (Some done) o =
          absurd (false≢true (sym (ap is_pending_at e ∙ ap (λ (x : Option Outcome). is_none x) o) ∙ living))

      at : (o : Option Future) → slice_get p.futures (future_of p task) ≡ o → has_seen (cancel (future_of p task) p).seen task ≡ true
      at (Some future) e = until future e future.outcome refl
      at None e = absurd (false≢true (sym (ap is_pending_at e) ∙ living))

  -- so its count rises, unless it is the greatest
  pub raised_one : cancelling (cancel (future_of p task) p).parts task ≡ one_more (cancelling p task)
  raised_one =
      goes-counts (with_row (future_of p task) [] p) task
      ∙ ap (λ b. cond b (one_more (cancelling p task)) (cancelling p task)) visits

raises_all : (by : Origin) (id : ℕ) (p : Parts) (task : ℕ) → cancelling p task ≤ cancelling (cancel id p).parts task
raises_all by id p task =
    let b = request_balances by id p task in
    let z = no_lowers task (ask_cancel by id p).entries (request_took by id p) in
    omega (arith, b, z)

owed_few : (l : Loop) (task : ℕ) → owed l task ≤ length l.timeouts + length l.groups
owed_few l task =
    let a = count_by-le-length (owes_timeout task) l.timeouts in
    let b = count_by-le-length (owes_group l.profile task) l.groups in
    omega (arith, a, b)

few_enough : most_ids + most_ids ≤ most
few_enough = leb-true (most_ids + most_ids) most refl

-- ---- a timeout or a group asks
module _ (l m : Loop) (by : Origin) (task : ℕ) (parts : m.parts ≡ (cancel (future_of l.parts task) l.parts).parts)
    (ledger : m.ledger ≡ l.ledger ++ (ask_cancel by (future_of l.parts task) l.parts).entries)
    (owes : (other : ℕ) → owed m other ≤ owed l other + cond (task == other) 1 0)
    (timeouts_made : length m.timeouts ≡ length l.timeouts) (groups_made : length m.groups ≡ length l.groups)
    (owns : OwnsFutures l.parts) (right : IsRight l) (is : IsCovered l) where
  abbrev asked : Parts
  asked = (cancel (future_of l.parts task) l.parts).parts

  abbrev entries : List LedgerEntry
  entries = (ask_cancel by (future_of l.parts task) l.parts).entries

  counted : (other : ℕ) → cancelling m.parts other ≡ cancelling asked other
  counted other = ap (λ (q : Parts). cancelling q other) parts

  -- where it was at the greatest number, it is more than all that timeouts and groups can owe
  mine : (other : ℕ) → task ≡ other → lives l.parts other ≡ true → owed l other ≤ cancelling l.parts other → owed m other ≤ cancelling m.parts other
  mine other same living h = subst (λ k. owed m k ≤ cancelling m.parts k) same (at (nat_lt (cancelling l.parts task) most) refl)
    where
      one : cancelling asked task ≡ one_more (cancelling l.parts task)
      one = raised_one l.parts owns task (subst (λ k. lives l.parts k ≡ true) (sym same) living)

      before : owed l task ≤ cancelling l.parts task
      before = subst (λ k. owed l k ≤ cancelling l.parts k) (sym same) h

      at : (b : Bool) → nat_lt (cancelling l.parts task) most ≡ b → owed m task ≤ cancelling m.parts task
      at true e =
          let a = owes task in
          let c : ◌≡◌ {A = ℕ} (cond (task == task) 1 0) 1 = ap (λ b. cond b 1 0) (eq-eqb task task refl) in
          let d = counted task in
          let f : one_more (cancelling l.parts task) ≡ cancelling l.parts task + 1 =
          ap (λ b. cond b (cancelling l.parts task + 1) (cancelling l.parts task)) e in
          omega (arith, a, c, d, f, one, before)
      at false e =
          let a = owed_few m task in
          let d = counted task in
          let f : one_more (cancelling l.parts task) ≡ cancelling l.parts task =
          ap (λ b. cond b (cancelling l.parts task + 1) (cancelling l.parts task)) e in
          let g = ltb-false (cancelling l.parts task) most e in
          let k = few_enough in
          let t = is.timeouts_few in
          let u = is.groups_few in
          omega (arith, a, d, f, g, k, t, u, one, timeouts_made, groups_made)

  others : (other : ℕ) → (task ≡ other → ⊥) → owed l other ≤ cancelling l.parts other → owed m other ≤ cancelling m.parts other
  others other n h =
      let a = owes other in
      let c : ◌≡◌ {A = ℕ} (cond (task == other) 1 0) 0 = ap (λ b. cond b 1 0) (ne_eqb task other n) in
      let d = counted other in
      let r = raises_all by (future_of l.parts task) l.parts other in
      omega (arith, a, c, d, r, h)

  asked_covered : (other : ℕ) → lives m.parts other ≡ true → list_any (uncancels other) m.ledger ≡ false → owed m other ≤ cancelling m.parts other
  asked_covered other h none = at (cases_lt other (next_task l.parts))
    where
      lively : lives asked other ≡ true
      lively = sym (ap (λ (q : Parts). lives q other) parts) ∙ h

      same : next_task asked ≡ next_task l.parts
      same = (cancel_after any false None (future_of l.parts task) l.parts).same refl

      before : other < next_task l.parts → lives l.parts other ≡ true
      before w = back l (record l { parts = asked }) (later_cancel (future_of l.parts task) l.parts) right other w lively

      unbidden : list_any (uncancels other) l.ledger ≡ false
      unbidden = (first_none other l.ledger entries (sym (ap (list_any (uncancels other)) ledger) ∙ none)).0

      which : (w : other < next_task l.parts) → (task ≡ other) ⊎ (task ≡ other → ⊥) → owed m other ≤ cancelling m.parts other
      which w (inl e) = mine other e (before w) (is.covered other (before w) unbidden)
      which w (inr n) = others other n (is.covered other (before w) unbidden)

      at : (other < next_task l.parts) ⊎ (next_task l.parts ≤ other) → owed m other ≤ cancelling m.parts other
      at (inl w) = which w (cases_eq task other)
      at (inr past) = absurd (let w = lives_within asked other lively in omega (arith, w, past, same))

  pub ask_covers : IsCovered m
  ask_covers = record {
    timeouts_few = let x = is.timeouts_few in omega (arith, x, timeouts_made);
    groups_few = let x = is.groups_few in omega (arith, x, groups_made);
    covered = asked_covered;
    found = subst (AreFound []) (sym ledger)
        (found_on [] l.ledger entries is.found (none_found l.ledger entries (request_took by (future_of l.parts task) l.parts)));
  }

-- ---- something is taken back
lost : (profile : Profile) (by : Origin) (task : ℕ) (p : Parts) (other : ℕ)
    → cancelling p other ≤ cancelling (uncancel profile task p) other + cond (task == other) 1 0
lost profile by task p other = at (nat_lt 0 (cancelling p task)) (uncancel_balances profile by task p other)
  where
    at : (b : Bool) → cancelling (uncancel profile task p) other + count_by (lowers other) (Took task by b ∷ []) ≡ cancelling p other + 0
        → cancelling p other ≤ cancelling (uncancel profile task p) other + cond (task == other) 1 0
    at true h = let c = count_cons (lowers other) (Took task by true) [] in omega (arith, h, c)
    at false h = let c = count_cons (lowers other) (Took task by false) [] in omega (arith, h, c)

-- by a timeout or a group, which owes it
module _ (l m : Loop) (by : Origin) (task : ℕ) (more : List LedgerEntry) (parts : m.parts ≡ uncancel l.profile task l.parts)
    (ledger : m.ledger ≡ l.ledger ++ (more ++ Took task by (nat_lt 0 (cancelling l.parts task)) ∷ [])) (none : list_any is_took more ≡ false)
    (owes : (other : ℕ) → owed m other + cond (task == other) 1 0 ≤ owed l other) (living : lives l.parts task ≡ true)
    (timeouts_made : length m.timeouts ≡ length l.timeouts) (groups_made : length m.groups ≡ length l.groups) (right : IsRight l)
    (is : IsCovered l) where
  taken_covered : (other : ℕ) → lives m.parts other ≡ true → list_any (uncancels other) m.ledger ≡ false → owed m other ≤ cancelling m.parts other
  taken_covered other h bid = at (cases_lt other (next_task l.parts))
    where
      at : (other < next_task l.parts) ⊎ (next_task l.parts ≤ other) → owed m other ≤ cancelling m.parts other
      at (inl w) =
          let before = back l (record l { parts = uncancel l.profile task l.parts }) (later_uncancel l.profile task l.parts) right other w
          (sym (ap (λ (q : Parts). lives q other) parts) ∙ h) in
          let a = is.covered other before (first_none other l.ledger _ (sym (ap (list_any (uncancels other)) ledger) ∙ bid)).0 in
          let b = owes other in
          let c = lost l.profile by task l.parts other in
          let d : cancelling m.parts other ≡ cancelling (uncancel l.profile task l.parts) other = ap (λ (q : Parts). cancelling q other) parts in
          omega (arith, a, b, c, d)
      at (inr past) = let a = right.fresh other past in let b = owes other in omega (arith, a, b)

  -- it found the count above 0
  took_found : IsFound (l.ledger ++ more) (Took task by (nat_lt 0 (cancelling l.parts task)))
  took_found = at (nat_lt 0 (cancelling l.parts task)) refl
    where
      bidden : nat_lt 0 (cancelling l.parts task) ≡ false → (b : Bool) → list_any (uncancels task) l.ledger ≡ b
          → list_any (uncancels task) (l.ledger ++ more) ≡ true
      bidden e true x = list_any-append (uncancels task) l.ledger more ∙ ap (λ b. b || list_any (uncancels task) more) x
      bidden e false x =
          absurd (
          let a = is.covered task living x in
          let b = owes task in
          let c : ◌≡◌ {A = ℕ} (cond (task == task) 1 0) 1 = ap (λ b. cond b 1 0) (eq-eqb task task refl) in
          let d = ltb-false 0 (cancelling l.parts task) e in
          omega (arith, a, b, c, d))

      at : (b : Bool) → nat_lt 0 (cancelling l.parts task) ≡ b → IsFound (l.ledger ++ more) (Took task by b)
      at true e = tt
      at false e = λ hand. bidden e (list_any (uncancels task) l.ledger) refl

  pub take_covers : IsCovered m
  take_covers = record {
    timeouts_few = let x = is.timeouts_few in omega (arith, x, timeouts_made);
    groups_few = let x = is.groups_few in omega (arith, x, groups_made);
    covered = taken_covered;
    found = subst (AreFound []) (sym ledger)
        (found_on [] l.ledger (more ++ Took task by (nat_lt 0 (cancelling l.parts task)) ∷ []) is.found
        (found_on l.ledger more (Took task by (nat_lt 0 (cancelling l.parts task)) ∷ []) (none_found l.ledger more none) (took_found, tt)));
  }

-- by a script, or by what serves further requests
pub hand_covers : (l : Loop) (by : Origin) (task : ℕ) → is_by_hand by ≡ true → IsRight l → IsCovered l → IsCovered (take_one_back by task l)
hand_covers l by task hand right is = record {
  timeouts_few = is.timeouts_few;
  groups_few = is.groups_few;
  covered = λ other h none. at other h (first_none other l.ledger (Took task by (nat_lt 0 (cancelling l.parts task)) ∷ []) none)
      (cases_eq task other) (cases_lt other (next_task l.parts));
  found = found_on [] l.ledger (Took task by (nat_lt 0 (cancelling l.parts task)) ∷ []) is.found (by_hand (nat_lt 0 (cancelling l.parts task)), tt);
}
  where
    by_hand : (b : Bool) → IsFound l.ledger (Took task by b)
    by_hand true = tt
    by_hand false = λ f. absurd (false≢true (sym f ∙ hand))

    bidden : (other : ℕ) → task ≡ other → (((task == other) && is_by_hand by) || false) ≡ true
    bidden other e = ap (λ b. (b && is_by_hand by) || false) (eq-eqb task other e) ∙ ap (λ b. b || false) hand

    at : (other : ℕ) → lives (uncancel l.profile task l.parts) other ≡ true
        → (list_any (uncancels other) l.ledger ≡ false) × ((((task == other) && is_by_hand by) || false) ≡ false)
        → (task ≡ other) ⊎ (task ≡ other → ⊥) → (other < next_task l.parts) ⊎ (next_task l.parts ≤ other)
        → owed l other ≤ cancelling (uncancel l.profile task l.parts) other
    at other h none (inl e) w = absurd (false≢true (sym none.1 ∙ bidden other e))
    at other h none (inr n) (inl w) =
        let before = back l (record l { parts = uncancel l.profile task l.parts }) (later_uncancel l.profile task l.parts) right other w h in
        let a = is.covered other before none.0 in
        let b = lost l.profile by task l.parts other in
        let c : ◌≡◌ {A = ℕ} (cond (task == other) 1 0) 0 = ap (λ b. cond b 1 0) (ne_eqb task other n) in
        omega (arith, a, b, c)
    at other h none (inr n) (inr past) = let a = right.fresh other past in omega (arith, a)
