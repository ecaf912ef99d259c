-- A group asks for the cancels of its tasks, one by one.
use Rattle.std.proofs.Common.{◌≡◌, ℕ, ◌⊎◌, true, false, List, [], ◌∷◌, ◌++◌, Option, Some, None, length, slice_get, refl, ap, sym, subst, ◌∙◌, inl, inr, arith}
use Rattle.std.proofs.Common.{append-nil, append_assoc}
use Rattle.std.specs.Prelude.{is_none}
use Rattle.std.proofs.lemmas.Bool.{cases_Bool}
use Rattle.model_value.specs.Value.{Outcome}
use Rattle.model_loop.specs.Cancel.{Canceller, cancel, cancel_below, cancel_within}
use Rattle.model_loop.specs.Futures.{is_pending_at, is_pending}
use Rattle.model_loop.specs.Ledger.{Origin, request_where, request_each}
use Rattle.model_loop.specs.Parts.{Future, FutureKind, Parts}
use Rattle.model_loop.specs.Tasks.{future_of, lives}
use Rattle.law_cancel.proofs.CancelCases.{cancel_at, cancel_until}
use Rattle.aio_cancel.specs.Awaitables.{Appended}
use Rattle.aio_task.specs.View.{View, parts}
use Rattle.aio_task.specs.Keeps.{NameMap, Keeps, Kept, Becomes}
use Rattle.aio_group.specs.GoesOn.{PartsGoOn, Moves}
use Rattle.aio_group.proofs.Going.{cancel_on, then_moves, same_moves}
use Rattle.aio_group.proofs.Laws.{kept_request, kept_future_of}
use Rattle.aio_group.proofs.Standing.{same_extends, then_extends}

-- what a call changed that speaks of the parts
pub becomes : (v w : View) (after : Parts) → parts w ≡ after → Appended v.queue w.queue
    → w ≡ record v { queue = w.queue; futures = w.futures; tasks = w.tasks } → Becomes v w after
becomes v w after e q b = record {
  parts = e;
  queue = q;
  time = ap (λ (x : View). x.time) b;
  schedule = ap (λ (x : View). x.schedule) b;
}

pub moves_by : (v w : View) (after : Parts) → parts w ≡ after → PartsGoOn (parts v) after
    → w ≡ record v { queue = w.queue; futures = w.futures; tasks = w.tasks } → Moves v w
moves_by v w after e on b = record { goes_on = subst (λ p. PartsGoOn (parts v) p) (sym e) on; frame = b }

module _ (id : ℕ) (p : Parts) where
  abbrev member : Canceller
  member = cancel_below id (cancel_within (length p.tasks))

  abbrev waiter : Canceller
  waiter = cancel_within (length p.tasks)

  over : (x : Option Outcome) (kind : FutureKind) → is_none x ≡ false → (cancel_until member waiter x kind id [] p).parts ≡ p
  over (Some outcome) kind d = refl
  over None kind d = absurd (cc)

  over_at : (o : Option Future) → is_pending_at o ≡ false → (cancel_at member waiter o id [] p).parts ≡ p
  over_at None d = refl
  over_at (Some future) d = over future.outcome future.kind d

  -- a request for a future that isn't pending changes nothing
  dead_request : is_pending p id ≡ false → (cancel id p).parts ≡ p
  dead_request d = over_at (slice_get p.futures id) d

request_where-parts : (by : Origin) (id : ℕ) (p : Parts)
    → (request_where (is_pending p id) by id p).parts ≡ (cancel id p).parts
request_where-parts by id p = go (cases_Bool (is_pending p id))
  where
    go : (is_pending p id ≡ true) ⊎ (is_pending p id ≡ false) → (request_where (is_pending p id) by id p).parts ≡ (cancel id p).parts
    go (inl e) = rw e refl
    go (inr e) = rw e (sym (dead_request id p e))

request_each-more : (by : Origin) (before : List ℕ) (task : ℕ) (p : Parts)
    → (request_each by (before ++ task ∷ []) p).parts
    ≡ (cancel (future_of (request_each by before p).parts task) (request_each by before p).parts).parts
request_each-more by [] task p = request_where-parts by (future_of p task) p
request_each-more by (other ∷ before) task p =
    request_each-more by before task (request_where (lives p other) by (future_of p other) p).parts

pub kept_each_more : (t : NameMap) (v w x : View) (p : Parts) (by : Origin) (before : List ℕ) (task : ℕ)
    → Kept t p w (request_each by before p).parts → parts x ≡ (cancel (future_of (parts w) task) (parts w)).parts
    → Appended w.queue x.queue → x ≡ record w { queue = x.queue; futures = x.futures; tasks = x.tasks }
    → Kept t p x (request_each by (before ++ task ∷ []) p).parts
kept_each_more t v w x p by before task k e q b =
    let now = (request_each by before p).parts in
    let id = future_of now task in
    let same : future_of (parts w) task ≡ id = kept_future_of k.name_map w now task k.keeps in
    let after : parts x ≡ (cancel id (parts w)).parts = e ∙ ap (λ (i : ℕ). (cancel i (parts w)).parts) same in
    let more = kept_request k.name_map w x now by id k.keeps (becomes w x (cancel id (parts w)).parts after q b) in
    subst (λ r. Kept t p x r) (sym (request_each-more by before task p)) (record {
      name_map = more.name_map;
      keeps = more.keeps;
      extends = then_extends t k.name_map more.name_map p now (cancel id now).parts k.extends more.extends;
    })

kept_none : (t : NameMap) (v : View) (p : Parts) (by : Origin) → Keeps t v p → Kept t p v (request_each by [] p).parts
kept_none t v p by k = record { name_map = t; keeps = k; extends = same_extends t p p (omega arith) }

-- From v to w those of these tasks were asked that aren't left.
pub record AskedSoFar (v w : View) (tasks left : List ℕ) : Type 0 where
  pub before : List ℕ
  pub split : before ++ left ≡ tasks
  pub idle : w.called ≡ None
  pub moves : Moves v w
  pub kept : (t : NameMap) (p : Parts) (by : Origin) → Keeps t v p → Kept t p w (request_each by before p).parts

pub none_asked : (v : View) (tasks : List ℕ) → v.called ≡ None → AskedSoFar v v tasks tasks
none_asked v tasks idle = record {
  before = [];
  split = refl;
  idle = idle;
  moves = same_moves v;
  kept = λ t p by k. kept_none t v p by k;
}

pub one_asked : (v w x : View) (task : ℕ) (tasks left : List ℕ) → AskedSoFar v w tasks (task ∷ left)
    → parts x ≡ (cancel (future_of (parts w) task) (parts w)).parts → Appended w.queue x.queue
    → x ≡ record w { queue = x.queue; futures = x.futures; tasks = x.tasks } → AskedSoFar v x tasks left
one_asked v w x task tasks left so e q b = record {
  before = so.before ++ task ∷ [];
  split = append_assoc so.before (task ∷ []) left ∙ so.split;
  idle = ap (λ (y : View). y.called) b ∙ so.idle;
  moves = then_moves v w x so.moves
      (moves_by w x (cancel (future_of (parts w) task) (parts w)).parts e (cancel_on (future_of (parts w) task) (parts w)) b);
  kept = λ t p by k. kept_each_more t v w x p by so.before task (so.kept t p by k) e q b;
}

pub all_asked : (v w : View) (tasks left : List ℕ) → AskedSoFar v w tasks left → left ≡ [] → (t : NameMap) (p : Parts) (by : Origin)
    → Keeps t v p → Kept t p w (request_each by tasks p).parts
all_asked v w tasks left so e t p by k =
    let whole : so.before ≡ tasks = sym (append-nil so.before) ∙ ap (λ rest. so.before ++ rest) (sym e) ∙ so.split in
    subst (λ ts. Kept t p w (request_each by ts p).parts) whole (so.kept t p by k)
