-- What holds of the bare parts, of the parts themselves.
use Rattle.std.proofs.Common.{◌≡◌, ℕ, suc, ◌+◌, ◌<◌, ◌⊎◌, Bool, true, false, not, ◌&&◌, cond, List, [], ◌∷◌, Option, Some, None, length, map, slice_get}
use Rattle.std.proofs.Common.{refl, ap, sym, subst, ◌∙◌, arith, inl, inr}
use Rattle.std.proofs.lemmas.Bool.{cases_Bool}
use Rattle.std.proofs.lemmas.List.Sums.{sum_by-cons}
use Rattle.std.proofs.lemmas.List.{length-map}
use Rattle.std.specs.List.{count_by}
use Rattle.std.specs.Option.{option_map}
use Rattle.model_value.specs.Action.{Action}
use Rattle.model_value.specs.declared.action.Action.TheVariants.{Step, StepInCycle, Wakeup}
use Rattle.model_loop.specs.Parts.{Handle, Future, Parts}
use Rattle.model_loop.specs.Futures.{is_pending}
use Rattle.model_loop.specs.Tasks.{future_of, lives, waiter_of}
use Rattle.model_loop.specs.Totals.{callbacks_of, callbacks_at, registered_at, pending_where}
use Rattle.model_loop.specs.Ways.{steps, resumes, wakes, is_running, one_if, ways, wakeups_on, HasOneWay, IsReady}
use Rattle.model_loop.specs.MustCancel.{MayKeepMustCancel, MustCancelWaits}
use Rattle.model_loop.specs.Spent.{spent_by}
use Rattle.model_loop.specs.Sound.{ArePartsSound}
use Rattle.law_steps.proofs.Looks.{spent_grows_below}
use Rattle.law_steps.proofs.Stepping.{taken-where}
use Rattle.aio_task.specs.Bare.{bare_action, bare_handle, bare_future, bare}
use Rattle.aio_task.specs.View.{View, parts}
use Rattle.aio_task.specs.Kept.{AreSound, IsKept, with_first}
use Rattle.aio_task.proofs.BareLemmas.{bare_at}
use Rattle.aio_task.proofs.BareSteps.{future_of-bare}
use Rattle.aio_task.proofs.Keeping.{at_rest}
use Rattle.aio_task.proofs.KeptSteps.{bare_pends, steps_it, nat_same}

-- a test that can't tell a bare action
abbrev Blind : (Action → Bool) → Type 0
Blind test = (action : Action) → test (bare_action action) ≡ test action

steps_blind : (task : ℕ) → Blind (steps task)
steps_blind task (Step other) = refl
steps_blind task (StepInCycle other cycle) = refl
steps_blind task (Wakeup other) = refl
steps_blind task _ = refl

resumes_blind : (task : ℕ) → Blind (resumes task)
resumes_blind task (Step other) = refl
resumes_blind task (StepInCycle other cycle) = refl
resumes_blind task (Wakeup other) = refl
resumes_blind task _ = refl

wakes_blind : (task : ℕ) → Blind (wakes task)
wakes_blind task (Step other) = refl
wakes_blind task (StepInCycle other cycle) = refl
wakes_blind task (Wakeup other) = refl
wakes_blind task _ = refl

counts_same : (test : Action → Bool) → Blind test → (actions : List Action) → count_by test (map bare_action actions) ≡ count_by test actions
counts_same test blind [] = refl
counts_same test blind (a ∷ actions) =
    sum_by-cons (λ x. cond (test x) 1 0) (bare_action a) (map bare_action actions)
    ∙ ap (λ n. cond (test (bare_action a)) 1 0 + n) (counts_same test blind actions)
    ∙ ap (λ b. cond b 1 0 + count_by test actions) (blind a)
    ∙ sym (sum_by-cons (λ x. cond (test x) 1 0) a actions)

pending_same : (test : Action → Bool) → Blind test → (handles : List Handle) → pending_where test (map bare_handle handles) ≡ pending_where test handles
pending_same test blind [] = refl
pending_same test blind (h ∷ handles) =
    sum_by-cons (λ (x : Handle). cond (not x.dead && test x.action) 1 0) (bare_handle h) (map bare_handle handles)
    ∙ ap (λ n. cond (not h.dead && test (bare_action h.action)) 1 0 + n) (pending_same test blind handles)
    ∙ ap (λ b. cond (not h.dead && b) 1 0 + pending_where test handles) (blind h.action)
    ∙ sym (sum_by-cons (λ (x : Handle). cond (not x.dead && test x.action) 1 0) h handles)

calls-bare : (p : Parts) (id : ℕ) → callbacks_of (bare p) id ≡ map bare_action (callbacks_of p id)
calls-bare p id = ap callbacks_at (bare_at p id) ∙ at (slice_get p.futures id)
  where
    at : (o : Option Future) → callbacks_at (option_map bare_future o) ≡ map bare_action (callbacks_at o)
    at None = refl
    at (Some f) = refl

wakeups-bare : (p : Parts) (task on : ℕ) → wakeups_on (bare p) task on ≡ wakeups_on p task on
wakeups-bare p task on = ap (count_by (steps task)) (calls-bare p on) ∙ counts_same (steps task) (steps_blind task) (callbacks_of p on)

pub lives-bare : (p : Parts) (task : ℕ) → lives (bare p) task ≡ lives p task
lives-bare p task = ap (is_pending (bare p)) (future_of-bare p task) ∙ bare_pends p (future_of p task)

ways-bare : (p : Parts) (task : ℕ) → ways (bare p) task ≡ ways p task
ways-bare p task =
    ap (λ n. n + registered_at (bare p) (steps task) (waiter_of p task)) (pending_same (steps task) (steps_blind task) p.pending)
    ∙ ap (λ n. pending_where (steps task) p.pending + n) (home (waiter_of p task))
  where
    home : (w : Option ℕ) → registered_at (bare p) (steps task) w ≡ registered_at p (steps task) w
    home None = refl
    home (Some on) = wakeups-bare p task on

pub one_way_of : (running : Option ℕ) (p : Parts) → HasOneWay running (bare p) → HasOneWay running p
one_way_of running p is = record {
  one = λ t. sym (ways-bare p t) ∙ is.one t ∙ ap (λ b. one_if (b && not (is_running running t))) (lives-bare p t);
  on_waiter = λ t on h. is.on_waiter t on (subst (λ n. 0 < n) (sym (wakeups-bare p t on)) h);
  stays = λ t on l w h. sym (wakeups-bare p t on) ∙ is.stays t on (lives-bare p t ∙ l) w (bare_pends p on ∙ h);
}

pub ready_of : (p : Parts) → IsReady (bare p) → IsReady p
ready_of p is = record {
  free = λ t h. is.free t (subst (λ n. 0 < n) (sym (pending_same (resumes t) (resumes_blind t) p.pending)) h);
  woken = λ t h.
      let x = is.woken t (subst (λ n. 0 < n) (sym (pending_same (wakes t) (wakes_blind t) p.pending)) h) in
      (x.0, x.1, sym (bare_pends p x.0) ∙ x.2);
}

pub must_cancels_of : (running : Option ℕ) (p : Parts) → MustCancelWaits running (bare p) → MustCancelWaits running p
must_cancels_of running p is t l m = may (is t (lives-bare p t ∙ l) m)
  where
    spent : (g : ℕ → Bool) (j : ℕ)
        → (spent_by g (slice_get p.futures j) j ≡ spent_by g (slice_get (bare p).futures j) j) ⊎ (is_pending p j ≡ false)
    spent g j = inl (sym (ap (λ o. spent_by g o j) (bare_at p j) ∙ at (slice_get p.futures j)))
      where
        at : (o : Option Future) → spent_by g (option_map bare_future o) j ≡ spent_by g o j
        at None = refl
        at (Some f) = refl

    may : MayKeepMustCancel running (bare p) t → MayKeepMustCancel running p t
    may (inl r) = inl r
    may (inr (inl h)) = inr (inl (subst (λ n. 0 < n) (pending_same (steps t) (steps_blind t) p.pending) h))
    may (inr (inr w)) = inr (inr (w.0, w.1, sym (bare_pends p w.0) ∙ w.2, spent_grows_below (suc w.0) (bare p) p spent w.0 w.3))

-- ---- of what the type keeps
module _ (v : View) (is : IsKept v) where
  sound : v.called ≡ None → ArePartsSound v.running v.running (bare (parts v))
  sound idle = at_rest v.running v.called (parts v) idle is.sound

  pub kept_one_way : v.called ≡ None → HasOneWay v.running (parts v)
  kept_one_way idle = one_way_of v.running (parts v) (sound idle).one_way

  pub kept_ready : v.called ≡ None → IsReady (parts v)
  kept_ready idle = ready_of (parts v) (sound idle).ready

  pub kept_must_cancel : v.called ≡ None → MustCancelWaits v.running (parts v)
  kept_must_cancel idle = must_cancels_of v.running (parts v) (sound idle).must_cancel

  pub kept_waits : (task on : ℕ) → v.called ≡ None → waiter_of (parts v) task ≡ Some on → on < length v.futures
  kept_waits task on idle waits =
      subst (λ n. on < n) (length-map v.futures bare_future) ((sound idle).waits_made task on waits)

  pub kept_runs : (task : ℕ) → v.called ≡ None → v.running ≡ Some task → lives (parts v) task ≡ true
  kept_runs task idle runs =
      sym (lives-bare (parts v) task) ∙ (sound idle).runs task (ap (λ r. is_running r task) runs ∙ nat_same task)

  pub kept_called : (task : ℕ) → v.called ≡ Some task → v.running ≡ None → lives (parts v) task ≡ true
  kept_called task called alone =
      let s : AreSound None (Some task) (parts v) =
      subst (λ x. AreSound x (Some task) (parts v)) alone (subst (λ x. AreSound v.running x (parts v)) called is.sound) in
      let p = bare (with_first s.0 (parts v)) in
      let handle : Handle = record { stamp = 0; tag = 0; action = bare_action s.0; dead = false } in
      let rest = map bare_handle (parts v).pending in
      let first = taken-where (steps task) handle rest p refl in
      let mine = steps_it s.0 task s.1 in
      let one = s.2.one_way.one task in
      sym (lives-bare (parts v) task) ∙ go p (bare_action s.0) rest (cases_Bool (lives p task)) first mine one
    where
      go : (p : Parts) (action : Action) (rest : List Handle) → (lives p task ≡ true) ⊎ (lives p task ≡ false)
          → pending_where (steps task) p.pending ≡ cond (steps task action) 1 0 + pending_where (steps task) rest
          → steps task action ≡ true
          → ways p task ≡ one_if (lives p task && not (is_running None task)) → lives p task ≡ true
      go p action rest (inl l) first mine one = l
      go p action rest (inr d) first mine one =
          let none : ways p task ≡ 0 = one ∙ rw d refl in
          let more : pending_where (steps task) p.pending ≡ 1 + pending_where (steps task) rest = first ∙ rw mine refl in
          absurd (omega (arith, none, more))
