-- What futures and tasks tell is the same in code.
use Rattle.std.proofs.Common.{◌≡◌, ℕ, zero, suc, ◌+◌, ◌<◌, ◌≤◌, ◌⊎◌, ◌==◌, ◌||◌, Bool, true, false, cond, List, [], ◌∷◌, Option, Some, None, length, slice_get}
use Rattle.std.proofs.Common.{slice_set, refl, ap, sym, ◌∙◌, inl, inr, arith, if◌then◌else◌}
use Rattle.std.specs.Prelude.{nat_lt, not}
use Rattle.std.specs.Option.{option_map, option_map_or}
use Rattle.std.proofs.Math.Bool.{or-false}
use Rattle.std.proofs.lemmas.Bool.{or_cases, or_right, eqb-true, eq-eqb, ne_eqb, lt-ltb}
use Rattle.model_value.specs.Value.{Outcome}
use Rattle.model_loop.specs.Parts.{Future, Task, Parts}
use Rattle.model_loop.specs.Futures.{next_future, is_pending, is_pending_at, outcome_at, future_outcome}
use Rattle.model_loop.specs.Cancel.{cancel}
use Rattle.model_loop.specs.Owning.{owner_at, owner_of}
use Rattle.model_loop.specs.Cycles.{cycle}
use Rattle.model_loop.specs.Spent.{is_spent}
use Rattle.model_loop.specs.Tasks.{future_of, lives}
use Rattle.law_cancel.proofs.Answering.{with_answer_spent}
use Rattle.algorithm_parts.specs.Released.{released, release_from, with_released}
use Rattle.algorithm_parts.specs.Quiet.{stage_of, stage}
use Rattle.algorithm_parts.proofs.ReleasedLemmas.{with_released_at, cancel-release}
use Rattle.algorithm_parts.proofs.ReleasedSteps.{cycle-release}
use Rattle.algorithm_parts.proofs.PlacedLemmas.{cancel-placed}
use Rattle.aio_task.specs.View.{View, parts}
use Rattle.aio_task.specs.Keeps.{NameMap, Keeps, release}
use Rattle.refine_parts.proofs.Becoming.{parts_kept}
use Rattle.refine_parts.proofs.PlacedSteps.{cycle-placed}

length_release : (gone : ℕ → Bool) (number : ℕ) (futures : List Future) → length (release_from gone number futures) ≡ length futures
length_release gone number [] = refl
length_release gone number (f ∷ futures) = ap suc (length_release gone (suc number) futures)

not_pending : (o : Option Future) → stage o ≡ None → is_pending_at o ≡ false
not_pending None s = refl
not_pending (Some future) s = go future.outcome s
  where
    go : (o : Option Outcome) → stage_of o future.kind ≡ None → is_pending_at (Some (record future { outcome = o })) ≡ false
    go (Some outcome) s = refl
    go None s = absurd (cc)

over : (o : Option Future) → is_pending_at o ≡ false → stage o ≡ None
over None s = refl
over (Some future) s = go future.outcome s
  where
    go : (o : Option Outcome) → is_pending_at (Some (record future { outcome = o })) ≡ false → stage_of o future.kind ≡ None
    go (Some outcome) s = refl
    go None s = absurd (cc)

not_same : (a b : Bool) → not a ≡ not b → a ≡ b
not_same true true e = refl
not_same false false e = refl
not_same true false e = absurd (cc)
not_same false true e = absurd (cc)

-- ---- one future more is released
release_same : (gone other : ℕ → Bool) (number : ℕ) → ((id : ℕ) → number ≤ id → gone id ≡ other id) → (futures : List Future)
    → release_from gone number futures ≡ release_from other number futures
release_same gone other number same [] = refl
release_same gone other number same (f ∷ futures) =
    let e = same number (omega arith) in
    let more = release_same gone other (suc number) (λ id h. same id (omega arith)) futures in
    rw (e, more) refl

release_one : (gone : ℕ → Bool) (number place id : ℕ) → id ≡ number + place → (futures : List Future) → place < length futures
    → slice_set (release_from gone number futures) place released ≡ release_from (λ other. gone other || (other == id)) number futures
release_one gone number place id e [] h = absurd (omega arith)
release_one gone number zero id e (f ∷ futures) h =
    let here : (gone number || (number == id)) ≡ true = or_right (gone number) (number == id) (eq-eqb number id (omega arith)) in
    let more = release_same gone (λ other. gone other || (other == id)) (suc number)
    (λ other after. let n : (other == id) ≡ false = ne_eqb other id (omega arith) in rw n (sym (or-false (gone other)))) futures in
    rw (here, more) refl
release_one gone number (suc place) id e (f ∷ futures) h =
    let n : (number == id) ≡ false = ne_eqb number id (omega arith) in
    let here : (gone number || (number == id)) ≡ gone number = rw n (or-false (gone number)) in
    let more = release_one gone (suc number) place id (omega arith) futures (omega arith) in
    rw (here, more) refl

module _ (t : NameMap) (v : View) (p : Parts) (k : Keeps t v p) where
  pub next_kept : length v.futures ≡ next_future p
  next_kept = ap length k.futures ∙ length_release t.gone 0 p.futures

  -- ---- futures
  at_kept : (id : ℕ) → slice_get v.futures id ≡ option_map (λ (f : Future). cond (t.gone id) released f) (slice_get p.futures id)
  at_kept id = ap (λ fs. slice_get fs id) k.futures ∙ with_released_at t.gone p id

  pub there_kept : (id : ℕ) → t.gone id ≡ false → slice_get v.futures id ≡ slice_get p.futures id
  there_kept id g = at_kept id ∙ rw g (same (slice_get p.futures id))
    where
      same : (o : Option Future) → option_map (λ (f : Future). cond false released f) o ≡ o
      same None = refl
      same (Some future) = refl

  pub outcome_kept : (id : ℕ) → t.gone id ≡ false → outcome_at (slice_get v.futures id) ≡ future_outcome p id
  outcome_kept id g = ap outcome_at (there_kept id g)

  pub gone_done : (id : ℕ) → t.gone id ≡ true → is_pending p id ≡ false
  gone_done id g = not_pending (slice_get p.futures id) (k.done id g)

  pub pending_kept : (id : ℕ) → is_pending_at (slice_get v.futures id) ≡ is_pending p id
  pending_kept id = ap is_pending_at (at_kept id) ∙ go (slice_get p.futures id) (t.gone id) (λ g. gone_done id g)
    where
      go : (o : Option Future) (b : Bool) → (b ≡ true → is_pending_at o ≡ false)
          → is_pending_at (option_map (λ (f : Future). cond b released f) o) ≡ is_pending_at o
      go None b d = refl
      go (Some future) false d = refl
      go (Some future) true d = sym (d refl)

  pub owner_kept : (id : ℕ) → owner_of p id ≡ None → owner_at (slice_get v.futures id) ≡ None
  owner_kept id none = ap owner_at (at_kept id) ∙ go (slice_get p.futures id) (t.gone id) none
    where
      go : (o : Option Future) (b : Bool) → owner_at o ≡ None → owner_at (option_map (λ (f : Future). cond b released f) o) ≡ None
      go None b e = refl
      go (Some future) false e = e
      go (Some future) true e = refl

  -- ---- tasks
  pub future_of_kept : (task : ℕ) → future_of (parts v) task ≡ future_of p task
  future_of_kept task =
      ap (λ ts. option_map_or (λ (it : Task). it.future) (slice_get ts task) (length v.futures)) k.tasks
      ∙ ap (option_map_or (λ (it : Task). it.future) (slice_get p.tasks task)) next_kept

  pub lives_kept : (task : ℕ) → lives (parts v) task ≡ lives p task
  lives_kept task = ap (λ id. is_pending_at (slice_get v.futures id)) (future_of_kept task) ∙ pending_kept (future_of p task)

  pub cycle_kept : (task on : ℕ) → cycle (parts v) task on ≡ cycle p task on
  cycle_kept task on =
      ap (λ x. cycle x task on) (parts_kept t v p k) ∙ cycle-placed (with_released t.gone p) task on ∙ cycle-release t.gone p k.done task on

  -- ---- requests
  pub answer_kept : (id : ℕ) → (cancel id (parts v)).answer ≡ (cancel id p).answer
  answer_kept id =
      ap (λ x. (cancel id x).answer) (parts_kept t v p k) ∙ ap (λ r. r.answer) (cancel-placed id (with_released t.gone p))
      ∙ ap (λ r. r.answer) (cancel-release t.gone id p k.done)

  pub spent_kept : (id : ℕ) → is_spent (parts v) id ≡ is_spent p id
  spent_kept id =
      not_same (is_spent (parts v) id) (is_spent p id)
      (sym (with_answer_spent id [] (parts v)) ∙ answer_kept id ∙ with_answer_spent id [] p)

  -- ---- a future is released
  pub keeps_release : (id : ℕ) → id < next_future p → is_pending p id ≡ false
      → Keeps (release id t) (record v { futures = (if nat_lt id (length v.futures) then slice_set v.futures id released else v.futures) }) p
  keeps_release id made done = record {
    time = k.time;
    handles = k.handles;
    timers = k.timers;
    deadlines = k.deadlines;
    names = k.names;
    futures = released_kept;
    made = λ other g. go_made other (or_cases (t.gone other) (other == id) g);
    done = λ other g. go_done other (or_cases (t.gone other) (other == id) g);
    tasks = k.tasks;
    numbered = k.numbered;
  }
    where
      released_kept : (if nat_lt id (length v.futures) then slice_set v.futures id released else v.futures)
          ≡ release_from (λ other. t.gone other || (other == id)) 0 p.futures
      released_kept =
          let l : length v.futures ≡ next_future p = next_kept in
          rw (lt-ltb id (length v.futures) (omega (arith, l, made)))
          (ap (λ fs. slice_set fs id released) k.futures ∙ release_one t.gone 0 id id (omega arith) p.futures made)

      go_made : (other : ℕ) → (t.gone other ≡ true) ⊎ ((other == id) ≡ true) → other < next_future p
      go_made other (inl g) = k.made other g
      go_made other (inr e) = let s : other ≡ id = eqb-true other id e in omega arith

      go_done : (other : ℕ) → (t.gone other ≡ true) ⊎ ((other == id) ≡ true) → stage (slice_get p.futures other) ≡ None
      go_done other (inl g) = k.done other g
      go_done other (inr e) = let s : other ≡ id = eqb-true other id e in rw s (over (slice_get p.futures id) done)
