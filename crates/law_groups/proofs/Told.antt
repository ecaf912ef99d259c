-- Steps of the parts keep what a group will be told, and the failures that it was told.
use Rattle.std.proofs.Common.{◌≡◌, ℕ, ◌+◌, ◌≤◌, ◌<◌, false, cond, List, [], ◌∷◌, ◌++◌, Option, Some, None, length, nat_eq, option_map, slice_get, refl, ap, sym}
use Rattle.std.proofs.Common.{subst, ◌∙◌, arith}
use Rattle.std.proofs.lemmas.Bool.{eq-eqb}
use Rattle.std.proofs.lemmas.Option.{slice_get_within}
use Rattle.std.proofs.lemmas.List.Sums.{sum_by-cons}
use Rattle.std.specs.List.{count_by, cons_option}
use Rattle.std.specs.Option.{option_map_or}
use Rattle.model_value.specs.declared.outcome.Outcome.TheVariants.{Cancelled}
use Rattle.model_loop.specs.Parts.{Task, Parts}
use Rattle.model_loop.specs.Loop.{Group}
use Rattle.model_loop.specs.Futures.{future_outcome, is_pending}
use Rattle.model_loop.specs.Tasks.{lives, future_of, next_task}
use Rattle.model_loop.specs.Cancel.{cancel}
use Rattle.model_loop.specs.Groups.{failure_in, failure_of}
use Rattle.model_loop.specs.Children.{failures, tells, IsTold, HasErrors, body_at_end}
use Rattle.model_loop.specs.Numbered.{occurrences}
use Rattle.model_loop.specs.Totals.{callbacks_of, pending_where, registered_at, total}
use Rattle.law_steps.specs.Frames.{IsNoTask, Covers}
use Rattle.model_loop.specs.Owning.{owner_in, owner_at, own_future}
use Rattle.model_loop.specs.Sound.{ArePartsSound}
use Rattle.law_steps.proofs.Settling.{IsSettled, settle_effect}
use Rattle.law_steps.proofs.SettleWays.{none_away, settled-total, settled-home, settled-lives}
use Rattle.law_steps.proofs.Looks.{LooksSame, future_of-owned, same-lives, change_looks_same, asked_looks_same, follow_tells}
use Rattle.law_steps.proofs.CancelSound.{is_no_task, cancels_sound}
use Rattle.law_steps.proofs.Spreading.{Spreads, begins, settles, asks, raises, sets_must_cancel, with_spread}

pub settled-owned : {id : ℕ} {p q : Parts} → IsSettled id p q → (task : ℕ) → own_future q task ≡ own_future p task
settled-owned s task = ap (λ (ts : List Task). option_map (λ (t : Task). t.future) (slice_get ts task)) s.tasks

-- the number of a task that is there is that of its own future
pub own_is : (p : Parts) (task on : ℕ) → own_future p task ≡ Some on → future_of p task ≡ on
own_is p task on e = future_of-owned p task ∙ ap (λ o. option_map_or (λ (i : ℕ). i) o (length p.futures)) e

-- ---- an outcome of a future that is no task's
pub settled_told : (id : ℕ) (p q : Parts) → IsNoTask p id → IsSettled id p q → (group : ℕ) (told : List ℕ) (it : Group) → IsTold p group told it
    → IsTold q group told it
settled_told id p q free s group told it is = record {
  tellings = λ task. ap (total q (tells group task)) (settled-owned s task) ∙ settled-total s (tells group task) (own_future p task) (is.at_home task)
      ∙ is.tellings task;
  at_home = λ task on h. settled-owned s task ∙ settled-home s (tells group task) (own_future p task) (is.at_home task) on h;
  not_yet = λ task l.
      let a = s.called (tells group task) in
      let b = is.not_yet task (sym (lives_same task) ∙ l) in
      let c = none_away p (tells group task) (own_future p task) (is.at_home task) id (λ e. free task (sym (own_is p task id e))) in
      omega (arith, a, b, c);
  told_done = λ task h. lives_same task ∙ is.told_done task h;
  made_below = λ task h. subst (λ (n : ℕ). task < n) (sym (ap length s.tasks)) (is.made_below task h);
  parent_lives = λ e n. lives_same it.parent ∙ is.parent_lives e n;
}
  where
    lives_same : (task : ℕ) → lives q task ≡ lives p task
    lives_same task = settled-lives s task (free task)

-- ---- what looks the same to groups
pub record SameToGroups (p q : Parts) : Type 0 where
  pub pending : (group task : ℕ) → pending_where (tells group task) q.pending ≡ pending_where (tells group task) p.pending
  pub registered : (group task on : ℕ) → count_by (tells group task) (callbacks_of q on) ≡ count_by (tells group task) (callbacks_of p on)
  pub owned : (task : ℕ) → own_future q task ≡ own_future p task
  pub living : (task : ℕ) → lives q task ≡ lives p task
  pub tasks : next_task q ≡ next_task p

pub framed_told : (p q : Parts) → SameToGroups p q → (group : ℕ) (told : List ℕ) (it : Group) → IsTold p group told it → IsTold q group told it
framed_told p q s group told it is = record {
  tellings = λ task. ap (total q (tells group task)) (s.owned task)
      ∙ ap (λ k. k + registered_at q (tells group task) (own_future p task)) (s.pending group task)
      ∙ ap (λ k. pending_where (tells group task) p.pending + k) (at_same task (own_future p task)) ∙ is.tellings task;
  at_home = λ task on h. s.owned task ∙ is.at_home task on (subst (λ k. 0 < k) (s.registered group task on) h);
  not_yet = λ task l. s.pending group task ∙ is.not_yet task (sym (s.living task) ∙ l);
  told_done = λ task h. s.living task ∙ is.told_done task h;
  made_below = λ task h. subst (λ (n : ℕ). task < n) (sym s.tasks) (is.made_below task h);
  parent_lives = λ e n. s.living it.parent ∙ is.parent_lives e n;
}
  where
    at_same : (task : ℕ) (o : Option ℕ) → registered_at q (tells group task) o ≡ registered_at p (tells group task) o
    at_same task None = refl
    at_same task (Some on) = s.registered group task on

pub looks_to_groups : (p q : Parts) → LooksSame p q → SameToGroups p q
looks_to_groups p q s = record {
  pending = λ group task. s.pending (tells group task) (follow_tells group task);
  registered = λ group task on. ap (count_by (tells group task)) (s.callbacks on);
  owned = s.owned;
  living = same-lives s;
  tasks = s.tasks;
}

pub same_told : (p q : Parts) → LooksSame p q → (group : ℕ) (told : List ℕ) (it : Group) → IsTold p group told it → IsTold q group told it
same_told p q s group told it is = framed_told p q (looks_to_groups p q s) group told it is

-- ---- a request
pub cancels_told : (running excused : Option ℕ) → Covers running excused → {s : List ℕ} {p : Parts} {t : List ℕ} {q : Parts} → Spreads s p t q
    → ArePartsSound running excused p → (group : ℕ) (told : List ℕ) (it : Group) → IsTold p group told it → IsTold q group told it
cancels_told running excused covers begins sound group told it is = is
cancels_told running excused covers (settles {q = q} g id future e o k) sound group told it is =
    let here = cancels_sound running excused covers g sound in
    settled_told id q _ (is_no_task q here.owns id (ap owner_at e ∙ ap owner_in k) (slice_get_within q.futures id future e))
    (settle_effect id Cancelled q future e o) group told it (cancels_told running excused covers g sound group told it is)
cancels_told running excused covers (asks {q = q} g id future members asked e o k) sound group told it is =
    same_told q _ (asked_looks_same id q future e) group told it (cancels_told running excused covers g sound group told it is)
cancels_told running excused covers (raises {q = q} g id task n e) sound group told it is =
    same_told q _ (change_looks_same id _ q (λ t. refl) (λ t. refl)) group told it (cancels_told running excused covers g sound group told it is)
cancels_told running excused covers (sets_must_cancel {q = q} g id can) sound group told it is =
    same_told q _ (change_looks_same id _ q (λ t. refl) (λ t. refl)) group told it (cancels_told running excused covers g sound group told it is)

pub cancel_told : (running excused : Option ℕ) → Covers running excused → (id : ℕ) (p : Parts) → ArePartsSound running excused p
    → (group : ℕ) (told : List ℕ) (it : Group) → IsTold p group told it → IsTold (cancel id p).parts group told it
cancel_told running excused covers id p sound group told it is = cancels_told running excused covers (with_spread id [] p) sound group told it is

-- ---- failures of tasks that are done
pub failures_kept : (p q : Parts) (told : List ℕ) → ((task : ℕ) → 1 ≤ occurrences task told → failure_of q task ≡ failure_of p task)
    → failures q told ≡ failures p told
failures_kept p q [] same = refl
failures_kept p q (x ∷ told) same =
    ap (λ o. cons_option o (failures q told))
    (same x (let c = sum_by-cons (λ y. cond (nat_eq x y) 1 0) x told in let e = eq-eqb x x refl in
    let d : occurrences x (x ∷ told) ≡ 1 + occurrences x told = c ∙ rw e refl in omega (arith, d)))
    ∙ ap (cons_option (failure_of p x))
    (failures_kept p q told (λ task h. same task (let c = sum_by-cons (λ y. cond (nat_eq task y) 1 0) x told in omega (arith, c, h))))

-- a step that leaves done futures as they are keeps the errors
pub errors_kept : (p q : Parts) (group : ℕ) (told : List ℕ) (it : Group) → ((id : ℕ) → is_pending p id ≡ false → future_outcome q id ≡ future_outcome p id)
    → ((task : ℕ) → task < next_task p → future_of q task ≡ future_of p task) → IsTold p group told it
    → ((task : ℕ) → 1 ≤ occurrences task told → 1 ≤ occurrences task it.made) → HasErrors p told it → HasErrors q told it
errors_kept p q group told it stay same is made errors =
    errors ∙ ap (λ l. l ++ body_at_end it.ended it.body) (sym (failures_kept p q told (λ task h.
    ap (λ id. failure_in (future_outcome q id)) (same task (is.made_below task (made task h)))
    ∙ ap failure_in (stay (future_of p task) (is.told_done task h)))))
