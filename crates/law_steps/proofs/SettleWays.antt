-- Ways on after an outcome: what was registered on the future is pending now.
use Rattle.std.proofs.Common.{◌≡◌, ℕ, zero, suc, ◌+◌, ◌<◌, ◌⊎◌, Bool, true, not, ◌&&◌, List, Option, Some, None, length, slice_get, refl, ap, sym, subst, ◌∙◌}
use Rattle.std.proofs.Common.{inl, inr, arith}
use Rattle.std.proofs.lemmas.Bool.{cases_eq, false≢true}
use Rattle.std.proofs.lemmas.Option.{same_Some, none-some}
use Rattle.std.specs.List.{count_by}
use Rattle.std.specs.Option.{option_map_or}
use Rattle.model_value.specs.Action.{Action}
use Rattle.model_value.specs.Value.{Outcome}
use Rattle.model_loop.specs.Parts.{Task, Parts}
use Rattle.model_loop.specs.Futures.{settle, is_pending, is_pending_at}
use Rattle.model_loop.specs.Tasks.{lives, waiter_of, future_of}
use Rattle.model_loop.specs.Ways.{steps, wakeups_on, is_running, one_if, ways, HasOneWay}
use Rattle.model_loop.specs.Totals.{callbacks_at, callbacks_of, pending_where, total, IsAtHome}
use Rattle.law_steps.specs.Frames.{IsOnWaiter, IsNoTask}
use Rattle.law_steps.proofs.Settling.{IsSettled, settle_cases}

-- what a task waits for and its future stay
pub settled-waiter : {id : ℕ} {p q : Parts} → IsSettled id p q → (task : ℕ) → waiter_of q task ≡ waiter_of p task
settled-waiter s task = ap (λ (ts : List Task). option_map_or (λ (t : Task). t.waiter) (slice_get ts task) None) s.tasks

pub settled-future : {id : ℕ} {p q : Parts} → IsSettled id p q → (task : ℕ) → future_of q task ≡ future_of p task
settled-future {id} {p} {q} s task =
    ap (λ (ts : List Task). option_map_or (λ (t : Task). t.future) (slice_get ts task) (length q.futures)) s.tasks
    ∙ ap (λ n. option_map_or (λ (t : Task). t.future) (slice_get p.tasks task) n) s.made

pub settled-pending : {id : ℕ} {p q : Parts} → IsSettled id p q → (j : ℕ) → (id ≡ j → ⊥) → is_pending q j ≡ is_pending p j
settled-pending s j n = ap is_pending_at (s.others j n)

pub settled-wakeups : {id : ℕ} {p q : Parts} → IsSettled id p q → (task j : ℕ) → (id ≡ j → ⊥) → wakeups_on q task j ≡ wakeups_on p task j
settled-wakeups s task j n = ap (λ o. count_by (steps task) (callbacks_at o)) (s.others j n)

pub settled-gone : {id : ℕ} {p q : Parts} → IsSettled id p q → (task : ℕ) → wakeups_on q task id ≡ 0
settled-gone s task = ap (count_by (steps task)) s.none

pub settled-lives : {id : ℕ} {p q : Parts} → IsSettled id p q → (task : ℕ) → (id ≡ future_of p task → ⊥) → lives q task ≡ lives p task
settled-lives {id} {p} {q} s task n = ap (is_pending q) (settled-future s task) ∙ settled-pending s (future_of p task) n

-- none is registered but at home
pub none_away : (p : Parts) (test : Action → Bool) (home : Option ℕ) → IsAtHome p test home → (on : ℕ) → (home ≡ Some on → ⊥)
    → count_by test (callbacks_of p on) ≡ 0
none_away p test home at_home on n = go (count_by test (callbacks_of p on)) refl
  where
    go : (k : ℕ) → count_by test (callbacks_of p on) ≡ k → count_by test (callbacks_of p on) ≡ 0
    go zero e = e
    go (suc k) e = absurd (n (at_home on (omega (arith, e))))

pub none_elsewhere : (p : Parts) → IsOnWaiter p → (task on : ℕ) → (waiter_of p task ≡ Some on → ⊥) → wakeups_on p task on ≡ 0
none_elsewhere p on_waiter task on n = none_away p (steps task) (waiter_of p task) (on_waiter task) on n

-- what was registered on the future is pending now
pub settled-total : {id : ℕ} {p q : Parts} → IsSettled id p q → (test : Action → Bool) (home : Option ℕ) → IsAtHome p test home
    → total q test home ≡ total p test home
settled-total {id} {p} {q} s test home at_home = go home refl
  where
    moved : pending_where test q.pending ≡ pending_where test p.pending + count_by test (callbacks_of p id)
    moved = s.called test

    go : (h : Option ℕ) → home ≡ h → total q test h ≡ total p test h
    go None e =
        let z : count_by test (callbacks_of p id) ≡ 0 = none_away p test home at_home id (λ x. none-some id (sym e ∙ x)) in
        omega (arith, moved, z)
    go (Some w) e = at (cases_eq id w)
      where
        at : (id ≡ w) ⊎ (id ≡ w → ⊥) → total q test (Some w) ≡ total p test (Some w)
        at (inl same) =
            let z : count_by test (callbacks_of q w) ≡ 0 = subst (λ j. count_by test (callbacks_of q j) ≡ 0) same (ap (count_by test) s.none) in
            let m : pending_where test q.pending ≡ pending_where test p.pending + count_by test (callbacks_of p w) =
            subst (λ j. pending_where test q.pending ≡ pending_where test p.pending + count_by test (callbacks_of p j)) same moved in
            omega (arith, m, z)
        at (inr n) =
            let z : count_by test (callbacks_of p id) ≡ 0 = none_away p test home at_home id (λ x. n (same_Some id w (sym x ∙ e))) in
            let k : count_by test (callbacks_of q w) ≡ count_by test (callbacks_of p w) = ap (λ o. count_by test (callbacks_at o)) (s.others w n) in
            omega (arith, moved, z, k)

pub settled-home : {id : ℕ} {p q : Parts} → IsSettled id p q → (test : Action → Bool) (home : Option ℕ) → IsAtHome p test home → IsAtHome q test home
settled-home {id} {p} {q} s test home at_home on h = go (cases_eq id on)
  where
    go : (id ≡ on) ⊎ (id ≡ on → ⊥) → home ≡ Some on
    go (inl same) =
        let z : count_by test (callbacks_of q on) ≡ 0 = subst (λ j. count_by test (callbacks_of q j) ≡ 0) same (ap (count_by test) s.none) in
        absurd (omega (arith, h, z))
    go (inr n) = at_home on (subst (λ k. 0 < k) (ap (λ o. count_by test (callbacks_at o)) (s.others on n)) h)

pub settled-ways : {id : ℕ} {p q : Parts} → IsSettled id p q → IsOnWaiter p → (task : ℕ) → ways q task ≡ ways p task
settled-ways {id} {p} {q} s on_waiter task = ap (total q (steps task)) (settled-waiter s task)
    ∙ settled-total s (steps task) (waiter_of p task) (on_waiter task)

pub settled_keeps : (running : Option ℕ) (id : ℕ) (p q : Parts) → IsNoTask p id → HasOneWay running p → IsSettled id p q → HasOneWay running q
settled_keeps running id p q free is s = record {
  one = λ task. settled-ways s is.on_waiter task ∙ is.one task ∙ ap (λ b. wanted_at b task) (sym (settled-lives s task (free task)));
  on_waiter = λ task on h. settled-waiter s task ∙ settled-home s (steps task) (waiter_of p task) (is.on_waiter task) on h;
  stays = λ task on l w h. stays task on (sym (settled-lives s task (free task)) ∙ l) (sym (settled-waiter s task) ∙ w) h (cases_eq id on);
}
  where
    wanted_at : Bool → ℕ → ℕ
    wanted_at b task = one_if (b && not (is_running running task))

    stays : (task on : ℕ) → lives p task ≡ true → waiter_of p task ≡ Some on → is_pending q on ≡ true → (id ≡ on) ⊎ (id ≡ on → ⊥) → wakeups_on q task on ≡ 1
    stays task on l w h (inl same) = absurd (false≢true (sym s.done ∙ subst (λ j. is_pending q j ≡ true) (sym same) h))
    stays task on l w h (inr n) = settled-wakeups s task on n ∙ is.stays task on l w (sym (settled-pending s on n) ∙ h)

pub settle_ways : (running : Option ℕ) (id : ℕ) (outcome : Outcome) (p : Parts) → IsNoTask p id → HasOneWay running p
    → HasOneWay running (settle id outcome p)
settle_ways running id outcome p free is = settle_cases (HasOneWay running) id outcome p is (λ q s. settled_keeps running id p q free is s)
