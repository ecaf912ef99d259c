-- What an operation of the loop leaves of tasks, of what they wait for, and of numbers.
use Rattle.std.proofs.Common.{◌≡◌, ℕ, ◌≤◌, ◌⊎◌, true, Option, Some, None, ◌∙◌, refl, inl, inr}
use Rattle.model_value.specs.Number.{most}
use Rattle.model_loop.specs.Owning.{is_plain}
use Rattle.model_loop.specs.Parts.{Parts}
use Rattle.model_loop.specs.Tasks.{cancelling, lives, next_task, waiter_of}
use Rattle.aio_group.specs.GoesOn.{PartsGoOn}
use Rattle.aio_group.proofs.Going.{same_on, then_on}

-- that this task waits for this future is new
abbrev pub IsNew : Option (ℕ × ℕ) → ℕ → ℕ → Type 0
IsNew None task id = ⊥
IsNew (Some wait) task id = (task ≡ wait.0) × (id ≡ wait.1)

pub record Leaves (new : Option (ℕ × ℕ)) (p q : Parts) : Type 0 where
  pub tasks : next_task q ≡ next_task p
  -- what is done stays so
  pub living : (task : ℕ) → lives q task ≡ true → lives p task ≡ true
  pub plain : (id : ℕ) → is_plain p id ≡ true → is_plain q id ≡ true
  pub waits : (task id : ℕ) → waiter_of q task ≡ Some id → (waiter_of p task ≡ Some id) ⊎ IsNew new task id
  pub time : q.time ≡ p.time
  pub counts : ((task : ℕ) → cancelling p task ≤ most) → (task : ℕ) → cancelling q task ≤ most
  pub goes_on : PartsGoOn p q

pub leaves_same : (p : Parts) → Leaves None p p
leaves_same p = record {
  tasks = refl;
  living = λ task l. l;
  plain = λ id e. e;
  waits = λ task id e. inl e;
  time = refl;
  counts = λ h. h;
  goes_on = same_on p;
}

pub leaves_on : (new : Option (ℕ × ℕ)) (p q r : Parts) → Leaves None p q → Leaves new q r → Leaves new p r
leaves_on new p q r a b = record {
  tasks = b.tasks ∙ a.tasks;
  living = λ task l. a.living task (b.living task l);
  plain = λ id e. b.plain id (a.plain id e);
  waits = λ task id e. at task id (b.waits task id e);
  time = b.time ∙ a.time;
  counts = λ h. b.counts (a.counts h);
  goes_on = then_on p q r a.goes_on b.goes_on;
}
  where
    old : (task id : ℕ) → (waiter_of p task ≡ Some id) ⊎ IsNew None task id → (waiter_of p task ≡ Some id) ⊎ IsNew new task id
    old task id (inl e) = inl e
    old task id (inr e) = absurd e

    at : (task id : ℕ) → (waiter_of q task ≡ Some id) ⊎ IsNew new task id → (waiter_of p task ≡ Some id) ⊎ IsNew new task id
    at task id (inl e) = old task id (a.waits task id e)
    at task id (inr e) = inr e
