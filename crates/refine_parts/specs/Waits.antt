-- For what tasks wait.
use Rattle.std.specs.Prelude.{◌≡◌, ℕ, Some}
use Rattle.model_loop.specs.Parts.{Parts}
use Rattle.model_loop.specs.Tasks.{waiter_of}

-- From p to q no task came to wait for anything.
pub record WaitedBefore (p q : Parts) : Type 0 where
  pub before : (task on : ℕ) → waiter_of q task ≡ Some on → waiter_of p task ≡ Some on
