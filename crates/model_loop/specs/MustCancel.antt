-- No cancel is lost: where a cancel waits for the next step of a task that lives, the task is running, or it will be
-- stepped, or what it waits for can't be cancelled any more.
use Rattle.std.specs.Prelude.{◌≡◌, ℕ, ◌<◌, ◌⊎◌, true, Option, Some}
use Rattle.model_loop.specs.Parts.{Parts}
use Rattle.model_loop.specs.Futures.{is_pending}
use Rattle.model_loop.specs.Spent.{is_spent}
use Rattle.model_loop.specs.Tasks.{must_cancel_of, lives, waiter_of}
use Rattle.model_loop.specs.Ways.{is_running, steps_among}

-- A task waits for a pending future that is spent, so for one that stands for others which are all spent.
abbrev pub WaitsForSpent : Parts → ℕ → Type 0
WaitsForSpent p task = (on : ℕ) × (waiter_of p task ≡ Some on) × (is_pending p on ≡ true) × (is_spent p on ≡ true)

abbrev pub MayKeepMustCancel : Option ℕ → Parts → ℕ → Type 0
MayKeepMustCancel running p task = (is_running running task ≡ true) ⊎ ((0 < steps_among task p.pending) ⊎ WaitsForSpent p task)

abbrev pub MustCancelWaits : Option ℕ → Parts → Type 0
MustCancelWaits running p = (task : ℕ) → lives p task ≡ true → must_cancel_of p task ≡ true → MayKeepMustCancel running p task
