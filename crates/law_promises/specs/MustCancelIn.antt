-- must_cancel in a state of the machine, and what a task that must cancel is resumed with.
use Rattle.std.specs.Prelude.{◌≡◌, ℕ, true}
use Rattle.model_value.specs.declared.input.Input.TheVariants.{Throw}
use Rattle.model_value.specs.Input.{Input}
use Rattle.model_value.specs.Value.{Exc}
use Rattle.model_loop.specs.Tasks.{is_cancelled, must_cancel_of}
use Rattle.model_machine.specs.State.{State}

-- a cancel waits for the task's next step
abbrev pub IsMustCancel : {S : Type 0} → (task : ℕ) → State S → Type 0
IsMustCancel task s = must_cancel_of s.loop.parts task ≡ true

abbrev pub ThrowsCancel : Input → Type 0
ThrowsCancel input = (fault : Exc) × (input ≡ Throw fault) × (is_cancelled fault ≡ true)
