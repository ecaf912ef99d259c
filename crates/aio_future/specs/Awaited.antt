-- Who waits for a future that is pending: tasks, whose wakeup is among its callbacks, and those that stand for several, of
-- which it is a member.
use Rattle.std.specs.Prelude.{◌≡◌, ℕ, ◌≤◌, ◌==◌, Bool, true, false, List, [], slice_get}
use Rattle.std.specs.List.{list_any}
use Rattle.model_value.specs.Action.{Action}
use Rattle.model_value.specs.declared.action.Action.TheVariants.{Step, StepInCycle, Wakeup}
use Rattle.model_loop.specs.Parts as plain
use Rattle.model_loop.specs.Parts.{FutureKind, Future}
use Rattle.model_loop.specs.Futures.{made_before}
use Rattle.model_loop.specs.Totals.{callbacks_at}
use Rattle.algorithm_parts.specs.Shape.{members_at}
use Rattle.aio_future.specs.Table.{held_in}

-- whether an action is a step or a wakeup of a task
abbrev pub is_step : Action → Bool
is_step (Step task) = true
is_step (StepInCycle task cycle) = true
is_step (Wakeup task) = true
is_step _ = false

-- no task is woken by what isn't said to wake one
abbrev pub WakesNone : Bool → List Action → Type 0
WakesNone wakes callbacks = wakes ≡ false → list_any is_step callbacks ≡ false

-- no future of this number or a later one has members
abbrev pub HasNoMembersFrom : List (ℕ × Future) → ℕ → Type 0
HasNoMembersFrom entries alone = (number : ℕ) → alone ≤ number → members_at (held_in entries number) ≡ []

-- from which number on none has members, where one of a kind was made before `next`
abbrev pub alone_after : FutureKind → (next alone : ℕ) → ℕ
alone_after plain.Plain next alone = alone
alone_after (plain.OfTask task) next alone = alone
alone_after (plain.Many members asked) next alone = next

-- Nobody waits for a future: no task is woken when it is done, and it is no member.
pub record IsUnawaited (id : ℕ) (futures : List Future) : Type 0 where
  pub wakes : list_any is_step (callbacks_at (slice_get futures id)) ≡ false
  pub member : (holder : ℕ) → list_any (λ member. member == id) (made_before holder (members_at (slice_get futures holder))) ≡ false
