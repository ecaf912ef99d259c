-- The await of a pending future by whether it would stand in a cycle: `suspend` is `suspend_unless` at that, by computing
-- alone. Proofs go along it.
use Rattle.std.specs.Prelude.{ℕ, Option, Some, None}
use Rattle.model_value.specs.Action.{CycleKind}
use Rattle.model_value.specs.declared.action.Action.TheVariants.{StepInCycle}
use Rattle.model_loop.specs.Parts.{Parts}
use Rattle.model_loop.specs.Handles.{soon}
use Rattle.model_loop.specs.Tasks.{must_cancel_of}
use Rattle.model_loop.specs.Ledger.{Booked, unbooked}
use Rattle.model_loop.specs.Suspend.{cancel_wait, wait_on}

abbrev pub suspend_unless : Option CycleKind → ℕ → ℕ → Parts → Booked
suspend_unless refused task on p =
    elim refused [
      | Some cycle ↦ unbooked (soon (StepInCycle task cycle) p)
      | None ↦ cancel_wait (must_cancel_of p task) task on (wait_on task on p)
    ]
