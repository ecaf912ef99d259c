-- What a group was told, read off what happened: the tasks whose callback ran, in order. Source: `taskgroups.py`,
-- `_on_task_done`.
use Rattle.std.specs.Prelude.{ℕ, ◌==◌, List, [], ◌∷◌, if◌then◌else◌}
use Rattle.model_value.specs.declared.action.Action.TheVariants.{GroupDone}
use Rattle.model_value.specs.Action.{Action}
use Rattle.model_wire.specs.declared.event.Event.TheVariants as event
use Rattle.model_wire.specs.Event.{Event}

abbrev pub told_by : (group : ℕ) → Action → List ℕ → List ℕ
told_by group (GroupDone other task) others = if other == group then task ∷ others else others
told_by group _ others = others

abbrev pub told_in : List Event → (group : ℕ) → List ℕ
told_in [] group = []
told_in (event.Ran it ∷ events) group = told_by group it (told_in events group)
told_in (_ ∷ events) group = told_in events group
