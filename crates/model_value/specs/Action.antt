-- What a handle runs: a callback with its arguments, and why an await would never end. Their cases are those of the
-- enumerations; bytes are lists here.
-- Source: `events.py`, Handle; the callbacks of `tasks.py`, `timeouts.py` and `taskgroups.py`.
use Rattle.std.specs.Prelude.{ℕ, List}
use Rattle.model_value.specs.declared.action.Action as action
use Rattle.model_value.specs.declared.action.CycleKind as cycle

abbrev pub CycleKind : Type 0
CycleKind = cycle.CycleKind

abbrev pub Action : Type 0
Action = action.Action (List ℕ)
