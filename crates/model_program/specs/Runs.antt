-- The run of a program. Source: `base_events.py`, `run_until_complete`.
use Rattle.std.specs.Prelude.{ℕ, List}
use Rattle.model_tree.specs.Syntax.{Program}
use Rattle.model_says.specs.Says.{step_limit}
use Rattle.model_wire.specs.Journal.{Entry}
use Rattle.model_machine.specs.Extra.{Extra}
use Rattle.model_machine.specs.Replies.{most_ids}
use Rattle.model_machine.specs.Run.{Run, run_on}
use Rattle.model_machine.specs.State.{start}
use Rattle.model_program.specs.Added.{added, first_added}

-- The run of a program over what the outside answers, of at most so many turns, where this is added to the loop's own requests,
-- and keeps this as the run begins. Of listeners, connections and children as many of each kind can be numbered as of tasks.
abbrev pub run_over : {S : Type 0} → Extra S → (first : S) → Program → List Entry → (allowed : ℕ) → Run
run_over extra first program answers allowed = run_on step_limit extra allowed allowed (start most_ids first program answers)

-- the run with what the program adds
abbrev pub run : Program → List Entry → (allowed : ℕ) → Run
run program answers allowed = run_over added first_added program answers allowed
