-- What the calls answer, in the machine's words.
use Rattle.std.specs.Prelude.{ℕ, true, List, [], ◌∷◌, Option, Some, None}
use Rattle.model_value.specs.Value.{Exc}
use Rattle.model_loop.specs.Groups as plain
use Rattle.model_loop.specs.Groups.{Refusal, NotEntered, IsFinished, IsShuttingDown, exception_group}
use Rattle.aio_group.specs.declared.created.Created.{Created}
use Rattle.aio_group.specs.declared.created.Created.TheVariants as created
use Rattle.aio_group.specs.declared.exit.GroupExit.{GroupExit}
use Rattle.aio_group.specs.declared.exit.GroupExit.TheVariants as exit
use Rattle.aio_group.specs.declared.exit.ExitStep.{ExitStep}
use Rattle.aio_group.specs.declared.exit.ExitStep.TheVariants as next
use Rattle.aio_group.specs.Held.{Held}

-- where nothing refuses it, this task is made
abbrev pub created_of : Option Refusal → ℕ → Created
created_of None task = created.Task task
created_of (Some NotEntered) task = created.NotEntered
created_of (Some IsFinished) task = created.Finished
created_of (Some IsShuttingDown) task = created.ShuttingDown

-- why no task was made
abbrev pub refusal_in : Created → Option Refusal
refusal_in (created.Task task) = None
refusal_in created.NotEntered = Some NotEntered
refusal_in created.Finished = Some IsFinished
refusal_in created.ShuttingDown = Some IsShuttingDown

abbrev pub exit_of : GroupExit → plain.GroupExit
exit_of (exit.Waits future) = plain.Waits future
exit_of exit.Passes = plain.Passes
exit_of (exit.Raises fault) = plain.Raises fault

-- the exception of several failures, if there are any
abbrev pub fault_of : List Exc → Option Exc
fault_of [] = None
fault_of (error ∷ errors) = Some (exception_group (error ∷ errors))

abbrev pub raised_or_passed : Option Exc → GroupExit
raised_or_passed None = exit.Passes
raised_or_passed (Some fault) = exit.Raises fault

-- a kept CancelledError is raised where no child failed
abbrev pub ended_with : (kept : Option Exc) (failed : List ℕ) (fault : Option Exc) → GroupExit
ended_with (Some cancelled) [] fault = exit.Raises cancelled
ended_with kept failed fault = raised_or_passed fault

-- the answer of an exit that goes on so
abbrev pub answer_of : ExitStep → Held → GroupExit
answer_of (next.Waits future) held = exit.Waits future
answer_of (next.Ends fault) held = ended_with held.kept held.failed fault

-- and the group then: an exit that has ended keeps no exceptions
abbrev pub gone_on : ExitStep → Held → Held
gone_on (next.Waits future) held = record held { exit_future = Some future }
gone_on (next.Ends fault) held = record held { ended = true; body = None; kept = None }
