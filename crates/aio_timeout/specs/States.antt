-- The states of timeouts in code, and what its calls answer, as the definitions have them.
use Rattle.std.specs.Prelude.{Bool, true, false, Option, Some, None, if◌then◌else◌}
use Rattle.model_loop.specs.Loop as loop
use Rattle.model_loop.specs.Timeouts.{is_active}
use Rattle.aio_timeout.specs.declared.state.TimeoutState.{TimeoutState}
use Rattle.aio_timeout.specs.declared.state.TimeoutState.TheVariants.{Created, Active, Expiring, Expired, Finished}
use Rattle.aio_timeout.specs.declared.state.Rescheduled.{Rescheduled}
use Rattle.aio_timeout.specs.declared.state.Rescheduled.TheVariants.{Set, BadState}
use Rattle.aio_timeout.specs.declared.state.TimeoutExit.{TimeoutExit}
use Rattle.aio_timeout.specs.declared.state.TimeoutExit.TheVariants.{Passes, TimedOut}

abbrev pub state_of : TimeoutState → loop.TimeoutState
state_of Created = loop.Created
state_of Active = loop.Active
state_of Expiring = loop.Expiring
state_of Expired = loop.Expired
state_of Finished = loop.Finished

abbrev pub is_expiring : loop.TimeoutState → Bool
is_expiring loop.Expiring = true
is_expiring _ = false

-- the state in which a new deadline was refused, if it was
abbrev pub refused : Rescheduled → Option loop.TimeoutState
refused Set = None
refused (BadState state) = Some (state_of state)

-- the state in which a new deadline is refused, if it is
abbrev pub refusal : loop.TimeoutState → Option loop.TimeoutState
refusal state = if is_active state then None else Some state

-- whether TimeoutError is raised in place of how a block was left
abbrev pub has_timed_out : TimeoutExit → Bool
has_timed_out Passes = false
has_timed_out TimedOut = true
