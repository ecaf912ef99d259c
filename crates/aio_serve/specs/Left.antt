-- How the coroutine goes on after the block of a timeout that was left.
use Rattle.model_value.specs.Value.{Nothing}
use Rattle.model_loop.specs.Timeouts.{timeout_exception}
use Rattle.aio_timeout.specs.declared.state.TimeoutExit.{TimeoutExit}
use Rattle.aio_timeout.specs.declared.state.TimeoutExit.TheVariants.{Passes, TimedOut}
use Rattle.aio_body.specs.declared.reply.RequestReply.{RequestReply}
use Rattle.aio_body.specs.declared.reply.RequestReply.TheVariants.{Answers, Raises}

abbrev pub left_as : TimeoutExit → RequestReply
left_as Passes = Answers Nothing
left_as TimedOut = Raises timeout_exception
