-- Futures that are over and take no room of their own.
use Rattle.std.specs.Prelude.{Some, []}
use Rattle.model_value.specs.Value.{Outcome, Nothing}
use Rattle.model_value.specs.declared.outcome.Outcome.TheVariants as ending
use Rattle.model_loop.specs.Parts as plain
use Rattle.aio_future.specs.declared.bare.Bare.{Bare}
use Rattle.aio_future.specs.declared.bare.Bare.TheVariants as bare

-- a future of a kind that ended so, and calls nothing any more
abbrev pub over_as : plain.FutureKind → Outcome → plain.Future
over_as kind ended = record { kind = kind; outcome = Some ended; callbacks = [] }

abbrev pub future_of : Bare → plain.Future
future_of bare.Returned = over_as plain.Plain (ending.Value Nothing)
future_of bare.Cancelled = over_as plain.Plain ending.Cancelled
future_of (bare.TaskReturned task) = over_as (plain.OfTask task) (ending.Value Nothing)
future_of (bare.TaskCancelled task) = over_as (plain.OfTask task) ending.Cancelled
