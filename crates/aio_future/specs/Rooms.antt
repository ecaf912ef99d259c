-- The future that is held.
use Rattle.model_loop.specs.Parts as plain
use Rattle.aio_future.specs.declared.held.Room.{Room}
use Rattle.aio_future.specs.declared.held.Room.TheVariants.{Whole, Over}
use Rattle.aio_future.specs.Bare.{future_of}

abbrev pub future_in : Room → plain.Future
future_in (Whole future) = future.value
future_in (Over bare) = future_of bare
