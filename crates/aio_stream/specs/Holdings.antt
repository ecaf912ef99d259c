-- The connection that is held.
use Rattle.model_stream.specs.Connections.{Connection}
use Rattle.aio_connection.specs.Lost.{connection_of}
use Rattle.aio_stream.specs.declared.held.Holding.{Holding}
use Rattle.aio_stream.specs.declared.held.Holding.TheVariants.{Open, Over}

abbrev pub connection_in : Holding → Connection
connection_in (Open connection) = connection.value
connection_in (Over lost) = connection_of lost
