-- What is read, as the definitions have it.
use Rattle.model_stream.specs.Requests as plain
use Rattle.aio_transports.specs.declared.reader.StreamReader.{StreamReader}
use Rattle.aio_transports.specs.declared.reader.StreamReader.TheVariants as reader

abbrev pub reader_as : StreamReader → plain.StreamReader
reader_as (reader.Conn id) = plain.OfConn id
reader_as (reader.Child pipe id) = plain.OfChild pipe id
