-- The futures of connections, none of which is a task's.
use Rattle.std.specs.List.{AllByRecursion as Each}
use Rattle.aio_task.specs.View.{View}
pub use Rattle.aio_connection.specs.Owned.{OwnsConnection}
use Rattle.aio_stream.specs.Kept.{Kept}

abbrev pub OwnsStreams : View → Kept → Type 0
OwnsStreams v k = Each (OwnsConnection v) k.connections
