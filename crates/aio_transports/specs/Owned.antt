-- The futures of connections and children, none of which is a task's.
use Rattle.aio_task.specs.View.{View}
use Rattle.aio_children.specs.Owned.{OwnsChildren}
use Rattle.aio_stream.specs.Owned.{OwnsStreams}
use Rattle.aio_transports.specs.Kept.{Kept}

abbrev pub OwnsTransports : View → Kept → Type 0
OwnsTransports v k = OwnsStreams v k.streams × OwnsChildren v k.children
