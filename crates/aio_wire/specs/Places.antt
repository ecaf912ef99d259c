-- The one place of a watch list at which an item may be awaited.
use denote.Enum.Bare.{sameb}
use Rattle.std.specs.Prelude.{ℕ, Bool, ◌&&◌, ◌==◌}
use Rattle.model_wire.specs.declared.item.Item.TheVariants as item
use Rattle.model_wire.specs.declared.watch.Watch.{Watch}
use Rattle.model_wire.specs.declared.watch.Watch.TheVariants as watch
use Rattle.model_wire.specs.Call.{Item}
use Rattle.aio_wire.specs.contracts.awaited.Subject.{the_type}
use Rattle.aio_wire.specs.declared.awaited.Subject.{Subject}
use Rattle.aio_wire.specs.declared.awaited.Subject.TheVariants as of

abbrev pub Place : Type 0
Place = Subject × ℕ

abbrev pub place_of : Watch → Place
place_of (watch.Server server) = (of.Server, server)
place_of (watch.Conn conn reads writes) = (of.Conn, conn)
place_of (watch.Making conn) = (of.Making, conn)
place_of (watch.Child child feeds stdin out errs exit) = (of.Child, child)
place_of watch.Extra = (of.Extra, 0)

abbrev pub place_of_item : Item → Place
place_of_item (item.ReadableServer server) = (of.Server, server)
place_of_item (item.Ready conn letters) = (of.Conn, conn)
place_of_item (item.Up conn) = (of.Making, conn)
place_of_item (item.Down conn) = (of.Making, conn)
place_of_item (item.WritableChild child) = (of.Child, child)
place_of_item (item.Child child told) = (of.Child, child)
place_of_item (item.Extra code bytes) = (of.Extra, 0)

-- an entry beside its place
abbrev pub placed : Watch → Place × Watch
placed entry = (place_of entry, entry)

abbrev pub is_same_place : Place → Place → Bool
is_same_place one other = sameb the_type one.0 other.0 && one.1 == other.1
