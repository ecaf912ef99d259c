use Rattle.std.proofs.Common.{◌≡◌, map, take}
use Rattle.indexmap.specs.IndexMap.{IsUnique}
use Rattle.aio_wire.specs.Places.{is_same_place, placed}
use Rattle.aio_wire.proofs.awaited.table_of.Given as goal

abbrev pub invariant-loop-entry : goal.invariant-loop-entry
invariant-loop-entry l = (l.table.entries ≡ map placed (take l.entry-index l.watch)) × IsUnique is_same_place l.table
