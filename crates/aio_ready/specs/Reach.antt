-- Numbers that those of some handles do not fall below.
use Rattle.std.specs.Prelude.{Bool, true, List, ◌≤◌, nat_le}
use Rattle.std.specs.List.{list_all}
use Rattle.aio_ready.specs.declared.handle.HandleName.{HandleName}
use Rattle.aio_ready.specs.declared.handle.HandleName.TheVariants.{Nameless, Given, Timer}
use Rattle.aio_ready.specs.declared.entry.Entry.{Entry}
use Rattle.aio_ready.specs.declared.entry.Entry.TheVariants.{Loose, Registered}
use Rattle.aio_ready.specs.declared.least.Least.{Least}

-- whether a name's number does not fall below
abbrev pub reaches : Least → HandleName → Bool
reaches least Nameless = true
reaches least (Given number) = nat_le least.given number
reaches least (Timer number) = nat_le least.timer number

-- whether that of a handle which says by itself whether it is dead does not
abbrev pub is_reached : Least → Entry → Bool
is_reached least (Loose handle leaf) = reaches least handle.name
is_reached least (Registered name action) = true

abbrev pub all_reach : Least → List Entry → Bool
all_reach least = list_all (is_reached least)

-- whether what does not fall below the other does not fall below this
abbrev pub IsBelow : Least → Least → Type 0
IsBelow least other = (least.given ≤ other.given) × (least.timer ≤ other.timer)
