-- What waits, in code and in the definitions.
use Rattle.std.specs.Prelude.{ℕ, Option, Some, None}
use Rattle.model_value.specs.Value.{Value}
use Rattle.model_sync.specs.Synced as plain
use Rattle.aio_sync.specs.declared.keys.Waiting.{Waiting}
use Rattle.aio_sync.specs.declared.keys.Waiting.TheVariants.{Acquires, Awaits, Puts, Gets}
use Rattle.aio_sync.specs.declared.keys.Found.{Found}
use Rattle.aio_sync.specs.declared.keys.Found.TheVariants as found

abbrev pub waiting_as : Waiting → plain.Waiting
waiting_as (Acquires lock on) = plain.Acquires lock on
waiting_as (Awaits event on) = plain.Awaits event on
waiting_as (Puts queue value on) = plain.Puts queue value on
waiting_as (Gets queue on) = plain.Gets queue on

abbrev pub entry_as : ℕ × Waiting → ℕ × plain.Waiting
entry_as entry = (entry.0, waiting_as entry.1)

-- it waits on another future
abbrev pub moved : ℕ → Waiting → Waiting
moved next (Acquires lock on) = Acquires lock next
moved next (Awaits event on) = Awaits event next
moved next (Puts queue value on) = Puts queue value next
moved next (Gets queue on) = Gets queue next

abbrev pub on_moved : ℕ → plain.Waiting → plain.Waiting
on_moved next (plain.Acquires lock on) = plain.Acquires lock next
on_moved next (plain.Awaits event on) = plain.Awaits event next
on_moved next (plain.Puts queue value on) = plain.Puts queue value next
on_moved next (plain.Gets queue on) = plain.Gets queue next

-- without the value that it is to put
abbrev pub found_of : Option plain.Waiting → Found
found_of None = found.Nothing
found_of (Some (plain.Acquires lock on)) = found.Acquires lock on
found_of (Some (plain.Awaits event on)) = found.Awaits event on
found_of (Some (plain.Puts queue value on)) = found.Puts queue on
found_of (Some (plain.Gets queue on)) = found.Gets queue on

abbrev pub value_of : Option Waiting → Option Value
value_of None = None
value_of (Some (Acquires lock on)) = None
value_of (Some (Awaits event on)) = None
value_of (Some (Puts queue value on)) = Some value
value_of (Some (Gets queue on)) = None
