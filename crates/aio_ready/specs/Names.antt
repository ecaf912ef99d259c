-- Which handle a name names.
use Rattle.std.specs.Prelude.{Bool, false, ◌||◌, ◌==◌}
use Rattle.aio_ready.specs.declared.handle.HandleName.{HandleName}
use Rattle.aio_ready.specs.declared.handle.HandleName.TheVariants.{Given, Timer}
use Rattle.aio_ready.specs.declared.handle.Handle.{Handle}

-- whether both name one handle
abbrev pub is_same : HandleName → HandleName → Bool
is_same (Given number) (Given other) = number == other
is_same (Timer number) (Timer other) = number == other
is_same name other = false

-- a handle, dead where it has this name
abbrev pub marked : HandleName → Handle → Handle
marked name handle = record handle { dead = handle.dead || is_same name handle.name }
