-- What is answered after a run ended.
use Rattle.std.specs.Prelude.{◌≡◌, ◌⊎◌, Option, Some}
use Rattle.aio_wire.specs.declared.stop.Stop.TheVariants as stop
use Rattle.aio_core.specs.declared.went.Went.{Went}
use Rattle.aio_core.specs.declared.went.Went.TheVariants as went

-- the end again, or that memory was refused for its copy
abbrev pub Again : Went → (result : Went) → Type 0
Again end result = (result ≡ end) ⊎ (result ≡ went.Stopped stop.Memory)

-- what a turn said is kept and answered, but that it goes on
abbrev pub IsKept : (said : Went) → (old new : Option Went) → (result : Went) → Type 0
IsKept went.Went old new result = (new ≡ old) × (result ≡ went.Went)
IsKept said old new result = Again said result × (new ≡ Some result)
