-- Which handles wait under which names, and what changes of it leave.
use Rattle.std.specs.Prelude.{◌≡◌, Bool, true, false, Option, Some, None, if◌then◌else◌}
use Rattle.std.specs.Option.{option_map}
use Rattle.aio_ready.specs.declared.handle.HandleName.{HandleName}
use Rattle.aio_ready.specs.declared.handle.HandleName.TheVariants.{Nameless, Given, Timer}
use Rattle.aio_ready.specs.declared.register.Register.{Register}
use Rattle.aio_ready.specs.Names.{is_same}
use Rattle.aio_ready.specs.Found.{found}

-- whether the handle of a name is dead, if the name is there
abbrev pub state : Register → HandleName → Option Bool
state register Nameless = None
state register (Given number) = found number register.given
state register (Timer number) = found number register.timers

-- whether one name alone changed
abbrev pub IsChangedAt : (Option Bool → Option Bool) → HandleName → Register → Register → Type 0
IsChangedAt change name old new =
    (other : HandleName) → state new other ≡ (if is_same name other then change (state old other) else state old other)

abbrev pub IsEntered : HandleName → Register → Register → Type 0
IsEntered = IsChangedAt (λ _. Some false)

abbrev pub IsStruck : HandleName → Register → Register → Type 0
IsStruck = IsChangedAt (option_map (λ _. true))

-- whether all other names are as before
abbrev pub IsLeft : HandleName → Register → Register → Type 0
IsLeft name old new = (other : HandleName) → is_same name other ≡ false → state new other ≡ state old other
