-- Handles that wait, some of which a register knows by their names.
use Rattle.std.specs.Prelude.{◌≡◌, Bool, true, false, List, [], ◌∷◌, Option, Some, None, map, not}
use Rattle.std.specs.Option.{is_some}
use Rattle.std.specs.List.{list_all}
use Rattle.model_value.specs.Action.{Action}
use Rattle.aio_ready.specs.declared.handle.HandleName.{HandleName}
use Rattle.aio_ready.specs.declared.handle.Handle.{Handle}
use Rattle.aio_ready.specs.declared.entry.Entry.{Entry}
use Rattle.aio_ready.specs.declared.entry.Entry.TheVariants.{Loose, Registered}
use Rattle.aio_ready.specs.Names.{is_same, marked}

abbrev pub action_of : Entry → Action
action_of (Loose handle leaf) = handle.action
action_of (Registered name action) = action

-- what they run, in order
abbrev pub entry_actions : List Entry → List Action
entry_actions = map action_of

-- whether none is registered
abbrev pub is_loose : Entry → Bool
is_loose (Loose handle leaf) = true
is_loose (Registered name action) = false

abbrev pub all_loose : List Entry → Bool
all_loose = list_all is_loose

-- the handle, dead where it has this name and says so by itself
abbrev pub loosely_marked : HandleName → Entry → Entry
loosely_marked name (Loose handle leaf) = Loose (marked name handle) leaf
loosely_marked name (Registered own action) = Registered own action

abbrev pub is_dead : Option Bool → Bool
is_dead None = false
is_dead (Some dead) = dead

-- the handle, dead where it or the register says so
abbrev pub seen : (HandleName → Option Bool) → Entry → Handle
seen states (Loose handle leaf) = handle
seen states (Registered name action) = record { name = name; action = action; dead = is_dead (states name) }

-- whether the register has its name, if it is registered
abbrev pub is_held : (HandleName → Option Bool) → Entry → Bool
is_held states (Loose handle leaf) = true
is_held states (Registered name action) = is_some (states name)

abbrev pub all_held : (HandleName → Option Bool) → List Entry → Bool
all_held states = list_all (is_held states)

-- whether it isn't registered under this name
abbrev pub is_apart : HandleName → Entry → Bool
is_apart name (Loose handle leaf) = true
is_apart name (Registered own action) = not (is_same name own)

abbrev pub all_apart : HandleName → List Entry → Bool
all_apart name = list_all (is_apart name)

-- whether no two are registered under one name
abbrev pub AreDistinct : List Entry → Type 0
AreDistinct [] = Unit {0}
AreDistinct (Loose handle leaf ∷ others) = AreDistinct others
AreDistinct (Registered name action ∷ others) = (all_apart name others ≡ true) × AreDistinct others

-- whether the register has each that is registered, once
pub record AreRegistered (states : HandleName → Option Bool) (entries : List Entry) : Type 0 where
  pub held : all_held states entries ≡ true
  pub distinct : AreDistinct entries
