-- The items of one seat of one child.
use Rattle.std.specs.Prelude.{ℕ, Bool, true, false, List, Some}
use Rattle.std.specs.List.{filter, flat_map}
use Rattle.model_wire.specs.declared.item.Interest.{Interest}
use Rattle.model_wire.specs.declared.item.Interest.TheVariants as interest
use Rattle.model_wire.specs.Call.{Item}
use Rattle.model_wire.specs.Fits.{interest_of, is_same}
use Rattle.model_hub.specs.declared.child.Child.{Child}
use Rattle.model_pump.specs.Posts.{Post}
use Rattle.model_hub.specs.Posts.{told_of}
use Rattle.model_hub.specs.declared.pump.Pump.{Pump}
use Rattle.model_hub.specs.declared.pump.Pump.TheVariants as pump

-- what the items of a seat take up: those of its standard input are `broken`, which isn't kept
abbrev pub letter : Pump → Interest
letter pump.Stdin = interest.Stdin
letter pump.Out = interest.Out
letter pump.Errs = interest.Errs
letter pump.Exit = interest.Exit

abbrev pub is_of : Pump → ℕ → Item → Bool
is_of from child came = is_same (Some (letter from, child)) (interest_of came)

abbrev pub items_of : Pump → ℕ → List Item → List Item
items_of from child items = filter (is_of from child) items

-- A pump of a stream or of the exit: what it posts is told. That of the standard input posts no items.
abbrev pub is_teller : Pump → Bool
is_teller pump.Stdin = false
is_teller pump.Out = true
is_teller pump.Errs = true
is_teller pump.Exit = true

-- what these posts tell, as long as the seats stay lent as they are
abbrev pub told_all : List Child → List Post → List Item
told_all children posts = flat_map (told_of children) posts
