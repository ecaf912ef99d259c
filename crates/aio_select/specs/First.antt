-- Which items an answer has first, where nothing came of the poller.
use Rattle.std.specs.Prelude.{Bool, false, not, ◌&&◌, ◌||◌, List, [], ◌∷◌, ◌++◌, nat_lt}
use Rattle.std.specs.List.{list_any}
use Rattle.model_value.specs.declared.action.ChildItem.TheVariants as news
use Rattle.model_wire.specs.Call.{Item}
use Rattle.model_wire.specs.declared.item.Item.TheVariants as item
use Rattle.model_wire.specs.declared.watch.Watch.{Watch}
use Rattle.model_wire.specs.declared.watch.Watch.TheVariants as watch
use Rattle.model_wire.specs.Fits.{turn_fits, clashes}
use Rattle.model_hub.specs.declared.child.Child.{Child}
use Rattle.model_hub.specs.Hub.{waiting_of, is_broken}
use Rattle.model_hub.specs.Gathering.{kept_of, most_waiting}

abbrev pub fits_alone : List Watch → Item → Bool
fits_alone watched came = turn_fits watched 0 (came ∷ [])

-- an item fits that isn't behind one of these or of those before it
abbrev pub has_kept_item : List Watch → (behind kept : List Item) → Bool
has_kept_item watched behind [] = false
has_kept_item watched behind (came ∷ more) =
    (not (list_any (clashes came) behind) && fits_alone watched came) || has_kept_item watched (behind ++ kept_of came) more

abbrev pub tells_stdin : List Watch → List Child → Watch → Bool
tells_stdin watched children (watch.Child child feeds stdin out errs exit) =
    (nat_lt (waiting_of child children) most_waiting && fits_alone watched (item.WritableChild child))
    || (is_broken child children && fits_alone watched (item.Child child news.Broken))
tells_stdin watched children _ = false

abbrev pub has_stdin_item : List Watch → List Child → List Watch → Bool
has_stdin_item watched children entries = list_any (tells_stdin watched children) entries
