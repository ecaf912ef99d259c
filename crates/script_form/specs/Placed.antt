-- What is kept of the lines before a line, and where the form of a line may stand.
-- Source: the definition of places (model_text, specs/Places.antt).
use Rattle.std.specs.Prelude.{◌≡◌, List, map, reverse, length, nat_eq}
use Rattle.model_text.specs.Forms.{Spelled, Profile, Def, Return, Else, Except, Finally, End}
use Rattle.model_text.specs.Places.{Role, open_blocks}
use Rattle.script_form.specs.declared.places.Places.{Places}
use Rattle.script_form.specs.declared.form_place.FormPlace.{FormPlace}
use Rattle.script_form.specs.declared.form_place.FormPlace.TheVariants as standing
use Rattle.script_form.specs.Blocks.{kept, plain_open}

-- The places are those behind lines with these roles, the latest first.
pub record IsBehind (places : Places) (roles : List Role) : Type 0 where
  pub first : places.is_first ≡ nat_eq (length roles) 0
  pub blocks : reverse (map plain_open places.blocks.items) ≡ map kept (open_blocks roles)

abbrev pub standing_of : Spelled → FormPlace
standing_of (Profile number) = standing.First
standing_of (Def name parameters) = standing.Outside
standing_of (Return value) = standing.OutsideFinally
standing_of Else = standing.Anywhere
standing_of (Except kind name) = standing.Anywhere
standing_of Finally = standing.Anywhere
standing_of End = standing.Anywhere
standing_of _ = standing.Inside
