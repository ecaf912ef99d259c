-- What a take of a post leaves.
use Rattle.std.specs.Prelude.{◌≡◌, ℕ, ◌+◌, List, [], ◌∷◌, ◌++◌, Option, Some, None, map}
use Rattle.model_pump.specs.Posts.{Post}
use Rattle.model_wire.specs.Call.{Item}
use Rattle.model_hub.specs.declared.child.Child.{Child}
use Rattle.model_hub.specs.Posts.{told_of, note}
use Rattle.model_hub.specs.Gathering.{halt_at}
use Rattle.aio_select.specs.declared.pumps.Noted.{Noted}

abbrev pub list_of : Option Item → List Item
list_of None = []
list_of (Some item) = item ∷ []

-- a post was taken: the children note it, and it says whether it ends the select and which item it tells
pub record TakesPost (noted : Noted) (children : List Child) (taken : List Post) (children_now : List Child) (taken_now : List Post) : Type 0 where
  pub post : Post
  pub takes : taken_now ≡ taken ++ post ∷ []
  pub notes : children_now ≡ map (note post) children
  pub halt : noted.halt ≡ halt_at post.kind
  pub tells : list_of noted.item ≡ told_of children post

abbrev pub Takes : Option Noted → List Child → List Post → ℕ → List Child → List Post → ℕ → Type 0
Takes None children taken nones children_now taken_now nones_now =
    (children_now ≡ children) × (taken_now ≡ taken) × (nones_now ≡ nones + 1)
Takes (Some noted) children taken nones children_now taken_now nones_now =
    TakesPost noted children taken children_now taken_now × (nones_now ≡ nones)
