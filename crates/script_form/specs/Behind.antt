-- The roles of lines that were read.
-- Source: the definition of the first pass (model_text, specs/FirstPass.antt).
use Rattle.std.specs.Prelude.{List, ◌∷◌, Option, Some, None, map, reverse}
use Rattle.model_text.specs.Forms.{Spelled}
use Rattle.model_text.specs.Places.{Role, role_of}
use Rattle.model_text.specs.FirstPass.{Numbered}

-- the roles of lines, the latest first
abbrev pub roles_of : List (Numbered Spelled) → List Role
roles_of forms = reverse (map (λ numbered. role_of numbered.form) forms)

-- the roles behind one more line, which may have no form
abbrev pub roles_behind : Option Spelled → List Role → List Role
roles_behind None roles = roles
roles_behind (Some form) roles = role_of form ∷ roles
