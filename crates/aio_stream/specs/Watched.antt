-- An entry of a watch list that there may be.
use Rattle.std.specs.Prelude.{List, [], ◌∷◌, Option, Some, None}
use Rattle.model_wire.specs.declared.watch.Watch.{Watch}

abbrev pub entries : Option Watch → List Watch
entries None = []
entries (Some entry) = entry ∷ []
