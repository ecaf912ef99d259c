-- Which children the end of a hub kills.
use Rattle.std.specs.Prelude.{ℕ, not, List, [], ◌∷◌, map, Option}
use Rattle.std.specs.List.{filter}
use Rattle.model_hub.specs.declared.child.Child.{Child}
use Rattle.model_hub.specs.Children.{runs}
use Rattle.model_hub.specs.Closing.{number_of}
use Rattle.model_hub.specs.Told.{Kills, with_kill}

-- those that run
abbrev pub running_in : List Child → List Child
running_in children = filter (λ (child : Child). runs child.stay) children

-- those of them that are killed: their exit wasn't taken
abbrev pub kills_in : List Child → List ℕ
kills_in running = map number_of (filter (λ (child : Child). not child.exited) running)

-- what is told of kills, after these in order
abbrev pub with_kills : List ℕ → Option Kills → Option Kills
with_kills [] kills = kills
with_kills (child ∷ more) kills = with_kills more (with_kill child kills)
