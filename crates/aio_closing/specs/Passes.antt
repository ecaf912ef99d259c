-- A pass over the children that run.
use Rattle.std.specs.Prelude.{◌≡◌, ℕ, not, Option, if◌then◌else◌}
use Rattle.model_hub.specs.declared.child.Child.{Child}
use Rattle.model_hub.specs.Told.{Kills, with_kill}
use Rattle.aio_roster.specs.Rosters.{RosterSeen}
use Rattle.aio_roster.specs.Changes.{IsKth}

-- the child with the k-th of the numbers of those that run is killed, unless its exit was taken
pub record KillsKth (k : ℕ) (roster : RosterSeen) (old new : Option Kills) : Type 0 where
  pub child : Child
  pub is : IsKth k roster child
  pub kills : new ≡ (if not child.exited then with_kill child.number old else old)
