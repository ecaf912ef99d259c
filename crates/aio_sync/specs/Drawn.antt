-- How many keys were drawn, and the requests that wait, by the places of their keys.
use Rattle.std.specs.Prelude.{ℕ, List}
use Rattle.model_sync.specs.Synced.{Waiting}

pub record Drawn : Type 0 where
  pub drawn : ℕ
  pub waiting : List (ℕ × Waiting)
