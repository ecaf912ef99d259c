-- How many keys were drawn, and the requests that stand, by the places of their keys; how many jobs were accepted, and which go on.
use Rattle.std.specs.Prelude.{ℕ, List}
use Rattle.model_exec.specs.Execed.{Standing}

pub record Drawn : Type 0 where
  pub drawn : ℕ
  pub standing : List (ℕ × Standing)

pub record Accepted : Type 0 where
  pub accepted : ℕ
  pub going : List (ℕ × ℕ)
