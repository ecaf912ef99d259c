-- What code keeps of children.
use Rattle.std.specs.Prelude.{ℕ, List}
use Rattle.model_stream.specs.Children.{Child}

-- those that were launched, by number, and how many can be numbered
pub record Kept : Type 0 where
  pub children : List Child
  pub most : ℕ
