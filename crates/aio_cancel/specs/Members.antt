-- How a walk takes the next member of a future that stands for several: one that was made before that comes next, and those
-- after it wait; another one is passed over.
use Rattle.std.specs.Prelude.{◌≡◌, ℕ, ◌+◌, ◌<◌, ◌≤◌, Bool, [], ◌∷◌, ◌++◌}
use Rattle.algorithm_parts.specs.declared.walk.Go.{Go}
use Rattle.algorithm_parts.specs.declared.walk.Go.TheVariants.{Visit, Next}
use Rattle.algorithm_parts.specs.declared.walk.WalkFrame.TheVariants.{Members}
use Rattle.aio_cancel.specs.Seen.{Stacked}

pub record TakesMember (id place member : ℕ) (any : Bool) (before : Stacked) (go : Go) (after : Stacked) : Type 0 where
  pub enters : member < id
      → (go ≡ Visit member) × (after ≡ record before { frames = before.frames ++ Members id (place + 1) any ∷ [] })
  pub passes : id ≤ member → (go ≡ Next id (place + 1) any) × (after ≡ before)
