-- The events of a run that weren't taken out yet, in order, and how many answers the run has had so far.
use Rattle.std.specs.Prelude.{ℕ, List}
use Rattle.model_wire.specs.Event.{Event}

pub record EventList : Type 0 where
  pub events : List Event
  pub answers : ℕ
