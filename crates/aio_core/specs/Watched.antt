-- What is stood for, as a turn's watch list is made.
use Rattle.std.specs.Prelude.{◌≡◌}
use Rattle.model_machine.specs.State.{State}
use Rattle.aio_extra.specs.Added.{Added}
use Rattle.aio_body.specs.declared.run_state.RunState.{RunState}
use Rattle.aio_body.specs.Stands.{Context, IsBetween}

-- All that was stood for between two callbacks is stood for still, and nothing is told.
pub record StandsOn {X : Type 0} (a : Added X) (old new : RunState X) : Type 0 where
  pub between : (c : Context a) (s : State a.Kept) → IsBetween c old s → IsBetween c new s
  pub events : new.events ≡ old.events
