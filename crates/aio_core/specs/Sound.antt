-- A turn that is sound all along.
use Rattle.model_says.specs.Says.{step_limit}
use Rattle.model_machine.specs.Mids.{mids}
use Rattle.model_machine.specs.State.{State}
use Rattle.model_machine.specs.Turn.{turn}
use Rattle.law_replies.specs.InStep.{AreStatesSound}
use Rattle.law_runs.specs.Ends.{IsLeftSound}
use Rattle.aio_extra.specs.Added.{Added}

-- Of the machine's turn from this state: each state between two callbacks is sound, and so is the one after it, where the run
-- goes on and where it ends, unless a callback ended it: by a task that ran away, or by a call that had no answer that fits.
pub record IsTurnSound {X : Type 0} (added : Added X) (s : State added.Kept) : Type 0 where
  pub between : AreStatesSound added.meaning (mids step_limit added.meaning s)
  pub after : IsLeftSound added.meaning s (turn step_limit added.meaning s)
