-- A state of the machine whose loop is sound, where its groups were told of what its events say.
use Rattle.std.specs.Prelude.{None}
use Rattle.model_loop.specs.Sound.{IsSound}
use Rattle.model_machine.specs.State.{State}
use Rattle.model_machine.specs.Told.{told_in}
use Rattle.model_machine.specs.Went.{Went, Goes, Stops}

abbrev pub HasSoundLoop : {S : Type 0} → State S → Type 0
HasSoundLoop s = IsSound None (told_in s.events) s.loop

-- so is the state after something that didn't end the run
abbrev pub LeavesSoundLoop : {S : Type 0} → Went S → Type 0
LeavesSoundLoop (Goes now) = HasSoundLoop now
LeavesSoundLoop (Stops end last) = Unit {0}
