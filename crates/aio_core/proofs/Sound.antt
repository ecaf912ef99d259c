-- What a kernel stands for is sound, and so is its turn.
use Rattle.std.proofs.Common.{List}
use Rattle.model_wire.specs.Event.{Event}
use Rattle.model_wire.specs.Journal.{Entry}
use Rattle.model_machine.specs.State.{State}
use Rattle.law_runs.proofs.Turning.{mids_in}
use Rattle.law_runs.proofs.Leaving.{turn_in}
use Rattle.aio_extra.specs.Added.{Added}
use Rattle.aio_body.proofs.Sound.{extra_sound}
use Rattle.aio_core.specs.declared.kernel.Kernel.{Kernel}
use Rattle.aio_core.specs.Sound.{IsTurnSound}
use Rattle.aio_core.specs.Turned.{KernelStandsFor}

pub turn_sound : {X : Type 0} {g : _} (a : Added X) (past : List Event) (answers : List Entry) (kernel : Kernel X g) (s : State a.Kept)
    → KernelStandsFor a past answers kernel s → IsTurnSound a s
turn_sound a past answers kernel s h = record {
  between = mids_in a.meaning (extra_sound a) s h.rests.1.sound;
  after = turn_in a.meaning (extra_sound a) s h.rests.1.sound;
}
