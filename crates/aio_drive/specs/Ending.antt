-- How a run ends with a turn, and what is written then.
use Rattle.std.specs.Prelude.{◌≡◌, ◌==◌, ℕ, ◌-◌, ◌^◌, false, List, ◌++◌, Option, Some, None}
use Rattle.model_wire.specs.declared.event.End.TheVariants as end
use Rattle.model_wire.specs.Told.{SinkSeen, took}
use Rattle.model_wire.specs.Trace.{End, end_text, line}
use Rattle.model_machine.specs.Outcomes.{end_of}
use Rattle.model_program.specs.Transcript.{status_of}
use Rattle.aio_wire.specs.declared.stop.Stop.TheVariants as stop
use Rattle.aio_core.specs.declared.went.Went.{Went}
use Rattle.aio_core.specs.declared.went.Went.TheVariants as went
use Rattle.aio_drive.specs.Writing.{StopsWriting}
use Rattle.aio_drive.specs.declared.halt.Halt.{Halt}
use Rattle.aio_drive.specs.declared.halt.Halt.TheVariants.{Memory}

-- The run ended so with this turn, and neither failed its wire nor was memory refused. The number of an answer that doesn't fit is held.
abbrev pub EndedSo : End → Went → Type 0
EndedSo it went.Went = ⊥
EndedSo it (went.Finished outcome) = it ≡ end_of outcome
EndedSo it went.Stalled = it ≡ end.Stalled
EndedSo it (went.Runaway task) = it ≡ end.Runaway task
EndedSo it (went.Stopped (stop.Over call)) = it ≡ end.Over call
EndedSo it (went.Stopped (stop.Bad fault)) = it ≡ end.JournalRefused fault.line fault.cause
EndedSo it (went.Stopped (stop.Mismatch count call)) = (it ≡ end.Mismatch count call) × ((count == 2 ^ 64 - 1) ≡ false)
EndedSo it (went.Stopped (stop.Failed call)) = ⊥
EndedSo it (went.Stopped stop.Memory) = ⊥

-- The last lines were written, and this is the status.
abbrev pub WroteLast : End → (lines : List ℕ) → (old new : SinkSeen) → (status : Option ℕ) → Type 0
WroteLast it lines old new status = (status ≡ Some (status_of it)) × (new ≡ took old (lines ++ line (end_text it)))

abbrev pub StopsLast : End → (lines : List ℕ) → (old new : SinkSeen) → Halt → Type 0
StopsLast it lines old new halt = StopsWriting (lines ++ line (end_text it)) old new halt

-- A turn's lines were written, and behind them the last line of a run that ended with it.
abbrev pub WroteTurn : (fault : End) → (lines : List ℕ) → (old new : SinkSeen) → (status : Option ℕ) → Went → Type 0
WroteTurn fault lines old new status went.Went = (status ≡ None) × (new ≡ took old lines)
WroteTurn fault lines old new status (went.Finished outcome) = WroteLast (end_of outcome) lines old new status
WroteTurn fault lines old new status went.Stalled = WroteLast end.Stalled lines old new status
WroteTurn fault lines old new status (went.Runaway task) = WroteLast (end.Runaway task) lines old new status
WroteTurn fault lines old new status (went.Stopped (stop.Over call)) = WroteLast (end.Over call) lines old new status
WroteTurn fault lines old new status (went.Stopped (stop.Bad cause)) =
    WroteLast (end.JournalRefused cause.line cause.cause) lines old new status
WroteTurn fault lines old new status (went.Stopped (stop.Mismatch count call)) = WroteLast (end.Mismatch count call) lines old new status
WroteTurn fault lines old new status (went.Stopped (stop.Failed call)) = WroteLast fault lines old new status
WroteTurn fault lines old new status (went.Stopped stop.Memory) = ⊥

-- Writing a turn's lines stopped short, or memory was refused in the turn and nothing is written.
abbrev pub StopsTurn : (fault : End) → (lines : List ℕ) → (old new : SinkSeen) → Halt → Went → Type 0
StopsTurn fault lines old new halt went.Went = StopsWriting lines old new halt
StopsTurn fault lines old new halt (went.Finished outcome) = StopsLast (end_of outcome) lines old new halt
StopsTurn fault lines old new halt went.Stalled = StopsLast end.Stalled lines old new halt
StopsTurn fault lines old new halt (went.Runaway task) = StopsLast (end.Runaway task) lines old new halt
StopsTurn fault lines old new halt (went.Stopped (stop.Over call)) = StopsLast (end.Over call) lines old new halt
StopsTurn fault lines old new halt (went.Stopped (stop.Bad cause)) = StopsLast (end.JournalRefused cause.line cause.cause) lines old new halt
StopsTurn fault lines old new halt (went.Stopped (stop.Mismatch count call)) = StopsLast (end.Mismatch count call) lines old new halt
StopsTurn fault lines old new halt (went.Stopped (stop.Failed call)) = StopsLast fault lines old new halt
StopsTurn fault lines old new halt (went.Stopped stop.Memory) = (halt ≡ Memory) × (new ≡ old)
