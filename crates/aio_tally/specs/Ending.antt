-- What a turn came to, of a run that is counted.
use Rattle.std.specs.Prelude.{ℕ, Option, Some, None, Result, Ok, Err}
use Rattle.model_wire.specs.declared.event.End.TheVariants as end
use Rattle.model_machine.specs.Outcomes.{end_of}
use Rattle.model_program.specs.Transcript.{status_of}
use Rattle.aio_wire.specs.declared.stop.Stop.TheVariants as stop
use Rattle.aio_core.specs.declared.went.Went.{Went}
use Rattle.aio_core.specs.declared.went.Went.TheVariants as went
use Rattle.aio_tally.specs.declared.ending.Uncounted.{Uncounted}
use Rattle.aio_tally.specs.declared.ending.Uncounted.TheVariants.{Memory, Wire}

-- the status of a run that ended so, and none where it goes on
abbrev pub status_by : Went → Result (Option ℕ) Uncounted
status_by went.Went = Ok None
status_by (went.Finished outcome) = Ok (Some (status_of (end_of outcome)))
status_by went.Stalled = Ok (Some (status_of end.Stalled))
status_by (went.Runaway task) = Ok (Some (status_of (end.Runaway task)))
status_by (went.Stopped (stop.Over call)) = Ok (Some (status_of (end.Over call)))
status_by (went.Stopped (stop.Bad fault)) = Ok (Some (status_of (end.JournalRefused fault.line fault.cause)))
status_by (went.Stopped (stop.Mismatch count call)) = Ok (Some (status_of (end.Mismatch count call)))
status_by (went.Stopped (stop.Failed call)) = Err Wire
status_by (went.Stopped stop.Memory) = Err Memory

-- how many tasks were made, by how many there were before the turn and after it
abbrev pub tasks_by : Went → (before after : ℕ) → ℕ
tasks_by went.Went before after = before
tasks_by (went.Finished outcome) before after = after
tasks_by went.Stalled before after = before
tasks_by (went.Runaway task) before after = before
tasks_by (went.Stopped why) before after = before
