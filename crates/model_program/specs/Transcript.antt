-- What is written of a run, with the trace or without it, and its exit status.
use Rattle.std.specs.Prelude.{ℕ, Bool, List, ◌++◌}
use Rattle.model_wire.specs.declared.event.End.TheVariants as end
use Rattle.model_wire.specs.Trace.{End, end_text, line, lines_of_events}
use Rattle.model_machine.specs.Run.{Run}

-- all that is written of a run
abbrev pub transcript : (trace : Bool) → Run → List ℕ
transcript trace it = lines_of_events trace it.events ++ line (end_text it.end)

-- the exit status
abbrev pub status_of : End → ℕ
status_of (end.Returned value) = 0
status_of (end.Raised fault) = 1
status_of end.Cancelled = 1
status_of end.WordsRefused = 2
status_of (end.ScriptRefused number cause) = 3
status_of (end.JournalRefused number cause) = 4
status_of (end.Mismatch count call) = 5
status_of (end.Over call) = 6
status_of end.Stalled = 7
status_of (end.Runaway task) = 8
status_of end.ShelfFault = 9
status_of end.WireFault = 9
status_of (end.Turns allowed) = 10
