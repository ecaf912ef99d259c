-- What the program may write for its words and files, and its status.
use Rattle.std.specs.Prelude.{◌≡◌, ℕ, Bool, false, List, [], ◌++◌, Option, Some, None, Ok, Err, ◌⊎◌}
use Rattle.model_tree.specs.Syntax.{Program}
use Rattle.model_text.specs.Canonical.{canonical}
use Rattle.model_text.specs.Causes.{cause_number}
use Rattle.model_text.specs.FirstPass.{Fault}
use Rattle.model_text.specs.Scripts.{script_of}
use Rattle.model_text.specs.SecondPass.{Judged}
use Rattle.model_wire.specs.declared.event.End.TheVariants as end
use Rattle.model_wire.specs.Call.{Call}
use Rattle.model_wire.specs.Journal.{Entry}
use Rattle.model_wire.specs.JournalText.{entries_of}
use Rattle.model_wire.specs.Told.{ShelfSeen, FileFailed, NoneFailed}
use Rattle.model_wire.specs.Trace.{End}
use Rattle.model_machine.specs.Run.{Run}
use Rattle.model_program.specs.Runs.{run}
use Rattle.model_program.specs.Written.{ProgramOutput}
use Rattle.model_program.specs.Transcript.{transcript, status_of}

-- what is written of a whole run
abbrev pub output_of : (trace : Bool) → Run → ProgramOutput
output_of trace it = record { text = transcript trace it; status = status_of it.end }

-- what is written where nothing runs: the last line alone
abbrev pub only : End → ProgramOutput
only end = output_of false (record { events = []; end = end })

abbrev pub words_refused : ProgramOutput
words_refused = only end.WordsRefused

-- a text that is no script, by its first fault
abbrev pub script_refused : Fault → ProgramOutput
script_refused fault = only (end.ScriptRefused fault.line (cause_number fault.cause))

-- what is written of a run that a fault of the shelf cut short: the lines of what happened, and the fault's
abbrev pub faulted : (trace : Bool) → Run → ProgramOutput
faulted trace it = output_of trace (record it { end = end.ShelfFault })

-- What a shelf tells of a file: nothing, that it is missing, or its bytes. A file says a text where that is told, and
-- any text where nothing is; a missing one says none.
abbrev pub FileSays : Option (Option (List ℕ)) → List ℕ → Type 0
FileSays None text = Unit {0}
FileSays (Some None) text = ⊥
FileSays (Some (Some held)) text = text ≡ held

-- the entries that a journal says, likewise
abbrev pub JournalSays : Option (Option (List ℕ)) → List Entry → Type 0
JournalSays None entries = Unit {0}
JournalSays (Some None) entries = ⊥
JournalSays (Some (Some held)) entries = entries ≡ entries_of held

-- answers that a journal gave before it failed are the first of its entries; a missing one gave none
abbrev pub JournalBegins : Option (Option (List ℕ)) → List Entry → Type 0
JournalBegins None had = Unit {0}
JournalBegins (Some None) had = had ≡ []
JournalBegins (Some (Some held)) had = (rest : List Entry) × (had ++ rest ≡ entries_of held)

-- a run asked for an answer after the last one
abbrev pub IsOver : Run → Type 0
IsOver it = (call : Call) × (it.end ≡ end.Over call)

-- how a replay runs: over which journal, with the trace or without it, and how many turns are allowed
pub record Manner : Type 0 where
  pub journal : List ℕ
  pub trace : Bool
  pub turns : ℕ

-- What a program's replay may write. Where no file failed, its whole run over what the journal says. Where the journal
-- failed, the run over the answers had so far was over at the call that failed: its lines, and then the fault's.
abbrev pub MayRun : ShelfSeen → ShelfSeen → Program → Manner → ProgramOutput → Type 0
MayRun old new program how output =
    (NoneFailed old new × (entries : List Entry) × JournalSays (old.file how.journal) entries
    × (output ≡ output_of how.trace (run program entries how.turns)))
    ⊎ (FileFailed how.journal old new × (had : List Entry) × JournalBegins (old.file how.journal) had
    × IsOver (run program had how.turns) × (output ≡ faulted how.trace (run program had how.turns)))

-- by what the text of the script spells
abbrev pub MayRunScript : ShelfSeen → ShelfSeen → Judged Program → Manner → ProgramOutput → Type 0
MayRunScript old new (Err fault) how output = NoneFailed old new × (output ≡ script_refused fault)
MayRunScript old new (Ok program) how output = MayRun old new program how output

-- where a script's file failed, the fault's line alone
abbrev pub script_failed : ProgramOutput
script_failed = only end.ShelfFault

abbrev pub MayReplay : ShelfSeen → ShelfSeen → (script : List ℕ) → Manner → ProgramOutput → Type 0
MayReplay old new script how output =
    (FileFailed script old new × (output ≡ script_failed))
    ⊎ ((text : List ℕ) × FileSays (old.file script) text × MayRunScript old new (script_of text) how output)

-- the canonical text of a script, or why it is none
abbrev pub checked : Judged Program → ProgramOutput
checked (Ok script) = record { text = canonical script; status = 0 }
checked (Err fault) = script_refused fault

abbrev pub MayCheck : ShelfSeen → ShelfSeen → (script : List ℕ) → ProgramOutput → Type 0
MayCheck old new script output =
    (FileFailed script old new × (output ≡ script_failed))
    ⊎ (NoneFailed old new × (text : List ℕ) × FileSays (old.file script) text × (output ≡ checked (script_of text)))
