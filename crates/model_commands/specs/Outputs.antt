-- What each command may write, by what is seen of the outside before and after.
use Rattle.std.specs.Prelude.{◌≡◌, ◌≢◌, ℕ, ◌+◌, ◌<◌, Bool, List, ◌++◌, Option, Some, None, Ok, Err, ◌⊎◌}
use Rattle.model_tree.specs.Syntax.{Program}
use Rattle.model_text.specs.Scripts.{script_of}
use Rattle.model_text.specs.SecondPass.{Judged}
use Rattle.model_wire.specs.declared.event.End.TheVariants as end
use Rattle.model_wire.specs.Event.{Event}
use Rattle.model_wire.specs.Journal.{Entry}
use Rattle.model_wire.specs.Told.{Agrees, FileFailed, NoneFailed, Rose, ShelfSeen}
use Rattle.model_wire.specs.Trace.{End}
use Rattle.model_program.specs.Program.{FileSays, IsOver, MayCheck, MayReplay, output_of, script_failed, script_refused, words_refused}
use Rattle.model_machine.specs.Run.{Run}
use Rattle.model_program.specs.Runs.{run}
use Rattle.model_program.specs.Written.{IsFrontOf, ProgramOutput}
use Rattle.model_words.specs.Words.{Command, Check, Replay, Run as RunIt, Work}
use Rattle.model_commands.specs.Asked.{Asks, AsksOnce}
use Rattle.model_commands.specs.Recorded.{FailsRecording, recorded}
use Rattle.model_commands.specs.Telling.{Between}
use Rattle.model_commands.specs.Works.{MayWork}

-- What is known of the outside over a call of the program: what is seen of it before and after, that the wire is the same, that each
-- call of it fails, how much of a run it was told, by the file in which the run is recorded and by its events, and why a run that
-- didn't fail ended so.
pub record Outside : Type 1 where
  pub seen : Between
  pub same : Type 0
  pub fails : Type 0
  pub told : (file : Option (List ℕ)) → List Event → Type 0
  pub caused : End → Type 0

-- how a run goes: with the trace or without it, how many turns are allowed, and in which file it is recorded, if in one
pub record Pace : Type 0 where
  pub trace : Bool
  pub turns : ℕ
  pub file : Option (List ℕ)

-- what is written of a run that a fault cut short: the lines of what happened, and the fault's
abbrev pub faulted : (trace : Bool) → (fault : End) → Run → ProgramOutput
faulted trace fault it = output_of trace (record it { end = fault })

-- The answers of a turn could not be recorded: of its entries the file has a front, and it failed. The lines of the turns before are
-- written, and the fault's; those of this one turn are left out. Entries that agree with what the wire told begin with these answers.
pub record StopsRecording (it : Between) (program : Program) (pace : Pace) (output : ProgramOutput) : Type 0 where
  pub had : List Entry
  pub told : (rest : List Entry) × Agrees it.before.left (had ++ rest)
  -- so many turns were made before it
  pub made : ℕ
  pub fewer : made < pace.turns
  -- the events of it alone, and of those after it
  pub turn : List Event
  pub next : (run program had (made + 1)).events ≡ (run program had made).events ++ turn
  pub more : List Event
  pub events : (run program had pace.turns).events ≡ ((run program had made).events ++ turn) ++ more
  pub asked : Asks ((run program had made).events ++ turn) it.before it.after
  pub front : List ℕ
  pub some : IsFrontOf front (recorded turn)
  pub failed : FailsRecording pace.file (recorded (run program had made).events ++ front) it.old it.new
  pub is : output ≡ faulted pace.trace end.ShelfFault (run program had made)

-- What a program's run over the wire may write. Where nothing failed, its whole run over entries that agree with what the wire
-- told; one that fails at each call doesn't let it end. Where the wire failed, the run over the answers had so far was over at the
-- call that failed: its lines, and then the fault's. Or the file failed in which it is recorded.
abbrev pub MayRun : Outside → Program → Pace → ProgramOutput → Type 0
MayRun it program pace output =
    ((it.fails → ⊥) × (entries : List Entry) × Agrees it.seen.before.left entries
    × (output ≡ output_of pace.trace (run program entries pace.turns)) × it.told pace.file (run program entries pace.turns).events
    × it.caused (run program entries pace.turns).end)
    ⊎ ((Rose it.seen.before.faults it.seen.after.faults × (had : List Entry) × ((rest : List Entry) × Agrees it.seen.before.left (had ++ rest))
    × IsOver (run program had pace.turns) × (output ≡ faulted pace.trace end.WireFault (run program had pace.turns))
    × it.told pace.file (run program had pace.turns).events)
    ⊎ StopsRecording it.seen program pace output)

-- nothing was asked of the wire
abbrev pub IsUnasked : Outside → Type 0
IsUnasked it = it.same × (it.seen.after ≡ it.seen.before)

-- by what the text of the script spells; of one that is refused nothing is seen to have changed of the shelf
abbrev pub MayRunScript : Outside → Judged Program → Pace → ProgramOutput → Type 0
MayRunScript it (Err fault) pace output = IsUnasked it × (it.seen.new ≡ it.seen.old) × (output ≡ script_refused fault)
MayRunScript it (Ok program) pace output = MayRun it program pace output

abbrev pub MayRunOver : Outside → (script : List ℕ) → Pace → ProgramOutput → Type 0
MayRunOver it script pace output =
    (FileFailed script it.seen.old it.seen.new × (it.seen.new.file ≡ it.seen.old.file) × IsUnasked it × (output ≡ script_failed))
    ⊎ ((text : List ℕ) × FileSays (it.seen.old.file script) text × MayRunScript it (script_of text) pace output)

-- what may be written for words
abbrev pub MayWrite : Outside → Option Command → ProgramOutput → Type 0
MayWrite it None output = NoneFailed it.seen.old it.seen.new × (output ≡ words_refused)
MayWrite it (Some (Check script)) output = MayCheck it.seen.old it.seen.new script output
MayWrite it (Some (Replay script journal trace turns)) output =
    MayReplay it.seen.old it.seen.new script (record { journal = journal; trace = trace; turns = turns }) output
MayWrite it (Some (RunIt script file trace turns)) output = MayRunOver it script (record { trace = trace; turns = turns; file = file }) output
MayWrite it (Some (Work seed)) output = NoneFailed it.seen.old it.seen.new × MayWork seed output

-- What is known where nothing was written: no file failed; and in a run nothing was recorded, and the wire was asked one call at most.
abbrev pub IsUnbegun : Outside → Option Command → Type 0
IsUnbegun it None = NoneFailed it.seen.old it.seen.new
IsUnbegun it (Some (Check script)) = NoneFailed it.seen.old it.seen.new
IsUnbegun it (Some (Replay script journal trace turns)) = NoneFailed it.seen.old it.seen.new
IsUnbegun it (Some (RunIt script file trace turns)) = (it.seen.new ≡ it.seen.old) × AsksOnce it.seen.before it.seen.after
IsUnbegun it (Some (Work seed)) = NoneFailed it.seen.old it.seen.new

-- a run changes no file but the one in which it is recorded
abbrev pub KeepsOthers : (file : Option (List ℕ)) → (old new : ShelfSeen) → Type 0
KeepsOthers None old new = new.file ≡ old.file
KeepsOthers (Some name) old new = (other : List ℕ) → other ≢ name → new.file other ≡ old.file other

-- which commands change which files
abbrev pub KeepsFiles : Option Command → (old new : ShelfSeen) → Type 0
KeepsFiles None old new = new.file ≡ old.file
KeepsFiles (Some (Check script)) old new = new.file ≡ old.file
KeepsFiles (Some (Replay script journal trace turns)) old new = new.file ≡ old.file
KeepsFiles (Some (RunIt script file trace turns)) old new = KeepsOthers file old new
KeepsFiles (Some (Work seed)) old new = new.file ≡ old.file

abbrev pub IsRefused : Judged Program → Type 0
IsRefused (Ok program) = ⊥
IsRefused (Err fault) = Unit {0}

-- A shelf tells that there is no script in a file: it is missing, or its text is refused.
abbrev pub HoldsNoScript : Option (Option (List ℕ)) → Type 0
HoldsNoScript None = ⊥
HoldsNoScript (Some None) = Unit {0}
HoldsNoScript (Some (Some text)) = IsRefused (script_of text)

-- which commands leave the wire as it is, by the files: all but a run of a script
abbrev pub KeepsWire : {W : Type 0} → Option Command → ShelfSeen → (old new : W) → Type 0
KeepsWire None files old new = new ≡ old
KeepsWire (Some (Check script)) files old new = new ≡ old
KeepsWire (Some (Replay script journal trace turns)) files old new = new ≡ old
KeepsWire (Some (RunIt script file trace turns)) files old new = HoldsNoScript (files.file script) → new ≡ old
KeepsWire (Some (Work seed)) files old new = new ≡ old
