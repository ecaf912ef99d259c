-- What driving a run leaves.
use Rattle.std.specs.Prelude.{◌≡◌, ℕ, ◌+◌, ◌<◌, ◌≤◌, List, ◌++◌, ◌⊎◌, Result, IfOk, IfErr, length}
use Rattle.model_wire.specs.Event.{Event, calls_in}
use Rattle.model_wire.specs.Journal.{Entry}
use Rattle.model_wire.specs.Told.{Agrees, Rose, SinkSeen, WireSeen, took}
use Rattle.model_wire.specs.Trace.{End, end_text, line, lines_of_events}
use Rattle.model_program.specs.Program.{IsOver, output_of}
use Rattle.model_machine.specs.Run.{Run, turns_over}
use Rattle.model_machine.specs.State.{State}
use Rattle.model_program.specs.Written.{IsFrontOf, ProgramOutput, WritesWhole}
use Rattle.model_program.specs.Transcript.{status_of}
use Rattle.model_machine.specs.Turn.{is_stalled}
use Rattle.model_commands.specs.Causes.{IsCaused}
use Rattle.model_commands.specs.Recorded.{FailsRecording, Records, recorded}
use Rattle.aio_wire.specs.Outside.{Outside}
use Rattle.aio_extra.specs.Added.{Added}
use Rattle.aio_core.specs.Asked.{Asks, AsksOnce}
use Rattle.aio_core.specs.Turned.{KernelStandsFor}
use Rattle.aio_core.specs.declared.kernel.Kernel.{Kernel}
use Rattle.aio_drive.specs.Outcome.{EndsEarly}
use Rattle.aio_drive.specs.Recording.{Recording}
use Rattle.aio_drive.specs.Writing.{StopsWriting}
use Rattle.aio_drive.specs.declared.cut.Cut.{Cut}
use Rattle.aio_drive.specs.declared.cut.Cut.TheVariants.{Halted, Unrecorded}
use Rattle.aio_drive.specs.declared.driver.Manner.{Manner}
use Rattle.aio_drive.specs.declared.halt.Halt.{Halt}
use Rattle.aio_drive.specs.declared.halt.Halt.TheVariants.{Memory, Sink}

-- the runs of a program, by what the outside answers and how many turns are allowed
abbrev pub Runs : Type 0
Runs = List Entry → (allowed : ℕ) → Run

-- what stays of a wire while it doesn't fail; one that fails at each call doesn't let a run end
abbrev pub Undisturbed : (fails quiet : Type 0) → Type 0
Undisturbed fails quiet = (fails → ⊥) × quiet

-- What is known of a wire over a drive: what is seen of it before and after, what stays of it while it doesn't fail, what is known
-- by a run's events: that it was asked what they say; and by the end of a run in which it didn't fail: why it ended so.
pub record DrivenWire : Type 1 where
  pub before : WireSeen
  pub after : WireSeen
  pub undisturbed : Type 0
  pub asked : List Event → Type 0
  pub caused : End → Type 0

-- What may be written of a program's run, by its runs. Where the wire didn't fail, the whole run over entries that agree with what
-- it told. Where it failed, the run over the answers had so far, which was over at the call that failed: its lines, and then
-- the fault's.
abbrev pub MayDrive : Runs → Manner → (fault : End) → DrivenWire → ProgramOutput → Type 0
MayDrive runs how fault wire output =
    (wire.undisturbed × (entries : List Entry) × Agrees wire.before.left entries
    × (output ≡ output_of how.trace (runs entries how.turns)) × wire.asked (runs entries how.turns).events
    × wire.caused (runs entries how.turns).end)
    ⊎ (Rose wire.before.faults wire.after.faults × (had : List Entry) × ((rest : List Entry) × Agrees wire.before.left (had ++ rest))
    × IsOver (runs had how.turns)
    × (output ≡ output_of how.trace (record (runs had how.turns) { end = fault }))
    × wire.asked (runs had how.turns).events)

-- ---- a run of which nothing is recorded
-- The wire was asked all that the run's events say.
abbrev pub over_all : (before after : WireSeen) → (undisturbed : Type 0) → DrivenWire
over_all before after undisturbed =
    record {
      before = before;
      after = after;
      undisturbed = undisturbed;
      asked = λ events. Asks events before after;
      caused = IsCaused before after;
    }

-- Where the run was cut short, the wire was asked what the first of its events say; and where memory was refused, one call besides at
-- most.
abbrev pub AsksUntil : Halt → (before after : WireSeen) → List Event → Type 0
AsksUntil Memory before after events =
    (front : List Event) × (rest : List Event) × (events ≡ front ++ rest)
    × (more : List Event) × (length (calls_in more) ≤ 1) × Asks (front ++ more) before after
AsksUntil Sink before after events = (front : List Event) × (rest : List Event) × (events ≡ front ++ rest) × Asks front before after

abbrev pub over_front : (halt : Halt) → (before after : WireSeen) → (undisturbed : Type 0) → DrivenWire
over_front halt before after undisturbed =
    record {
      before = before;
      after = after;
      undisturbed = undisturbed;
      asked = AsksUntil halt before after;
      caused = λ end. Unit {0};
    }

-- What is known where nothing is known of the run yet: this stays of the wire, and it was asked one call at most.
abbrev pub IsUnbegun : (quiet : Type 0) → (before after : WireSeen) → Type 0
IsUnbegun quiet before after = quiet × AsksOnce before after

-- ---- a run that may be recorded
-- What is known of the outside over such a drive: of the wire; of the shelf with the file in which answers are recorded; and that this
-- shelf is as it was.
pub record Driven : Type 1 where
  pub before : WireSeen
  pub after : WireSeen
  pub undisturbed : Type 0
  pub quiet : Type 0
  pub shelf : Recording
  pub same : Type 0

abbrev pub driven_over : (before after : WireSeen) → (fails quiet : Type 0) → Recording → (same : Type 0) → Driven
driven_over before after fails quiet shelf same = record {
  before = before;
  after = after;
  undisturbed = Undisturbed fails quiet;
  quiet = quiet;
  shelf = shelf;
  same = same;
}

-- by what clauses say of the wire, which `was` so before it and `is` so after it
abbrev pub driven_by : {W : Type 0} → Outside W → (was is : W) → Recording → (same : Type 0) → Driven
driven_by o was is shelf same = driven_over (o.seen was) (o.seen is) (o.fails was) (o.quiet was is) shelf same

-- It was told all that these events say: the wire was asked their calls, and their answers were recorded, where a file is named.
abbrev pub TellsAll : Driven → List Event → Type 0
TellsAll it events = Asks events it.before it.after × Records it.shelf.name (recorded events) it.shelf.old it.shelf.new

-- How much of a run that was cut short it was told: all that the first of its events say; or, where memory was refused, one call
-- besides at most, and a front of their answers.
abbrev pub TellsUntil : Halt → Driven → List Event → Type 0
TellsUntil Memory it events =
    (front : List Event) × (rest : List Event) × (events ≡ front ++ rest)
    × ((more : List Event) × (length (calls_in more) ≤ 1) × Asks (front ++ more) it.before it.after)
    × ((bytes : List ℕ) × IsFrontOf bytes (recorded front) × Records it.shelf.name bytes it.shelf.old it.shelf.new)
TellsUntil Sink it events = (front : List Event) × (rest : List Event) × (events ≡ front ++ rest) × TellsAll it front

abbrev pub wire_by : Driven → (known : List Event → Type 0) → (caused : End → Type 0) → DrivenWire
wire_by it known caused =
    record { before = it.before; after = it.after; undisturbed = it.undisturbed; asked = known; caused = caused }

-- where it was told all; and where it was told how much of a run that was cut short
abbrev pub wire_told : Driven → DrivenWire
wire_told it = wire_by it (TellsAll it) (IsCaused it.before it.after)

abbrev pub wire_until : Halt → Driven → DrivenWire
wire_until halt it = wire_by it (TellsUntil halt it) (λ end. Unit {0})

-- What may be written of a run that is told whole.
abbrev pub MayTell : Runs → Manner → (fault : End) → Driven → ProgramOutput → Type 0
MayTell runs how fault it output = MayDrive runs how fault (wire_told it) output

-- nothing is known of the run yet, and nothing was recorded
abbrev pub IsUntold : Driven → Type 0
IsUntold it = IsUnbegun it.quiet it.before it.after × it.same

-- A turn's answers could not be recorded: of its entries the file has a front, and it failed. The lines of the turns before it were
-- written, and none of its own.
pub record StopsRecording (runs : Runs) (how : Manner) (it : Driven) (old new : SinkSeen) : Type 0 where
  pub had : List Entry
  pub told : (rest : List Entry) × Agrees it.before.left (had ++ rest)
  -- so many turns were made before it
  pub made : ℕ
  pub fewer : made < how.turns
  -- the events of it alone, and of those after it
  pub turn : List Event
  pub next : (runs had (made + 1)).events ≡ (runs had made).events ++ turn
  pub more : List Event
  pub events : (runs had how.turns).events ≡ ((runs had made).events ++ turn) ++ more
  pub asked : Asks ((runs had made).events ++ turn) it.before it.after
  pub front : List ℕ
  pub some : IsFrontOf front (recorded turn)
  pub failed : FailsRecording it.shelf.name (recorded (runs had made).events ++ front) it.shelf.old it.shelf.new
  pub wrote : new ≡ took old (lines_of_events how.trace (runs had made).events)

-- what is left where such a run was cut short
abbrev pub CutsShort : Runs → Manner → (fault : End) → Driven → (old new : SinkSeen) → Cut → Type 0
CutsShort runs how fault it old new (Halted halt) =
    EndsEarly (MayDrive runs how fault (wire_until halt it)) (IsUntold it) old new halt
CutsShort runs how fault it old new Unrecorded = StopsRecording runs how it old new

-- ---- a drive
-- A program, which has these runs, was driven over a wire, which `was` so before it and `is` so after it; `sink` and `late` are the
-- sink before and after it.
pub record Drives {W : Type 0} (o : Outside W) (runs : Runs) (how : Manner) (fault : End) (was is : W) (sink late : SinkSeen)
    (result : Result ℕ Halt) : Type 0 where
  -- all that may be written of the run was written, with its status
  pub ok : IfOk result (WritesWhole
      (MayDrive runs how fault (over_all (o.seen was) (o.seen is) (Undisturbed (o.fails was) (o.quiet was is)))) sink late)
  -- or a front of it
  pub err : IfErr result (λ halt. EndsEarly
      (MayDrive runs how fault (over_front halt (o.seen was) (o.seen is) (Undisturbed (o.fails was) (o.quiet was is))))
      (IsUnbegun (o.quiet was is) (o.seen was) (o.seen is)) sink late halt)
  -- what stays of the wire from call to call
  pub keeps : o.keeps was is

-- the same of a run that may be recorded
pub record DrivesRecorded {W : Type 0} (o : Outside W) (runs : Runs) (how : Manner) (fault : End) (was is : W) (shelf : Recording)
    (same : Type 0) (sink late : SinkSeen) (result : Result ℕ Cut) : Type 0 where
  pub ok : IfOk result (WritesWhole (MayTell runs how fault (driven_by o was is shelf same)) sink late)
  pub err : IfErr result (CutsShort runs how fault (driven_by o was is shelf same) sink late)
  pub keeps : o.keeps was is

-- ---- the last turn
-- how a run ends that may make no further turn
abbrev pub LastOf : {X : Type 0} {g : _} → Added X → Kernel X g → (turns : ℕ) → End → Type 0
LastOf a kernel turns end =
    (past : List Event) (answers : List Entry) (s : State a.Kept) → KernelStandsFor a past answers kernel s
    → end ≡ turns_over (is_stalled a.meaning s) turns

-- the last line of such a run was written, with its status, or writing it stopped
pub record WritesLimit {X : Type 0} {g : _} (a : Added X) (kernel : Kernel X g) (how : Manner) (old new : SinkSeen) (result : Result ℕ Halt) : Type 0 where
  pub end : End
  pub last : LastOf a kernel how.turns end
  pub ok : IfOk result (λ status. (status ≡ status_of end) × (new ≡ took old (line (end_text end))))
  pub err : IfErr result (StopsWriting (line (end_text end)) old new)
