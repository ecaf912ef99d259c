-- What a turn leaves that is recorded and written, where that stopped.
use Rattle.std.specs.Prelude.{◌≡◌, ◌==◌, ℕ, ◌-◌, ◌^◌, Bool, true, false, List, [], ◌++◌, Option, None, Result, IfOk, IfErr, OnOk}
use Rattle.model_wire.specs.declared.event.End.TheVariants as end
use Rattle.model_wire.specs.Event.{Event}
use Rattle.model_wire.specs.Journal.{Entry}
use Rattle.model_wire.specs.Told.{ShelfSeen, SinkSeen}
use Rattle.model_wire.specs.Trace.{End, end_text, line, lines_of_events}
use Rattle.model_machine.specs.Outcomes.{end_of}
use Rattle.model_machine.specs.State.{State}
use Rattle.model_program.specs.Written.{IsFrontOf}
use Rattle.model_commands.specs.Recorded.{FailsRecording, Records, recorded}
use Rattle.aio_wire.specs.Outside.{Outside}
use Rattle.aio_wire.specs.Replied.{Stays}
use Rattle.aio_wire.specs.declared.stop.Stop.TheVariants as stop
use Rattle.aio_extra.specs.Added.{Added}
use Rattle.aio_core.specs.Turned.{KernelStandsFor, TurnedBy, ended, untaken}
use Rattle.aio_core.specs.Turning.{WireTurn, wire_turn}
use Rattle.aio_core.specs.declared.kernel.Kernel.{Kernel}
use Rattle.aio_core.specs.declared.went.Went.{Went}
use Rattle.aio_core.specs.declared.went.Went.TheVariants as went
use Rattle.aio_drive.specs.Ending.{WroteTurn}
use Rattle.aio_drive.specs.Writing.{StopsWriting}
use Rattle.aio_drive.specs.declared.cut.Cut.{Cut}
use Rattle.aio_drive.specs.declared.cut.Cut.TheVariants.{Halted, Unrecorded}
use Rattle.aio_drive.specs.declared.halt.Halt.TheVariants.{Memory, Sink}

-- Recording stops for want of memory, or where the file failed; it has a front of the entries.
abbrev pub StopsRecords : (name : Option (List ℕ)) → (entries : List ℕ) → (old new : ShelfSeen) → Cut → Type 0
StopsRecords name entries old new (Halted Memory) = (front : List ℕ) × IsFrontOf front entries × Records name front old new
StopsRecords name entries old new (Halted Sink) = ⊥
StopsRecords name entries old new Unrecorded = (front : List ℕ) × IsFrontOf front entries × FailsRecording name front old new

-- The file in which answers are recorded, and what is seen of its shelf before and after.
pub record Recording : Type 0 where
  pub name : Option (List ℕ)
  pub old : ShelfSeen
  pub new : ShelfSeen

-- A turn's entries are recorded, and then its lines written. It stops before the lines where the entries stop, and else in them.
abbrev pub StopsTelling : Recording → (entries text : List ℕ) → (old new : SinkSeen) → Cut → Type 0
StopsTelling it entries text old new (Halted Memory) =
    (front : List ℕ) × IsFrontOf front entries × Records it.name front it.old it.new × StopsWriting text old new Memory
StopsTelling it entries text old new (Halted Sink) = Records it.name entries it.old it.new × StopsWriting text old new Sink
StopsTelling it entries text old new Unrecorded =
    (front : List ℕ) × IsFrontOf front entries × FailsRecording it.name front it.old it.new × (new ≡ old)

-- What a turn tells: the entries of its answers, the lines of its events, and the last line of a run whose wire failed in it.
pub record Telling : Type 0 where
  pub entries : List ℕ
  pub lines : List ℕ
  pub fault : End

abbrev pub telling : (trace : Bool) → (fault : End) → List Event → Telling
telling trace fault events = record { entries = recorded events; lines = lines_of_events trace events; fault = fault }

abbrev pub StopsEnding : Recording → Telling → End → (old new : SinkSeen) → Cut → Type 0
StopsEnding it told end old new cut = StopsTelling it told.entries (told.lines ++ line (end_text end)) old new cut

-- Memory was refused in the turn; or it ended at an answer that doesn't fit, whose number isn't held.
abbrev pub is_refused : Went → Bool
is_refused went.Went = false
is_refused (went.Finished outcome) = false
is_refused went.Stalled = false
is_refused (went.Runaway task) = false
is_refused (went.Stopped (stop.Over call)) = false
is_refused (went.Stopped (stop.Bad cause)) = false
is_refused (went.Stopped (stop.Mismatch count call)) = count == 2 ^ 64 - 1
is_refused (went.Stopped (stop.Failed call)) = false
is_refused (went.Stopped stop.Memory) = true

-- of an answer that doesn't fit, by whether its number isn't held
abbrev pub CutsMisfit : Bool → Recording → Telling → End → (old new : SinkSeen) → Cut → Type 0
CutsMisfit false it told end old new cut = StopsEnding it told end old new cut
CutsMisfit true it told end old new cut = (cut ≡ Halted Memory) × (new ≡ old)

-- Telling a turn stopped short, or memory was refused in the turn and nothing is told of it.
abbrev pub CutsTurn : Recording → Telling → (old new : SinkSeen) → Cut → Went → Type 0
CutsTurn it told old new cut went.Went = StopsTelling it told.entries told.lines old new cut
CutsTurn it told old new cut (went.Finished outcome) = StopsEnding it told (end_of outcome) old new cut
CutsTurn it told old new cut went.Stalled = StopsEnding it told end.Stalled old new cut
CutsTurn it told old new cut (went.Runaway task) = StopsEnding it told (end.Runaway task) old new cut
CutsTurn it told old new cut (went.Stopped (stop.Over call)) = StopsEnding it told (end.Over call) old new cut
CutsTurn it told old new cut (went.Stopped (stop.Bad cause)) = StopsEnding it told (end.JournalRefused cause.line cause.cause) old new cut
CutsTurn it told old new cut (went.Stopped (stop.Mismatch count call)) =
    CutsMisfit (count == 2 ^ 64 - 1) it told (end.Mismatch count call) old new cut
CutsTurn it told old new cut (went.Stopped (stop.Failed call)) = StopsEnding it told told.fault old new cut
CutsTurn it told old new cut (went.Stopped stop.Memory) = (cut ≡ Halted Memory) × (new ≡ old)

-- A turn was made, its events were taken out, its answers were recorded and its lines written, or that stopped. `mid` is the kernel after
-- the turn, whose events weren't taken out yet; `went` is what the turn answered, and `said` what it came to. Where memory was refused in
-- it the shelf is the `same`.
pub record TellsTurn {X : Type 0} {g : _} (a : Added X) (trace : Bool) (fault : End) (wire : WireTurn) (shelf : Recording) (same : Type 0)
    (sink late : SinkSeen)
    (old new : Kernel X g) (result : Result (Option ℕ) Cut) : Type 0 where
  pub mid : Kernel X g
  pub went : Went
  pub said : Went
  pub turned : TurnedBy a wire old mid went said
  pub stands : (past : List Event) (answers : List Entry) (s : State a.Kept) → KernelStandsFor a past answers mid s
      → KernelStandsFor a (past ++ untaken mid) answers new s
  pub left : untaken new ≡ []
  pub told : OnOk result (is_refused went ≡ false)
  pub noted : OnOk result (Records shelf.name (recorded (untaken mid)) shelf.old shelf.new)
  pub ok : IfOk result (λ status. WroteTurn fault (lines_of_events trace (untaken mid)) sink late status went)
  pub err : IfErr result (λ cut. CutsTurn shelf (telling trace fault (untaken mid)) sink late cut went)
  pub refused : is_refused went ≡ true → same

-- The next turn was made over a wire, which `was` so before it and `is` so after it, and told.
pub record TellsNext {X W : Type 0} {g : _} (a : Added X) (o : Outside W) (trace : Bool) (fault : End) (was is : W) (shelf : Recording) (same : Type 0)
    (sink late : SinkSeen) (old new : Kernel X g) (result : Result (Option ℕ) Cut) : Type 0 where
  -- where the run hadn't ended
  pub turned : ended old ≡ None → TellsTurn a trace fault (wire_turn o was is) shelf same sink late old new result
  -- what stays of the wire; and whether its answers fit, which stays, with its count of faults, which didn't fall
  pub keeps : o.keeps was is
  pub stays : Stays (o.seen was) (o.seen is)
