-- How what is recorded of a run grows, and what is left where telling a turn stops.
use Rattle.std.proofs.Common.{◌≡◌, ℕ, true, false, List, [], ◌++◌, Option, Some, None, refl, ap, sym, ◌∙◌, subst, append-nil}
use Rattle.model_wire.specs.Event.{Event}
use Rattle.model_wire.specs.declared.event.End.TheVariants as end
use Rattle.model_wire.specs.Told.{ShelfSeen, SinkSeen}
use Rattle.model_commands.specs.Recorded.{FailsRecording, Records, recorded}
use Rattle.aio_record.proofs.Growing.{failed_after, grew_none, grew_on, recorded-append}
use Rattle.aio_wire.specs.declared.stop.Stop.TheVariants as stop
use Rattle.aio_core.specs.declared.went.Went.{Went}
use Rattle.aio_core.specs.declared.went.Went.TheVariants as went
use Rattle.aio_drive.specs.Ending.{StopsTurn}
use Rattle.aio_drive.specs.Recording.{CutsMisfit, CutsTurn, Recording, StopsRecords, StopsTelling, Telling, is_refused}
use Rattle.aio_drive.specs.Writing.{StopsWriting}
use Rattle.aio_drive.specs.declared.cut.Cut.{Cut}
use Rattle.aio_drive.specs.declared.cut.Cut.TheVariants.{Halted, Unrecorded}
use Rattle.aio_drive.specs.declared.halt.Halt.{Halt}
use Rattle.aio_drive.specs.declared.halt.Halt.TheVariants.{Memory, Sink}
use Rattle.aio_drive.proofs.Fronts.{took-nil}

-- ---- whatever file is named
pub records_none : (name : Option (List ℕ)) (seen : ShelfSeen) → Records name [] seen seen
records_none None seen = refl
records_none (Some name) seen = grew_none name seen

pub records_on : (name : Option (List ℕ)) (first second : List ℕ) (old mid new : ShelfSeen) → Records name first old mid → Records name second mid new
    → Records name (first ++ second) old new
records_on None first second old mid new before after = after ∙ before
records_on (Some name) first second old mid new before after = grew_on name first second old mid new before after

pub fails_on : (name : Option (List ℕ)) (first second : List ℕ) (old mid new : ShelfSeen) → Records name first old mid → FailsRecording name second mid new
    → FailsRecording name (first ++ second) old new
fails_on None first second old mid new before after = after
fails_on (Some name) first second old mid new before after = failed_after name first second old mid new before after

pub records_events : (name : Option (List ℕ)) (first second : List Event) (old mid new : ShelfSeen) → Records name (recorded first) old mid
    → Records name (recorded second) mid new → Records name (recorded (first ++ second)) old new
records_events name first second old mid new before after =
    subst (λ (bytes : List ℕ). Records name bytes old new) (sym (recorded-append first second))
    (records_on name (recorded first) (recorded second) old mid new before after)

-- ---- telling a turn
-- its entries stop
stops_before : (it : Recording) (entries text : List ℕ) (sink : SinkSeen) (cut : Cut) → StopsRecords it.name entries it.old it.new cut
    → StopsTelling it entries text sink sink cut
stops_before it entries text sink (Halted Memory) (front, some, records) = (front, some, records, ([], (text, refl), sym (took-nil sink)))
stops_before it entries text sink (Halted Sink) stops = absurd stops
stops_before it entries text sink Unrecorded (front, some, fails) = (front, some, fails, refl)

pub cuts_before : (it : Recording) (told : Telling) (sink : SinkSeen) (cut : Cut) (said : Went) → is_refused said ≡ false
    → StopsRecords it.name told.entries it.old it.new cut → CutsTurn it told sink sink cut said
cuts_before it told sink cut went.Went other stops = stops_before it told.entries _ sink cut stops
cuts_before it told sink cut (went.Finished outcome) other stops = stops_before it told.entries _ sink cut stops
cuts_before it told sink cut went.Stalled other stops = stops_before it told.entries _ sink cut stops
cuts_before it told sink cut (went.Runaway task) other stops = stops_before it told.entries _ sink cut stops
cuts_before it told sink cut (went.Stopped (stop.Over call)) other stops = stops_before it told.entries _ sink cut stops
cuts_before it told sink cut (went.Stopped (stop.Bad cause)) other stops = stops_before it told.entries _ sink cut stops
cuts_before it told sink cut (went.Stopped (stop.Mismatch count call)) other stops =
    subst (λ b. CutsMisfit b it told (end.Mismatch count call) sink sink cut) (sym other) (stops_before it told.entries _ sink cut stops)
cuts_before it told sink cut (went.Stopped (stop.Failed call)) other stops = stops_before it told.entries _ sink cut stops
cuts_before it told sink cut (went.Stopped stop.Memory) other stops = absurd (cc other)

-- its lines stop
pub stops_after : (it : Recording) (entries text : List ℕ) (old new : SinkSeen) (halt : Halt) → Records it.name entries it.old it.new
    → StopsWriting text old new halt → StopsTelling it entries text old new (Halted halt)
stops_after it entries text old new Memory records stops = (entries, ([], append-nil entries), records, stops)
stops_after it entries text old new Sink records stops = (records, stops)

pub cuts_after : (it : Recording) (told : Telling) (old new : SinkSeen) (halt : Halt) (said : Went) → is_refused said ≡ false
    → Records it.name told.entries it.old it.new → StopsTurn told.fault told.lines old new halt said → CutsTurn it told old new (Halted halt) said
cuts_after it told old new halt went.Went other records stops = stops_after it told.entries _ old new halt records stops
cuts_after it told old new halt (went.Finished outcome) other records stops = stops_after it told.entries _ old new halt records stops
cuts_after it told old new halt went.Stalled other records stops = stops_after it told.entries _ old new halt records stops
cuts_after it told old new halt (went.Runaway task) other records stops = stops_after it told.entries _ old new halt records stops
cuts_after it told old new halt (went.Stopped (stop.Over call)) other records stops = stops_after it told.entries _ old new halt records stops
cuts_after it told old new halt (went.Stopped (stop.Bad cause)) other records stops = stops_after it told.entries _ old new halt records stops
cuts_after it told old new halt (went.Stopped (stop.Mismatch count call)) other records stops =
    subst (λ b. CutsMisfit b it told (end.Mismatch count call) old new (Halted halt)) (sym other)
    (stops_after it told.entries _ old new halt records stops)
cuts_after it told old new halt (went.Stopped (stop.Failed call)) other records stops = stops_after it told.entries _ old new halt records stops
cuts_after it told old new halt (went.Stopped stop.Memory) other records stops = absurd (cc other)

-- memory was refused in it
pub cuts_refused : (it : Recording) (told : Telling) (sink : SinkSeen) (said : Went) → is_refused said ≡ true → CutsTurn it told sink sink (Halted Memory) said
cuts_refused it told sink went.Went is = absurd (cc is)
cuts_refused it told sink (went.Finished outcome) is = absurd (cc is)
cuts_refused it told sink went.Stalled is = absurd (cc is)
cuts_refused it told sink (went.Runaway task) is = absurd (cc is)
cuts_refused it told sink (went.Stopped (stop.Over call)) is = absurd (cc is)
cuts_refused it told sink (went.Stopped (stop.Bad cause)) is = absurd (cc is)
cuts_refused it told sink (went.Stopped (stop.Mismatch count call)) is =
    subst (λ b. CutsMisfit b it told (end.Mismatch count call) sink sink (Halted Memory)) (sym is) (refl, refl)
cuts_refused it told sink (went.Stopped (stop.Failed call)) is = absurd (cc is)
cuts_refused it told sink (went.Stopped stop.Memory) is = (refl, refl)

pub not_refused : (said : Went) → is_refused said ≡ false → said ≡ went.Stopped stop.Memory → ⊥
not_refused said other is = cc (sym other ∙ ap is_refused is)
