use Rattle.std.proofs.Common.{◌≡◌, Ok, Err, ap, refl}
use Rattle.std.specs.Option.{option_copied}
use Rattle.model_wire.specs.declared.event.End.TheVariants as end
use Rattle.model_wire.specs.Told.{ShelfSeen}
use Rattle.model_program.specs.Added.{first_added}
use Rattle.model_program.specs.Runs.{run}
use Rattle.model_commands.specs.Asked.{AsksOnce}
use Rattle.model_commands.specs.Causes.{IsCaused}
use Rattle.model_commands.specs.Outputs.{MayRun}
use Rattle.model_commands.specs.Telling.{TellsAll}
use Rattle.aio_drive.specs.Drive as drive
use Rattle.aio_drive.specs.Drive.{Driven, IsUntold, MayDrive, MayTell, driven_over, wire_until}
use Rattle.aio_drive.proofs.Unrecorded.{early_wider, whole_wider}
use Rattle.aio_run.specs.Running.{TellsBy, between, pace_of, told_by}
use Rattle.aio_run.proofs.WireRuns.{all_so, cut_written, once-same, others_early, others_failed, others_told, runs_over, until_so}
use Rattle.aio_run.proofs.running.run_program.Goals as goal

pub drive_recorded-requires-clause-fresh : goal.drive_recorded-requires-clause-fresh
drive_recorded-requires-clause-fresh g c = ∣ (first_added, c.added.ensures) ∣₁

pub returns-in-Ok-clause-written : goal.returns-in-Ok-clause-written
returns-in-Ok-clause-written g c =
    let old = g.F.Shelf.seen c.args.shelf.now in
    let new = g.F.Shelf.seen c.drive_recorded.new.shelf in
    let before = g.W.Wire.outside.seen c.args.wire.now in
    let after = g.W.Wire.outside.seen c.drive_recorded.new.wire in
    let same = c.drive_recorded.new.wire ≡ c.args.wire.now in
    let fails = g.W.Wire.outside.fails c.args.wire.now in
    let quiet = g.W.Wire.outside.quiet c.args.wire.now c.drive_recorded.new.wire in
    let file = option_copied c.args.journal in
    let it : Driven = driven_over before after fails quiet
    (record { name = file; old = old; new = new }) (c.drive_recorded.new.shelf ≡ c.args.shelf.now) in
    let program = c.args.program.now in
    let seen = between old new before after in
    whole_wider (MayTell (run program) c.args.manner end.WireFault it)
    (MayRun (told_by (Ok c.in-Ok.status) seen same fails) program (pace_of file c.args.manner))
    (Unit {0}) (Unit {0})
    (runs_over program c.args.manner it same fails refl (drive.TellsAll it) (TellsAll seen) (IsCaused before after) (all_so it)) (λ none. none)
    (g.K.Sink.seen c.args.out.now) (g.K.Sink.seen c.drive_recorded.new.out) c.in-Ok.status (c.in-Ok.ensures first_added c.added.ensures).ok

pub returns-in-Ok-clause-files : goal.returns-in-Ok-clause-files
returns-in-Ok-clause-files g c =
    let old = g.F.Shelf.seen c.args.shelf.now in
    let new = g.F.Shelf.seen c.drive_recorded.new.shelf in
    let same = c.drive_recorded.new.wire ≡ c.args.wire.now in
    let fails = g.W.Wire.outside.fails c.args.wire.now in
    let quiet = g.W.Wire.outside.quiet c.args.wire.now c.drive_recorded.new.wire in
    let it : Driven = driven_over (g.W.Wire.outside.seen c.args.wire.now) (g.W.Wire.outside.seen c.drive_recorded.new.wire) fails quiet
    (record { name = option_copied c.args.journal; old = old; new = new }) (c.drive_recorded.new.shelf ≡ c.args.shelf.now) in
    let done = (c.in-Ok.ensures first_added c.added.ensures).ok in
    others_told c.args.program.now c.args.manner it same fails refl done.0 done.1

pub returns-in-Err-Halted-clause-written : goal.returns-in-Err-Halted-clause-written
returns-in-Err-Halted-clause-written g c =
    let old = g.F.Shelf.seen c.args.shelf.now in
    let new = g.F.Shelf.seen c.drive_recorded.new.shelf in
    let before = g.W.Wire.outside.seen c.args.wire.now in
    let after = g.W.Wire.outside.seen c.drive_recorded.new.wire in
    let same = c.drive_recorded.new.wire ≡ c.args.wire.now in
    let fails = g.W.Wire.outside.fails c.args.wire.now in
    let quiet = g.W.Wire.outside.quiet c.args.wire.now c.drive_recorded.new.wire in
    let file = option_copied c.args.journal in
    let it : Driven = driven_over before after fails quiet
    (record { name = file; old = old; new = new }) (c.drive_recorded.new.shelf ≡ c.args.shelf.now) in
    let program = c.args.program.now in
    let seen = between old new before after in
    let halt = c.in-Err-Halted.halt in
    let stops = rw c.in-Err-Halted.field-0-is at (c.in-Err-Halted.ensures first_added c.added.ensures).err in
    early_wider (MayDrive (run program) c.args.manner end.WireFault (wire_until halt it))
    (MayRun (told_by (Err halt) seen same fails) program (pace_of file c.args.manner)) (IsUntold it) ((new ≡ old) × AsksOnce before after)
    (runs_over program c.args.manner it same fails refl (drive.TellsUntil halt it) (TellsBy (Err halt) seen) (λ end. Unit {0}) (until_so halt it))
    (λ untold. (ap g.F.Shelf.seen untold.1, once-same before after untold.0.1))
    halt (g.K.Sink.seen c.args.out.now) (g.K.Sink.seen c.drive_recorded.new.out) stops

pub returns-in-Err-Halted-clause-files : goal.returns-in-Err-Halted-clause-files
returns-in-Err-Halted-clause-files g c =
    let old = g.F.Shelf.seen c.args.shelf.now in
    let new = g.F.Shelf.seen c.drive_recorded.new.shelf in
    let same = c.drive_recorded.new.wire ≡ c.args.wire.now in
    let fails = g.W.Wire.outside.fails c.args.wire.now in
    let quiet = g.W.Wire.outside.quiet c.args.wire.now c.drive_recorded.new.wire in
    let it : Driven = driven_over (g.W.Wire.outside.seen c.args.wire.now) (g.W.Wire.outside.seen c.drive_recorded.new.wire) fails quiet
    (record { name = option_copied c.args.journal; old = old; new = new }) (c.drive_recorded.new.shelf ≡ c.args.shelf.now) in
    let stops = rw c.in-Err-Halted.field-0-is at (c.in-Err-Halted.ensures first_added c.added.ensures).err in
    others_early c.args.program.now c.args.manner it same fails refl
    (λ same. ap (λ (s : ShelfSeen). s.file) (ap g.F.Shelf.seen same)) c.in-Err-Halted.halt
    (g.K.Sink.seen c.args.out.now) (g.K.Sink.seen c.drive_recorded.new.out) stops

pub returns-in-Err-Unrecorded-clause-written : goal.returns-in-Err-Unrecorded-clause-written
returns-in-Err-Unrecorded-clause-written g c =
    let old = g.F.Shelf.seen c.args.shelf.now in
    let new = g.F.Shelf.seen c.drive_recorded.new.shelf in
    let before = g.W.Wire.outside.seen c.args.wire.now in
    let after = g.W.Wire.outside.seen c.drive_recorded.new.wire in
    let same = c.drive_recorded.new.wire ≡ c.args.wire.now in
    let fails = g.W.Wire.outside.fails c.args.wire.now in
    let quiet = g.W.Wire.outside.quiet c.args.wire.now c.drive_recorded.new.wire in
    let it : Driven = driven_over before after fails quiet
    (record { name = option_copied c.args.journal; old = old; new = new }) (c.drive_recorded.new.shelf ≡ c.args.shelf.now) in
    let stops = rw c.in-Err-Unrecorded.field-0-is at (c.in-Err-Unrecorded.ensures first_added c.added.ensures).err in
    cut_written c.args.program.now c.args.manner it (g.K.Sink.seen c.args.out.now) (g.K.Sink.seen c.drive_recorded.new.out) stops
    same fails ((new ≡ old) × AsksOnce before after) (g.K.Sink.seen c.say.new.out) c.say.result c.say.ensures.ok c.say.ensures.err

pub returns-in-Err-Unrecorded-clause-files : goal.returns-in-Err-Unrecorded-clause-files
returns-in-Err-Unrecorded-clause-files g c =
    let stops = rw c.in-Err-Unrecorded.field-0-is at (c.in-Err-Unrecorded.ensures first_added c.added.ensures).err in
    others_failed (option_copied c.args.journal) _ (g.F.Shelf.seen c.args.shelf.now) (g.F.Shelf.seen c.drive_recorded.new.shelf) stops.failed
