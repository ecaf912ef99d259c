use Rattle.std.proofs.Common.{◌≡◌}
use Rattle.model_program.specs.Runs.{run_over}
use Rattle.aio_drive.proofs.Unrecorded.{early_unrecorded, never_unrecorded, whole_unrecorded}
use Rattle.aio_drive.proofs.driver.drive.Goals as goal

pub returns-in-Ok : goal.returns-in-Ok
returns-in-Ok g c = λ kept nothing.
    let runs = run_over g.X.Extra.added.meaning kept c.args.program.now in
    let o = g.W.Wire.outside in
    let was = c.args.wire.now in
    let is = c.drive_recorded.new.wire in
    record {
      ok = whole_unrecorded runs c.args.manner c.args.fault.now (o.seen was) (o.seen is) (o.fails was) (o.quiet was is)
          (c.drive_recorded.new.shelf ≡ record {}) (g.K.Sink.seen c.args.out.now) (g.K.Sink.seen c.drive_recorded.new.out) c.in-Ok.status
          (c.in-Ok.ensures kept nothing).ok;
      err = tt;
      keeps = (c.in-Ok.ensures kept nothing).keeps;
    }

pub returns-in-Err-Halted : goal.returns-in-Err-Halted
returns-in-Err-Halted g c = λ kept nothing.
    let runs = run_over g.X.Extra.added.meaning kept c.args.program.now in
    let o = g.W.Wire.outside in
    let was = c.args.wire.now in
    let is = c.drive_recorded.new.wire in
    record {
      ok = tt;
      err = early_unrecorded runs c.args.manner c.args.fault.now (o.seen was) (o.seen is) (o.fails was) (o.quiet was is)
          (c.drive_recorded.new.shelf ≡ record {}) c.in-Err-Halted.field-0 c.in-Err-Halted.halt c.in-Err-Halted.field-0-is
          (g.K.Sink.seen c.args.out.now) (g.K.Sink.seen c.drive_recorded.new.out) (c.in-Err-Halted.ensures kept nothing).err;
      keeps = (c.in-Err-Halted.ensures kept nothing).keeps;
    }

pub returns-in-Err-Unrecorded : goal.returns-in-Err-Unrecorded
returns-in-Err-Unrecorded g c = λ kept nothing.
    let runs = run_over g.X.Extra.added.meaning kept c.args.program.now in
    let o = g.W.Wire.outside in
    let was = c.args.wire.now in
    let is = c.drive_recorded.new.wire in
    absurd (never_unrecorded runs c.args.manner c.args.fault.now (o.seen was) (o.seen is) (o.fails was) (o.quiet was is)
    (c.drive_recorded.new.shelf ≡ record {}) c.in-Err-Unrecorded.field-0 c.in-Err-Unrecorded.field-0-is (g.K.Sink.seen c.args.out.now)
    (g.K.Sink.seen c.drive_recorded.new.out) (c.in-Err-Unrecorded.ensures kept nothing).err)
