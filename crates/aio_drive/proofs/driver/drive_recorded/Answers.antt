use Rattle.std.proofs.Common.{◌≡◌, [], refl, sym}
use Rattle.std.specs.Option.{option_copied}
use Rattle.model_program.specs.Runs.{run_over}
use Rattle.aio_core.proofs.Asked.{none_once}
use Rattle.aio_drive.specs.Drive.{Driven, IsUntold, MayDrive, driven_by, wire_until}
use Rattle.aio_drive.specs.declared.halt.Halt.TheVariants.{Memory}
use Rattle.aio_drive.proofs.Written.{nothing_at_all}
use Rattle.aio_drive.proofs.Fronts.{took-nil}
use Rattle.aio_drive.proofs.driver.drive_recorded.Goals as goal

pub returns-in-Ok : goal.returns-in-Ok
returns-in-Ok g c = λ kept nothing. c.drive_kernel-driven.ensures.drives kept c.args.program.now (c.in-Ok.ensures kept nothing)

pub returns-in-Err : goal.returns-in-Err
returns-in-Err g c = λ kept nothing.
    let o = g.W.Wire.outside in
    let was = c.args.wire.now in
    let files = g.F.Shelf.seen c.args.shelf.now in
    let it : Driven = driven_by o was was (record { name = option_copied c.args.journal; old = files; new = files })
    (c.args.shelf.now ≡ c.args.shelf.now) in
    record {
      ok = tt;
      err = nothing_at_all
          (MayDrive (run_over g.X.Extra.added.meaning kept c.args.program.now) c.args.manner c.args.fault.now (wire_until Memory it)) (IsUntold it)
          (g.K.Sink.seen c.args.out.now) (g.K.Sink.seen c.args.out.now) [] (sym (took-nil (g.K.Sink.seen c.args.out.now))) refl
          ((o.quiet_same was, none_once (o.seen was)), refl);
      keeps = o.keeps_same was;
    }
