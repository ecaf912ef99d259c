use Rattle.std.proofs.Common.{sym, ◌∙◌}
use Rattle.std.specs.Option.{option_copied}
use Rattle.aio_drive.specs.Recording.{telling}
use Rattle.aio_drive.proofs.Telling.{cuts_before}
use Rattle.aio_drive.proofs.lines.tell_turn.Goals as goal

pub returns-in-Err-clause-err : goal.returns-in-Err-clause-err
returns-in-Err-clause-err g c =
    cuts_before
    (record {
      name = option_copied c.args.journal;
      old = g.F.Shelf.seen c.args.shelf.now;
      new = g.F.Shelf.seen c.record_events.new.shelf;
    })
    (telling c.args.trace c.args.fault.now c.args.events.now.events) (g.K.Sink.seen c.args.out.now) c.in-Err.cut c.args.went
    (sym c.is_refused.ensures ∙ c.if-is_refused.false) c.in-Err.ensures.err
