use Rattle.std.proofs.Common.{rules}
use Rattle.model_program.specs.Added.{first_added}
use Rattle.aio_run.proofs.Outcomes.{files_left, run_written}
use Rattle.aio_run.proofs.replaying.replay_program.Goals as goal

pub drive-requires-clause-fresh : goal.drive-requires-clause-fresh
drive-requires-clause-fresh g c = ∣ (first_added, c.added.ensures) ∣₁

pub returns-clause-written : goal.returns-clause-written
returns-clause-written g c =
    let w = c.answering-wire.result in
    let driven = c.drive.ensures first_added c.added.ensures in
    run_written g.F.Shelf.seen c.args.shelf.now w.shelf.now c.drive.new.wire.shelf.now _ w.name.now c.drive.new.wire.name.now c.args.journal.now
    w.own c.drive.new.wire.own c.args.program.now c.args.manner c.answering-wire.ensures.kept (search (rules, driven.keeps.0))
    c.answering-wire.ensures.name driven.keeps.1 c.answering-wire.ensures.unread (g.K.Sink.seen c.args.out.now) (g.K.Sink.seen c.drive.new.out) c.drive.result driven.ok driven.err

pub returns-clause-files : goal.returns-clause-files
returns-clause-files g c =
    let driven = c.drive.ensures first_added c.added.ensures in
    files_left g.F.Shelf.seen c.args.shelf.now c.answering-wire.result.shelf.now c.drive.new.wire.shelf.now _ c.answering-wire.ensures.kept
    (search (rules, driven.keeps.0)) driven.keeps.2
