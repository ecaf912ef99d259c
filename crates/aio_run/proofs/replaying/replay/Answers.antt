use Rattle.std.proofs.Common.{◌≡◌, ap, ◌∙◌}
use Rattle.model_wire.specs.Told.{ShelfSeen, NoneFailed}
use Rattle.model_program.specs.Program.{MayReplay, MayRun}
use Rattle.aio_run.specs.Manner.{manner_of}
use Rattle.aio_run.specs.Script.{Tells}
use Rattle.aio_run.specs.declared.script.NoScript.TheVariants.{Memory}
use Rattle.aio_run.proofs.Outcomes.{none_failed_without, replay_by_script, replay_without}
use Rattle.aio_run.proofs.Writing.{writes_wider}
use Rattle.aio_run.proofs.replaying.replay.Goals as goal

pub returns-in-Ok-clause-written : goal.returns-in-Ok-clause-written
returns-in-Ok-clause-written g c =
    let old = g.F.Shelf.seen c.args.shelf.now in
    let mid = g.F.Shelf.seen c.read_script.new.shelf in
    let new = g.F.Shelf.seen c.replay_program.new.shelf in
    let how = manner_of c.args.journal.now c.args.manner in
    let same = c.in-Ok.ensures.kept in
    writes_wider (MayRun mid new c.in-Ok.program how) (MayReplay old new c.args.script.now how) (NoneFailed mid new) (NoneFailed old new)
    (replay_by_script c.in-Ok.program old mid new c.args.script.now how c.in-Ok.ensures.script same)
    (λ none. none ∙ ap (λ (s : ShelfSeen). s.faults) same)
    (g.K.Sink.seen c.args.out.now) (g.K.Sink.seen c.replay_program.new.out) c.replay_program.result c.replay_program.ensures.written

pub returns-in-Err-clause-written : goal.returns-in-Err-clause-written
returns-in-Err-clause-written g c =
    let old = g.F.Shelf.seen c.args.shelf.now in
    let new = g.F.Shelf.seen c.read_script.new.shelf in
    let how = manner_of c.args.journal.now c.args.manner in
    let none = c.in-Err.none in
    let missing = c.in-Err.ensures.none in
    writes_wider (Tells none) (MayReplay old new c.args.script.now how) (none ≡ Memory) (NoneFailed old new)
    (replay_without none old new c.args.script.now how missing) (none_failed_without none old new c.args.script.now missing)
    (g.K.Sink.seen c.args.out.now) (g.K.Sink.seen c.refuse.new.out) c.refuse.result c.refuse.ensures
