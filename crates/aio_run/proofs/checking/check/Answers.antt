use Rattle.std.proofs.Common.{◌≡◌, ◌∙◌}
use Rattle.model_text.specs.Canonical.{canonical}
use Rattle.model_wire.specs.Told.{NoneFailed}
use Rattle.model_program.specs.Program.{MayCheck}
use Rattle.aio_run.specs.Script.{Tells}
use Rattle.aio_run.specs.declared.script.NoScript.TheVariants.{Memory}
use Rattle.aio_run.proofs.Outcomes.{check_by_script, check_without, none_failed_without}
use Rattle.aio_run.proofs.Writing.{line_written, writes_wider}
use Rattle.aio_run.proofs.checking.check.Goals as goal

pub returns-in_ok-text-in-Ok-clause-written : goal.returns-in_ok-text-in-Ok-clause-written
returns-in_ok-text-in-Ok-clause-written g c =
    let old = g.F.Shelf.seen c.args.shelf.now in
    let new = g.F.Shelf.seen c.read_script.new.shelf in
    line_written (MayCheck old new c.args.script.now) (NoneFailed old new) (record { text = canonical c.in-Ok.script; status = 0 })
    (check_by_script c.in-Ok.script old new c.args.script.now c.in-Ok.ensures.script c.in-Ok.ensures.kept) _
    (c.as_slice.ensures.value ∙ c.in_ok-text-in-Ok.ensures)
    (g.K.Sink.seen c.args.out.now) (g.K.Sink.seen c.tell.new.out) c.tell.result c.tell.ensures.ok c.tell.ensures.err

pub returns-in-Err-clause-written : goal.returns-in-Err-clause-written
returns-in-Err-clause-written g c =
    let old = g.F.Shelf.seen c.args.shelf.now in
    let new = g.F.Shelf.seen c.read_script.new.shelf in
    let none = c.in-Err.none in
    let missing = c.in-Err.ensures.none in
    writes_wider (Tells none) (MayCheck old new c.args.script.now) (none ≡ Memory) (NoneFailed old new)
    (check_without none old new c.args.script.now missing) (none_failed_without none old new c.args.script.now missing)
    (g.K.Sink.seen c.args.out.now) (g.K.Sink.seen c.refuse.new.out) c.refuse.result c.refuse.ensures
