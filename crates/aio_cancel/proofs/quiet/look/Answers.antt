use Rattle.std.proofs.Common.{sym, ◌∙◌, slice_get}
use Rattle.algorithm_parts.specs.Quiet.{over, visited}
use Rattle.algorithm_parts.proofs.QuietLemmas.{stage_done, stage_task}
use Rattle.aio_cancel.proofs.quiet.look.Goals as goal

pub returns-in-Done : goal.returns-in-Done
returns-in-Done c = over (stage_done (slice_get c.args.body.now.futures c.args.id) c.in-Done.ensures)

pub returns-then-has : goal.returns-then-has
returns-then-has c = visited c.in-OfTask.task (stage_task (slice_get c.args.body.now.futures c.args.id) c.in-OfTask.task c.in-OfTask.ensures)
    (sym c.has.ensures ∙ c.if-has.true)
