use Rattle.std.proofs.Common.{sym, ◌∙◌}
use Rattle.aio_exec.specs.Seen.{kept_of}
use Rattle.aio_exec.proofs.Seeing.{no_tasks}
use Rattle.aio_exec.proofs.exec.Exec.give.Goals as goal

pub resolve-was_pending-requires-clause-no_task : goal.resolve-was_pending-requires-clause-no_task
resolve-was_pending-requires-clause-no_task c =
    no_tasks c.args.parts.now.futures (kept_of c.args.self.now) c.requires.free c.args.place c.in-Some.on (sym c.give.ensures.on ∙ c.in-Some.is)
