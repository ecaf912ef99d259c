use Rattle.std.proofs.Common.{◌∙◌}
use Rattle.model_wire.specs.Trace.{line}
use Rattle.model_commands.specs.Works.{MayWork, work_text}
use Rattle.aio_tally.specs.Tallied.{plain_counts}
use Rattle.aio_run.proofs.Outcomes.{worked_of}
use Rattle.aio_run.proofs.Writing.{line_written}
use Rattle.aio_run.proofs.working.work.Goals as goal

pub returns : goal.returns
returns g c =
    let tally = c.in_ok-tally.tally in
    line_written (MayWork c.args.seed) _ (record { text = line (work_text c.args.seed (plain_counts tally.counts)); status = tally.status })
    (worked_of c.args.seed tally c.in_ok-tally.ensures) _ (c.as_str.ensures.value ∙ c.in_ok-text.ensures)
    (g.K.Sink.seen c.args.out.now) (g.K.Sink.seen c.say.new.out) c.say.result c.say.ensures.ok c.say.ensures.err
