use Rattle.std.proofs.Common.{◌++◌, take}
use Rattle.aio_drive.proofs.Fronts.{wrote_more}
use Rattle.aio_drive.proofs.writing.write_all.Goals as goal

pub loop-rest-preserved : goal.loop-rest-preserved
loop-rest-preserved g c =
    let i = c.loop-rest.invariant in
    let next = rw c.in-Took.is at c.in_ok-count.ensures.took in (
      i.0 ++ take c.in-Took.count c.loop-rest.rest.now,
      wrote_more i.0 c.loop-rest.rest.now c.args.text.now (g.K.Sink.seen c.args.out.now) (g.K.Sink.seen c.loop-rest.out)
          (g.K.Sink.seen c.write.new.self) c.in-Took.count i.1 next,
    )
