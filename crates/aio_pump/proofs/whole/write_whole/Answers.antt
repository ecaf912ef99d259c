use Rattle.aio_pump.proofs.Fronts.{took_more}
use Rattle.aio_pump.proofs.whole.write_whole.Goals as goal

pub loop-at-preserved : goal.loop-at-preserved
loop-at-preserved g c =
    let fits = rw c.in-Ok-Took.field-0-is at c.in-Ok-Took.ensures.size in
    let next = rw c.in-Ok-Took.field-0-is at c.in-Ok-Took.ensures.took in
    let i = c.loop-at.invariant in
    took_more (g.K.Sink.seen c.args.sink.now) (g.K.Sink.seen c.loop-at.sink) (g.K.Sink.seen c.write.new.self) c.args.bytes.now
    c.loop-at.at c.in-Ok-Took.count i.0 i.1 fits.0 next
