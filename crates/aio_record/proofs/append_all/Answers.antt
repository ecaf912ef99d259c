use Rattle.std.proofs.Common.{◌++◌, take}
use Rattle.aio_record.proofs.Growing.{appended_more, some_left}
use Rattle.aio_record.proofs.append_all.Goals as goal

pub loop-rest-preserved : goal.loop-rest-preserved
loop-rest-preserved g c =
    let i = c.loop-rest.invariant in
    let next = rw c.in-Ok-Took.field-0-is at c.in-Ok-Took.ensures.written in
    let size = rw c.in-Ok-Took.field-0-is at c.in-Ok-Took.ensures.size in (
      i.0 ++ take c.in-Ok-Took.count c.loop-rest.rest.now,
      appended_more i.0 c.loop-rest.rest.now c.args.text.now c.args.name.now (g.F.Shelf.seen c.args.shelf.now)
          (g.F.Shelf.seen c.loop-rest.shelf) (g.F.Shelf.seen c.append.new.self) c.in-Ok-Took.count i.1 next size
          (some_left c.loop-rest.rest.now c.is_empty.result c.is_empty.ensures c.loop-rest-test.true),
    )
