use Rattle.aio_pump.proofs.Fronts.{whole_spent, broken_put, broken_spent, starved_put, starved_spent}
use Rattle.aio_pump.proofs.writing.write.Goals as goal

pub returns-else-put : goal.returns-else-put
returns-else-put g c =
    let wrote = rw (c.in-Whole.is, c.items.ensures) at c.write_whole-count.ensures in
    let put = c.if-put.ensures in
    whole_spent c.args.bytes.now _ _ c.write_whole-count.result.0 c.saturating_add-now.ensures wrote (put.0, put.1) put.2

pub returns-then-put-2 : goal.returns-then-put-2
returns-then-put-2 g c =
    let wrote = rw (c.in-Broken.is, c.items.ensures) at c.write_whole-count.ensures in
    broken_put c.args.bytes.now _ _ c.write_whole-count.result.0 c.saturating_add-now.ensures wrote c.if-put-2.ensures

pub returns-else-put-2 : goal.returns-else-put-2
returns-else-put-2 g c =
    let wrote = rw (c.in-Broken.is, c.items.ensures) at c.write_whole-count.ensures in
    let put = c.if-put-2.ensures in
    broken_spent c.args.bytes.now _ _ c.write_whole-count.result.0 c.saturating_add-now.ensures wrote (put.0, put.1) put.2

pub returns-then-put-3 : goal.returns-then-put-3
returns-then-put-3 g c =
    let wrote = rw (c.in-Starved.is, c.items.ensures) at c.write_whole-count.ensures in
    starved_put c.args.bytes.now _ _ c.write_whole-count.result.0 c.saturating_add-now.ensures wrote c.if-put-3.ensures

pub returns-else-put-3 : goal.returns-else-put-3
returns-else-put-3 g c =
    let wrote = rw (c.in-Starved.is, c.items.ensures) at c.write_whole-count.ensures in
    let put = c.if-put-3.ensures in
    starved_spent c.args.bytes.now _ _ c.write_whole-count.result.0 c.saturating_add-now.ensures wrote (put.0, put.1) put.2
