use Rattle.std.proofs.Common.{take, ◌+◌}
use Rattle.aio_interest.proofs.Marking.{marks_more, next_of}
use Rattle.aio_select.proofs.Counting.{counted_more, least_of}
use Rattle.model_wire.specs.Fits.{bytes_in}
use Rattle.aio_select.proofs.answering.Answering.new.Goals as goal

pub loop-item-preserved : goal.loop-item-preserved
loop-item-preserved c =
    let xs = c.args.items.items in
    let n = c.loop-item.item-index in
    let x = c.item-item.result in
    let whole = next_of xs c.deref-item-items.result.now n x c.deref-item-items.ensures.value c.loop-item-test.true c.item-item.is in (
      counted_more xs n c.loop-item.bytes c.saturating_add-bytes.result x whole c.requires c.loop-item.invariant.0
          (least_of c.loop-item.bytes c.bytes_in.result (bytes_in x) c.saturating_add-bytes.result c.saturating_add-bytes.ensures c.bytes_in.ensures),
      marks_more c.loop-item.taken c.mark.new.marks (take n xs) (take (n + 1) xs) x c.loop-item.invariant.1 c.in_ok-mark.ensures.added whole,
    )
