use Rattle.std.proofs.Common.{sym}
use Rattle.aio_select.proofs.FirstItems.{none_passed, found_here, pass_on, all_passed}
use Rattle.aio_select.proofs.first.has_kept_item.Goals as goal

pub loop-item-init : goal.loop-item-init
loop-item-init c = none_passed c.args.watch.now c.args.kept.now c.new-behind.result c.new-behind.ensures.empty

pub returns-then-goes_first : goal.returns-then-goes_first
returns-then-goes_first c =
    sym (found_here c.args.watch.now c.args.kept.now c.loop-item.item-index c.loop-item.behind c.loop-item.invariant c.item-item.result
    c.loop-item-test.true c.item-item.is c.goes_first.result c.goes_first.ensures c.if-goes_first.true)

pub loop-item-preserved : goal.loop-item-preserved
loop-item-preserved c =
    pass_on c.args.watch.now c.args.kept.now c.loop-item.item-index c.loop-item.behind c.loop-item.invariant c.item-item.result
    c.loop-item-test.true c.item-item.is c.goes_first.result c.goes_first.ensures c.if-goes_first.false c.mark_kept.new.behind
    c.in_ok-mark_kept.ensures

pub returns : goal.returns
returns c =
    sym (all_passed c.args.watch.now c.args.kept.now c.loop-item.item-index c.loop-item.behind c.loop-item.invariant c.loop-item-test.false)
