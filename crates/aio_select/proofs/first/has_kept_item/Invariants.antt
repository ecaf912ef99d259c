use Rattle.aio_select.proofs.FirstItems.{Passed}
use Rattle.aio_select.proofs.first.has_kept_item.Given as goal

abbrev pub invariant-loop-item : goal.invariant-loop-item
invariant-loop-item l = Passed l.watch l.kept l.item-index l.behind
