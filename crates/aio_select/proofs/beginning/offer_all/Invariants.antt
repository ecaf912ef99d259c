use Rattle.std.proofs.Common.{◌≡◌, true}
use Rattle.model_wire.specs.Fits.{turn_fits}
use Rattle.aio_select.specs.Answered.{OffersAll}
use Rattle.aio_select.proofs.beginning.offer_all.Given as goal

abbrev pub invariant-loop-item : goal.invariant-loop-item
invariant-loop-item l =
    (goal.iterator-loop-item).can_next l.item-iterator
    × (goal.iterator-loop-item).is_finite l.item-iterator
    × (turn_fits l.watch 0 l.answering.items.items ≡ true)
    × OffersAll l.watch l.initial.answering.items.items l.initial.answering.kept.items l.yielded l.answering.items.items
    l.answering.kept.items
