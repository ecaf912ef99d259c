use Rattle.std.proofs.Common.{not, sym, ap, ◌∙◌}
use Rattle.std.specs.BinaryHeap.{heap_items}
use Rattle.aio_timer.specs.Kept.{begins_dead}
use Rattle.aio_timer.proofs.Keeping.{head_of, none_of_length}
use Rattle.aio_timer.proofs.place.is_dead_first.Goals as goal

pub returns-in-Some-clause-dead : goal.returns-in-Some-clause-dead
returns-in-Some-clause-dead c =
    let head = head_of (heap_items c.args.places.now) c.in-Some.place.now c.in-Some.ensures.item.3.0 c.in-Some.ensures.item.3.1 in
    ap not c.is_standing.ensures ∙ sym (ap (begins_dead c.args.entries.now) head.1)

pub returns-in-None-clause-dead : goal.returns-in-None-clause-dead
returns-in-None-clause-dead c =
    sym (ap (begins_dead c.args.entries.now) (none_of_length (heap_items c.args.places.now) c.in-None.ensures.item.3))
