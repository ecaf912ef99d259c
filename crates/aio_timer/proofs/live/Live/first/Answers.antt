use Rattle.std.specs.BinaryHeap.{heap_items}
use Rattle.aio_timer.proofs.Keeping.{first_is, head_of, none_first, none_of_length}
use Rattle.aio_timer.proofs.live.Live.first.Goals as goal

pub returns-in-Some-clause-first : goal.returns-in-Some-clause-first
returns-in-Some-clause-first c =
    let head = head_of (heap_items c.args.self.now.places) c.in-Some.place.now c.in-Some.ensures.item.3.0 c.in-Some.ensures.item.3.1 in
    first_is c.args.self.now c.requires c.in-Some.place.now head.0 head.1 (c.in-Some.ensures.greatest c.requires.heap)

pub returns-in-None-clause-none : goal.returns-in-None-clause-none
returns-in-None-clause-none c =
    none_first c.args.self.now c.requires (none_of_length (heap_items c.args.self.now.places) c.in-None.ensures.item.3)
