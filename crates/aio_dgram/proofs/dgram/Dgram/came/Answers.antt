use Rattle.std.proofs.Common.{ap, sym, ◌∙◌}
use Rattle.std.specs.Option.{option_map}
use Rattle.aio_dgram.specs.Seen.{kept_of}
use Rattle.aio_dgram.specs.Told.{came_as}
use Rattle.aio_dgram.proofs.Answering.{came_seen}
use Rattle.aio_dgram.proofs.dgram.Dgram.came.Goals as goal

pub returns : goal.returns
returns c =
    let a = c.args in
    came_seen (kept_of a.self.now) a.parts.now c.wake_receiver.new.parts a.bytes.now (came_as c.in-Some.came)
    (c.get_mut.follows.lender c.hold_if_room.new.self).entries c.in-Some-get_mut.endpoint.now c.hold_if_room.new.self
    (sym c.came_in.ensures ∙ ap (option_map came_as) c.in-Some.is) c.in-Some-get_mut.ensures.value (c.get_mut.follows.holds c.hold_if_room.new.self).0
    c.in_ok-hold_if_room.ensures c.wake_receiver.ensures
