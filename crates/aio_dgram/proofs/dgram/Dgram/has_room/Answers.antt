use Rattle.std.proofs.Common.{sym, ◌∙◌}
use Rattle.aio_dgram.specs.Seen.{kept_of}
use Rattle.aio_dgram.proofs.Answering.{room_seen}
use Rattle.aio_dgram.proofs.dgram.Dgram.has_room.Goals as goal

pub returns-in-Some-get : goal.returns-in-Some-get
returns-in-Some-get c =
    let a = c.args in
    room_seen (kept_of a.self.now) a.parts.now c.wake_first.new.parts a.bytes.now c.in-Some.id c.in-Some-get.endpoint.now
    (sym c.number.ensures ∙ c.in-Some.is) c.in-Some-get.ensures.value c.wake_first.ensures
