use Rattle.std.proofs.Common.{refl, [], false}
use Rattle.algorithm_parts.specs.Seek.{CanSeek}
use Rattle.algorithm_parts.proofs.WeightLemmas.{weigh_end}
use Rattle.algorithm_parts.proofs.SeekLemmas.{seek_member, seek_skips, seek_ends}
use Rattle.aio_cancel.specs.Awaitables.{parts}
use Rattle.aio_cancel.proofs.MemberLemmas.{taken, room_to_take, taken_room, taken_walks, taken_falls}
use Rattle.aio_cancel.proofs.cycle.seek_next.Goals as goal

pub take_member-requires-clause-room : goal.take_member-requires-clause-room
take_member-requires-clause-room c = λ l.
    let a = c.args in
    room_to_take (parts a.body.now) [] a.id a.place c.in-Some.member a.any a.stack.now c.in-Some.ensures.value a.seen.now.tasks c.requires l

pub returns-in-Some-clause-walks : goal.returns-in-Some-clause-walks
returns-in-Some-clause-walks c =
    let a = c.args in
    taken_walks (parts a.body.now) [] a.id a.place c.in-Some.member a.any a.stack.now c.in-Some.ensures.value
    c.take_member.result c.take_member.new.self c.take_member.ensures a.seen.now.tasks c.requires

pub returns-in-Some-clause-falls : goal.returns-in-Some-clause-falls
returns-in-Some-clause-falls c =
    let a = c.args in
    taken_falls (parts a.body.now) a.seen.now.visited a.id a.place c.in-Some.member a.any a.stack.now c.in-Some.ensures.value
    c.take_member.result c.take_member.new.self c.take_member.ensures

pub returns-in-Some-clause-room : goal.returns-in-Some-clause-room
returns-in-Some-clause-room c =
    let a = c.args in
    taken_room (parts a.body.now) [] a.id a.place c.in-Some.member a.any a.stack.now c.in-Some.ensures.value
    c.take_member.result c.take_member.new.self c.take_member.ensures

pub returns-in-Some-clause-seeks : goal.returns-in-Some-clause-seeks
returns-in-Some-clause-seeks c = λ from to said can.
    let a = c.args in
    let p = parts a.body.now in
    let there = c.in-Some.ensures.value in
    taken a.id a.place c.in-Some.member a.any a.stack.now c.take_member.result c.take_member.new.self
    (λ go after. CanSeek p from to a.seen.now.visited said go after.frames) c.take_member.ensures
    (λ l. seek_member p from to a.id a.place a.any a.seen.now.visited said a.stack.now.frames can c.in-Some.member _ there l refl)
    (λ m. seek_skips p from to a.id a.place a.any a.seen.now.visited said a.stack.now.frames can c.in-Some.member there m)

pub returns-in-None-clause-seeks : goal.returns-in-None-clause-seeks
returns-in-None-clause-seeks c = λ from to said can.
    let a = c.args in
    seek_ends (parts a.body.now) from to a.id a.place a.any a.seen.now.visited said a.stack.now.frames can false c.in-None.ensures.value

pub returns-in-None-clause-falls : goal.returns-in-None-clause-falls
returns-in-None-clause-falls c =
    let a = c.args in
    weigh_end a.id a.place a.any false a.stack.now.frames a.seen.now.visited (parts a.body.now)
