use Rattle.std.proofs.Common.{◌≡◌, sym, ap, ◌∙◌}
use Rattle.algorithm_parts.specs.declared.walk.Go.TheVariants.{Next}
use Rattle.algorithm_parts.specs.Walk.{resume, run}
use Rattle.algorithm_parts.proofs.WalkLemmas.{next_ends_where, next_past, next_member, resume-push}
use Rattle.algorithm_parts.proofs.WeightLemmas.{weigh_ask_where}
use Rattle.algorithm_parts.proofs.RoomLemmas.{walk_ends}
use Rattle.algorithm_parts.proofs.QuietLemmas.{sound_later, ask_where_later}
use Rattle.aio_cancel.specs.Noted.{noted}
use Rattle.aio_cancel.specs.Awaitables.{parts}
use Rattle.aio_cancel.proofs.MemberLemmas.{taken, room_to_take, taken_room, taken_walks, taken_falls}
use Rattle.aio_cancel.proofs.walk.next.Goals as goal

pub take_member-requires-clause-room : goal.take_member-requires-clause-room
take_member-requires-clause-room c = λ l.
    let a = c.args in
    room_to_take (parts a.body.now) a.seen.now.visited a.id a.place c.in-Some.member a.any a.stack.now c.in-Some.ensures.value a.seen.now.tasks c.requires.can l

pub returns-in-Some-clause-walks : goal.returns-in-Some-clause-walks
returns-in-Some-clause-walks c =
    let a = c.args in
    taken_walks (parts a.body.now) a.seen.now.visited a.id a.place c.in-Some.member a.any a.stack.now c.in-Some.ensures.value
    c.take_member.result c.take_member.new.self c.take_member.ensures a.seen.now.tasks c.requires.can

pub returns-in-Some-clause-falls : goal.returns-in-Some-clause-falls
returns-in-Some-clause-falls c =
    let a = c.args in
    taken_falls (parts a.body.now) a.seen.now.visited a.id a.place c.in-Some.member a.any a.stack.now c.in-Some.ensures.value
    c.take_member.result c.take_member.new.self c.take_member.ensures

pub returns-in-Some-clause-room : goal.returns-in-Some-clause-room
returns-in-Some-clause-room c =
    let a = c.args in
    taken_room (parts a.body.now) a.seen.now.visited a.id a.place c.in-Some.member a.any a.stack.now c.in-Some.ensures.value
    c.take_member.result c.take_member.new.self c.take_member.ensures

pub returns-in-Some-clause-same : goal.returns-in-Some-clause-same
returns-in-Some-clause-same c =
    let a = c.args in
    let p = parts a.body.now in
    let s = a.seen.now.visited in
    let frames = a.stack.now.frames in
    let there = sym c.in-Some.ensures.value in
    taken a.id a.place c.in-Some.member a.any a.stack.now c.take_member.result c.take_member.new.self
    (λ go after. run go after.frames s p ≡ run (Next a.id a.place a.any) frames s p) c.take_member.ensures
    (λ l. resume-push frames _ _ ∙ sym (ap (resume frames) (next_member a.id a.place a.any s p c.in-Some.member there l)))
    (λ m. sym (ap (resume frames) (next_past a.id a.place a.any s p c.in-Some.member there m)))

pub returns-in-None-clause-walks : goal.returns-in-None-clause-walks
returns-in-None-clause-walks c =
    let a = c.args in
    walk_ends a.stack.now.room a.seen.now.tasks a.id a.place a.any a.any a.stack.now.frames a.seen.now.visited (parts a.body.now)
    (parts c.ask_where.new.self) c.requires.can c.ask_where.ensures.after

pub returns-in-None-clause-same : goal.returns-in-None-clause-same
returns-in-None-clause-same c =
    let a = c.args in
    next_ends_where a.stack.now.frames a.id a.place a.any a.seen.now.visited (parts a.body.now) (parts c.ask_where.new.self)
    c.in-None.ensures.value c.ask_where.ensures.after

pub returns-in-None-clause-falls : goal.returns-in-None-clause-falls
returns-in-None-clause-falls c =
    let a = c.args in
    weigh_ask_where a.id a.place a.any a.any a.stack.now.frames a.seen.now.visited (parts a.body.now) (parts c.ask_where.new.self)
    c.ask_where.ensures.after

pub note-requires : goal.note-requires
note-requires c =
    let a = c.args in
    sound_later a.seen.now.visited (parts a.body.now) a.seen.now.visited (parts c.ask_where.new.self) (noted a.notes.now)
    (ask_where_later a.seen.now.visited (parts a.body.now) (parts c.ask_where.new.self) a.any a.id c.ask_where.ensures.after)
    c.requires.sound
