use Rattle.std.proofs.Common.{◌≡◌, Some, None, length, refl, sym, ap, ◌∙◌, w64}
use Rattle.std.proofs.lemmas.Int.{to_z-of_z}
use Rattle.std.proofs.lemmas.Option.{slice_get_read}
use Rattle.aio_sync.specs.Numbers.{nat_in}
use Rattle.aio_sync.specs.Seen.{kept_of}
use Rattle.aio_sync.proofs.Answering.{set_through}
use Rattle.aio_sync.proofs.Seeing.{event_free}
use Rattle.aio_sync.proofs.requests.Sync.set.Goals as goal

pub set-requires-clause-free : goal.set-requires-clause-free
set-requires-clause-free c =
    let a = c.args in
    let items = a.self.now.events.items in
    let held = c.in-Some-get_mut.event.now in
    let read = c.in-Some-get_mut.ensures.item in
    event_free a.parts.now.futures (kept_of a.self.now) c.requires.free c.in-Some.place held
    (slice_get_read items (length items) c.in-Some.place held refl read.3.0 read.1)

pub returns : goal.returns
returns c =
    let a = c.args in
    let items = a.self.now.events.items in
    let place = c.in-Some.place in
    let is : nat_in a.number ≡ Some place = sym (c.place_in.ensures ∙ ap nat_in (to_z-of_z w64 a.number c.ranges.number)) ∙ c.in-Some.is in
    let held = c.in-Some-get_mut.event.now in
    let read = c.in-Some-get_mut.ensures.item in
    let there = slice_get_read items (length items) place held refl read.3.0 read.1 in
    set_through (kept_of a.self.now) a.number place is (kept_of c.answer.new.self) a.parts.now c.set.new.parts held c.set.new.self there
    c.set.ensures.after c.set.ensures.steps c.answer.ensures.after c.answer.result c.nothing.result c.answer.ensures.answer c.nothing.ensures
