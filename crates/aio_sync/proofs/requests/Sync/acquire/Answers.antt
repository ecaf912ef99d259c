use Rattle.std.proofs.Common.{◌≡◌, Some, None, length, refl, sym, ap, ◌∙◌, w64}
use Rattle.std.proofs.lemmas.Int.{to_z-of_z}
use Rattle.std.proofs.lemmas.Option.{slice_get_read}
use Rattle.aio_sync.specs.Numbers.{nat_in}
use Rattle.aio_sync.specs.Seen.{kept_of}
use Rattle.aio_sync.proofs.Answering.{acquire_through, acquire_waits}
use Rattle.aio_sync.proofs.Seeing.{lock_free}
use Rattle.aio_sync.proofs.requests.Sync.acquire.Goals as goal

pub take-requires-clause-free : goal.take-requires-clause-free
take-requires-clause-free c =
    let a = c.args in
    let items = a.self.now.locks.items in
    let held = c.in-Some-get_mut.lock.now in
    let read = c.in-Some-get_mut.ensures.item in
    lock_free a.parts.now.futures (kept_of a.self.now) c.requires.free c.in-Some.place held
    (slice_get_read items (length items) c.in-Some.place held refl read.3.0 read.1)

pub returns-in-None : goal.returns-in-None
returns-in-None c =
    let a = c.args in
    let items = a.self.now.locks.items in
    let place = c.in-Some.place in
    let is : nat_in a.number ≡ Some place = sym (c.place_in.ensures ∙ ap nat_in (to_z-of_z w64 a.number c.ranges.number)) ∙ c.in-Some.is in
    let held = c.in-Some-get_mut.lock.now in
    let read = c.in-Some-get_mut.ensures.item in
    let there = slice_get_read items (length items) place held refl read.3.0 read.1 in
    acquire_through (kept_of a.self.now) a.number place is (kept_of c.answer.new.self) a.parts.now c.take.new.parts held c.take.new.self there
    c.in_ok-take.field-0 c.in-None.is c.in_ok-take.ensures c.answer.ensures.after c.answer.result c.bool.result c.answer.ensures.answer c.bool.ensures

pub returns-in-Some-2 : goal.returns-in-Some-2
returns-in-Some-2 c =
    let a = c.args in
    let items = a.self.now.locks.items in
    let place = c.in-Some.place in
    let is : nat_in a.number ≡ Some place = sym (c.place_in.ensures ∙ ap nat_in (to_z-of_z w64 a.number c.ranges.number)) ∙ c.in-Some.is in
    let held = c.in-Some-get_mut.lock.now in
    let read = c.in-Some-get_mut.ensures.item in
    let there = slice_get_read items (length items) place held refl read.3.0 read.1 in
    acquire_waits (kept_of a.self.now) a.number place is (kept_of c.wait_on.new.self) a.parts.now c.take.new.parts held c.take.new.self there
    c.in_ok-take.field-0 c.in-Some-2.on c.in-Some-2.is c.in_ok-take.ensures c.wait_on.result c.wait_on.ensures.answer c.wait_on.ensures.after
