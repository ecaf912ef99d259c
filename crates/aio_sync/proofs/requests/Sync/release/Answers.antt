use Rattle.std.proofs.Common.{◌≡◌, Some, None, length, refl, sym, ap, ◌∙◌, w64}
use Rattle.std.proofs.lemmas.Int.{to_z-of_z}
use Rattle.std.proofs.lemmas.Option.{slice_get_read}
use Rattle.aio_sync.specs.Numbers.{nat_in}
use Rattle.aio_sync.specs.Seen.{kept_of}
use Rattle.aio_sync.proofs.Answering.{release_raises, release_through}
use Rattle.aio_sync.proofs.Seeing.{lock_free}
use Rattle.aio_sync.proofs.requests.Sync.release.Goals as goal

pub release-requires-clause-free : goal.release-requires-clause-free
release-requires-clause-free c =
    let a = c.args in
    let items = a.self.now.locks.items in
    let held = c.in-Some-get_mut.lock.now in
    let read = c.in-Some-get_mut.ensures.item in
    lock_free a.parts.now.futures (kept_of a.self.now) c.requires.free c.in-Some.place held
    (slice_get_read items (length items) c.in-Some.place held refl read.3.0 read.1)

pub returns-then-release : goal.returns-then-release
returns-then-release c =
    let a = c.args in
    let items = a.self.now.locks.items in
    let place = c.in-Some.place in
    let is : nat_in a.number ≡ Some place = sym (c.place_in.ensures ∙ ap nat_in (to_z-of_z w64 a.number c.ranges.number)) ∙ c.in-Some.is in
    let held = c.in-Some-get_mut.lock.now in
    let read = c.in-Some-get_mut.ensures.item in
    let there = slice_get_read items (length items) place held refl read.3.0 read.1 in
    release_through (kept_of a.self.now) a.number place is (kept_of c.answer.new.self) a.parts.now c.release.new.parts held c.release.new.self there
    (sym c.release.ensures.was ∙ c.if-release.true) c.release.ensures.after c.release.ensures.steps c.answer.ensures.after c.answer.result c.nothing.result
    c.answer.ensures.answer c.nothing.ensures

pub returns : goal.returns
returns c =
    let a = c.args in
    let items = a.self.now.locks.items in
    let place = c.in-Some.place in
    let is : nat_in a.number ≡ Some place = sym (c.place_in.ensures ∙ ap nat_in (to_z-of_z w64 a.number c.ranges.number)) ∙ c.in-Some.is in
    let held = c.in-Some-get_mut.lock.now in
    let read = c.in-Some-get_mut.ensures.item in
    let there = slice_get_read items (length items) place held refl read.3.0 read.1 in
    release_raises (kept_of a.self.now) a.number place is (kept_of c.raise.new.self) a.parts.now c.release.new.parts held c.release.new.self there
    (sym c.release.ensures.was ∙ c.if-release.false) c.release.ensures.after c.release.ensures.steps c.raise.result c.raise.ensures.answer c.raise.ensures.after
