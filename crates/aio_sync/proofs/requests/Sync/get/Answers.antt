use Rattle.std.proofs.Common.{◌≡◌, Some, None, length, refl, sym, ap, ◌∙◌, w64}
use Rattle.std.proofs.lemmas.Int.{to_z-of_z}
use Rattle.std.proofs.lemmas.Option.{slice_get_read}
use Rattle.aio_sync.specs.Numbers.{nat_in}
use Rattle.aio_sync.specs.Seen.{kept_of}
use Rattle.aio_sync.proofs.Answering.{get_through, get_waits}
use Rattle.aio_sync.proofs.Seeing.{getters_free, putters_free}
use Rattle.aio_sync.proofs.requests.Sync.get.Goals as goal

pub get-requires-clause-getters : goal.get-requires-clause-getters
get-requires-clause-getters c =
    let a = c.args in
    let items = a.self.now.queues.items in
    let held = c.in-Some-get_mut.queue.now in
    let read = c.in-Some-get_mut.ensures.item in
    getters_free a.parts.now.futures (kept_of a.self.now) c.requires.free c.in-Some.place held
    (slice_get_read items (length items) c.in-Some.place held refl read.3.0 read.1)

pub get-requires-clause-putters : goal.get-requires-clause-putters
get-requires-clause-putters c =
    let a = c.args in
    let items = a.self.now.queues.items in
    let held = c.in-Some-get_mut.queue.now in
    let read = c.in-Some-get_mut.ensures.item in
    putters_free a.parts.now.futures (kept_of a.self.now) c.requires.free c.in-Some.place held
    (slice_get_read items (length items) c.in-Some.place held refl read.3.0 read.1)

pub returns-in-Value : goal.returns-in-Value
returns-in-Value c =
    let a = c.args in
    let items = a.self.now.queues.items in
    let place = c.in-Some.place in
    let is : nat_in a.number ≡ Some place = sym (c.place_in.ensures ∙ ap nat_in (to_z-of_z w64 a.number c.ranges.number)) ∙ c.in-Some.is in
    let held = c.in-Some-get_mut.queue.now in
    let read = c.in-Some-get_mut.ensures.item in
    let there = slice_get_read items (length items) place held refl read.3.0 read.1 in
    get_through (kept_of a.self.now) a.number place is (kept_of c.answer.new.self) a.parts.now c.get.new.parts held c.get.new.self there
    c.in_ok-value.field-0 c.in-Value.value c.in-Value.is c.in_ok-value.ensures c.answer.ensures.after c.answer.result c.answer.ensures.answer

pub returns-in-Waits : goal.returns-in-Waits
returns-in-Waits c =
    let a = c.args in
    let items = a.self.now.queues.items in
    let place = c.in-Some.place in
    let is : nat_in a.number ≡ Some place = sym (c.place_in.ensures ∙ ap nat_in (to_z-of_z w64 a.number c.ranges.number)) ∙ c.in-Some.is in
    let held = c.in-Some-get_mut.queue.now in
    let read = c.in-Some-get_mut.ensures.item in
    let there = slice_get_read items (length items) place held refl read.3.0 read.1 in
    get_waits (kept_of a.self.now) a.number place is (kept_of c.wait_on.new.self) a.parts.now c.get.new.parts held c.get.new.self there
    c.in_ok-value.field-0 c.in-Waits.on c.in-Waits.is c.in_ok-value.ensures c.wait_on.result c.wait_on.ensures.answer c.wait_on.ensures.after
