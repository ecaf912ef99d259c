use Rattle.std.proofs.Common.{◌≡◌, Some, None, length, refl, sym, ap, ◌∙◌, w64}
use Rattle.std.proofs.lemmas.Int.{to_z-of_z}
use Rattle.std.proofs.lemmas.Option.{slice_get_read}
use Rattle.aio_sync.specs.Numbers.{nat_in}
use Rattle.aio_sync.specs.Seen.{kept_of}
use Rattle.aio_sync.proofs.Answering.{full_tries, open_tries, put_through, put_waits}
use Rattle.aio_sync.proofs.Seeing.{getters_free, putters_free}
use Rattle.aio_sync.proofs.requests.Sync.put.Goals as goal

pub wait_to_put-requires-clause-free : goal.wait_to_put-requires-clause-free
wait_to_put-requires-clause-free c =
    let a = c.args in
    let items = a.self.now.queues.items in
    let held = c.in-Some-get_mut.queue.now in
    let read = c.in-Some-get_mut.ensures.item in
    putters_free a.parts.now.futures (kept_of a.self.now) c.requires.free c.in-Some.place held
    (slice_get_read items (length items) c.in-Some.place held refl read.3.0 read.1)

pub returns-then-is_full : goal.returns-then-is_full
returns-then-is_full c =
    let a = c.args in
    let items = a.self.now.queues.items in
    let place = c.in-Some.place in
    let is : nat_in a.number ≡ Some place = sym (c.place_in.ensures ∙ ap nat_in (to_z-of_z w64 a.number c.ranges.number)) ∙ c.in-Some.is in
    let held = c.in-Some-get_mut.queue.now in
    let read = c.in-Some-get_mut.ensures.item in
    let there = slice_get_read items (length items) place held refl read.3.0 read.1 in
    let x = kept_of a.self.now in
    let y = kept_of c.wait_on.new.self in
    let now = c.wait_to_put.new.self in
    put_waits x a.number place is y a.parts.now c.wait_to_put.new.parts held now there a.value c.in-Ok.on
    (full_tries x a.number place is y a.parts.now c.wait_to_put.new.parts held now there a.value c.in-Ok.on (sym c.is_full.ensures ∙ c.if-is_full.true)
    c.in-Ok.ensures.on c.in-Ok.ensures.after c.in-Ok.ensures.parts) c.wait_on.result c.wait_on.ensures.answer c.wait_on.ensures.after

pub put-requires-clause-free : goal.put-requires-clause-free
put-requires-clause-free c =
    let a = c.args in
    let items = a.self.now.queues.items in
    let held = c.in-Some-get_mut.queue.now in
    let read = c.in-Some-get_mut.ensures.item in
    getters_free a.parts.now.futures (kept_of a.self.now) c.requires.free c.in-Some.place held
    (slice_get_read items (length items) c.in-Some.place held refl read.3.0 read.1)

pub returns : goal.returns
returns c =
    let a = c.args in
    let items = a.self.now.queues.items in
    let place = c.in-Some.place in
    let is : nat_in a.number ≡ Some place = sym (c.place_in.ensures ∙ ap nat_in (to_z-of_z w64 a.number c.ranges.number)) ∙ c.in-Some.is in
    let held = c.in-Some-get_mut.queue.now in
    let read = c.in-Some-get_mut.ensures.item in
    let there = slice_get_read items (length items) place held refl read.3.0 read.1 in
    let x = kept_of a.self.now in
    let y = kept_of c.answer.new.self in
    let now = c.put.new.self in
    put_through x a.number place is y a.parts.now c.put.new.parts held now there a.value
    (open_tries x a.number place is y a.parts.now c.put.new.parts held now there a.value (sym c.is_full.ensures ∙ c.if-is_full.false)
    c.in_ok-put.ensures.after c.in_ok-put.ensures.steps) c.answer.ensures.after c.answer.result c.nothing.result c.answer.ensures.answer c.nothing.ensures
