use Rattle.std.proofs.Common.{◌≡◌, Some, None, length, refl, slice_get, slice_set, sym, ap, subst, ◌∙◌}
use Rattle.std.proofs.lemmas.Option.{slice_get_read}
use Rattle.std.specs.Map.{remove_entry}
use Rattle.model_sync.specs.Synced.{Gets, Puts, is_place}
use Rattle.aio_sync.specs.Drawn.{Drawn}
use Rattle.aio_sync.specs.Seen.{kept_of}
use Rattle.aio_sync.proofs.Again.{again_full, again_put, keyed}
use Rattle.aio_sync.proofs.Answering.{full_again, open_again, set_same}
use Rattle.aio_sync.proofs.Seeing.{getters_free, putters_free}
use Rattle.aio_sync.proofs.requests.Sync.put_again.Goals as goal

pub wait_to_put-requires-clause-free : goal.wait_to_put-requires-clause-free
wait_to_put-requires-clause-free c =
    let a = c.args in
    let items = a.self.now.queues.items in
    let held = c.in-Some.queue.now in
    let read = c.in-Some.ensures.item in
    let there = slice_get_read items (length items) a.id held refl read.3.0 read.1 in
    putters_free a.parts.now.futures (kept_of a.self.now) c.requires.free a.id held there

pub returns-then-is_full : goal.returns-then-is_full
returns-then-is_full c = λ value on queue waits is.
    let a = c.args in
    let items = a.self.now.queues.items in
    let held = c.in-Some.queue.now in
    let read = c.in-Some.ensures.item in
    let there = slice_get_read items (length items) a.id held refl read.3.0 read.1 in
    let now = c.wait_to_put.new.self in
    again_full (kept_of a.self.now) a.parts.now c.wait_to_put.new.parts a.key a.place a.id held queue now there is _ value c.in_ok-on.on
    (full_again a.parts.now c.wait_to_put.new.parts held now value c.in_ok-on.on (sym c.is_full.ensures ∙ c.if-is_full.true) c.in_ok-on.ensures.on
    c.in_ok-on.ensures.after c.in_ok-on.ensures.parts)
    (ap (keyed a.self.now.locks.items a.self.now.events.items (slice_set items a.id now)) (c.wait_on.ensures (Puts a.id value on) waits))

pub put-requires-clause-free : goal.put-requires-clause-free
put-requires-clause-free c =
    let a = c.args in
    let items = a.self.now.queues.items in
    let first = c.in-Some.queue.now in
    let one = c.in-Some.ensures.item in
    let was = slice_get_read items (length items) a.id first refl one.3.0 one.1 in
    let lent = set_same items a.id first was in
    let again = slice_set items a.id first in
    let held = c.in-Some-get_mut.queue.now in
    let read = c.in-Some-get_mut.ensures.item in
    let there = ap (λ qs. slice_get qs a.id) (sym lent) ∙ slice_get_read again (length again) a.id held refl read.3.0 read.1 in
    getters_free a.parts.now.futures (kept_of a.self.now) c.requires.free a.id held there

pub returns : goal.returns
returns c = λ value on queue waits is.
    let a = c.args in
    let items = a.self.now.queues.items in
    let first = c.in-Some.queue.now in
    let one = c.in-Some.ensures.item in
    let was = slice_get_read items (length items) a.id first refl one.3.0 one.1 in
    let lent = set_same items a.id first was in
    let again = slice_set items a.id first in
    let held = c.in-Some-get_mut.queue.now in
    let read = c.in-Some-get_mut.ensures.item in
    let there = ap (λ qs. slice_get qs a.id) (sym lent) ∙ slice_get_read again (length again) a.id held refl read.3.0 read.1 in
    let same : Some first ≡ Some held = sym was ∙ there in
    let now = c.put.new.self in
    let keys = a.self.now.keys in
    let item : Some c.in-Some-end_put.value ≡ Some value = sym c.in-Some-end_put.is ∙ c.end_put.ensures.value a.id value on waits in
    again_put (kept_of a.self.now) a.parts.now c.put.new.parts a.key a.place a.id held queue now there is _ value
    (open_again a.parts.now c.put.new.parts first held now c.in-Some-end_put.value value same item (sym c.is_full.ensures ∙ c.if-is_full.false)
    c.in_ok-put.ensures.after c.in_ok-put.ensures.steps)
    (ap (keyed a.self.now.locks.items a.self.now.events.items (slice_set again a.id now)) c.end_put.ensures.after
    ∙ ap (λ qs. keyed a.self.now.locks.items a.self.now.events.items (slice_set qs a.id now)
    (record { drawn = keys.drawn; waiting = remove_entry (is_place a.place) keys.waiting })) lent) c.nothing-2.result c.nothing-2.ensures
