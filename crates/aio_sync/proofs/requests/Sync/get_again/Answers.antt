use Rattle.std.proofs.Common.{◌≡◌, Some, None, length, refl, slice_set, sym, ap, subst, ◌∙◌}
use Rattle.std.proofs.lemmas.Option.{slice_get_read}
use Rattle.model_sync.specs.Synced.{Gets, Puts}
use Rattle.aio_sync.specs.Drawn.{Drawn}
use Rattle.aio_sync.specs.Seen.{kept_of}
use Rattle.aio_sync.proofs.Again.{again_got, again_waiting, keyed}
use Rattle.aio_sync.proofs.Seeing.{getters_free, putters_free}
use Rattle.aio_sync.proofs.requests.Sync.get_again.Goals as goal

pub get-requires-clause-getters : goal.get-requires-clause-getters
get-requires-clause-getters c =
    let a = c.args in
    let items = a.self.now.queues.items in
    let held = c.in-Some.queue.now in
    let read = c.in-Some.ensures.item in
    let there = slice_get_read items (length items) a.id held refl read.3.0 read.1 in
    getters_free a.parts.now.futures (kept_of a.self.now) c.requires.free a.id held there

pub get-requires-clause-putters : goal.get-requires-clause-putters
get-requires-clause-putters c =
    let a = c.args in
    let items = a.self.now.queues.items in
    let held = c.in-Some.queue.now in
    let read = c.in-Some.ensures.item in
    let there = slice_get_read items (length items) a.id held refl read.3.0 read.1 in
    putters_free a.parts.now.futures (kept_of a.self.now) c.requires.free a.id held there

pub returns-in-Value : goal.returns-in-Value
returns-in-Value c = λ on queue waits is.
    let a = c.args in
    let items = a.self.now.queues.items in
    let held = c.in-Some.queue.now in
    let read = c.in-Some.ensures.item in
    let there = slice_get_read items (length items) a.id held refl read.3.0 read.1 in
    again_got (kept_of a.self.now) a.parts.now c.get.new.parts a.key a.place a.id held queue c.get.new.self there is _ c.in_ok-value.field-0
    c.in-Value.value c.in-Value.is c.in_ok-value.ensures
    (ap (keyed a.self.now.locks.items a.self.now.events.items (slice_set items a.id c.get.new.self)) c.end.ensures)

pub returns-in-Waits : goal.returns-in-Waits
returns-in-Waits c = λ on queue waits is.
    let a = c.args in
    let items = a.self.now.queues.items in
    let held = c.in-Some.queue.now in
    let read = c.in-Some.ensures.item in
    let there = slice_get_read items (length items) a.id held refl read.3.0 read.1 in
    again_waiting (kept_of a.self.now) a.parts.now c.get.new.parts a.key a.place a.id held queue c.get.new.self there is _ c.in_ok-value.field-0
    c.in-Waits.on c.in-Waits.is c.in_ok-value.ensures
    (ap (keyed a.self.now.locks.items a.self.now.events.items (slice_set items a.id c.get.new.self)) (c.wait_on.ensures (Gets a.id on) waits))
