use Rattle.std.proofs.Common.{◌≡◌, Some, None, length, refl, slice_set, sym, ap, ◌∙◌}
use Rattle.std.proofs.lemmas.Option.{slice_get_read}
use Rattle.aio_sync.specs.Seen.{kept_of}
use Rattle.std.proofs.lemmas.Result.{IfOk-weaker}
use Rattle.aio_sync.proofs.Again.{keyed, getting_lent, getting_throws}
use Rattle.aio_sync.proofs.Seeing.{getters_free}
use Rattle.aio_sync.proofs.requests.Sync.getting.Goals as goal

pub leave_getters-requires-clause-free : goal.leave_getters-requires-clause-free
leave_getters-requires-clause-free c =
    let a = c.args in
    let items = a.self.now.queues.items in
    let held = c.in-Some.queue.now in
    let read = c.in-Some.ensures.item in
    let there = slice_get_read items (length items) a.id held refl read.3.0 read.1 in
    getters_free a.parts.now.futures (kept_of a.self.now) c.requires.free a.id held there

pub returns-in-Send : goal.returns-in-Send
returns-in-Send c =
    let a = c.args in
    let items = a.self.now.queues.items in
    let held = c.in-Some.queue.now in
    let read = c.in-Some.ensures.item in
    let there = slice_get_read items (length items) a.id held refl read.3.0 read.1 in
    let call = c.get_again in
    IfOk-weaker call.result _ _
    (λ asked seen. λ waits.
    getting_lent a.self.now.locks.items a.self.now.events.items items a.self.now.keys (kept_of call.new.self) a.parts.now call.new.parts a.key a.place a.id a.on
    asked held there c.in-Send.value a.input c.in-Send.is (λ queue is. seen a.on queue waits is)) call.ensures

pub returns-in-Throw : goal.returns-in-Throw
returns-in-Throw c =
    let a = c.args in
    let items = a.self.now.queues.items in
    let held = c.in-Some.queue.now in
    let read = c.in-Some.ensures.item in
    let there = slice_get_read items (length items) a.id held refl read.3.0 read.1 in
    λ e. getting_throws (kept_of a.self.now) _ a.parts.now c.leave_getters.new.parts a.place a.id a.on _ held c.leave_getters.new.self there
    (ap (keyed a.self.now.locks.items a.self.now.events.items (slice_set items a.id c.leave_getters.new.self)) c.end.ensures) a.key c.in-Throw.fault
    c.leave_getters.ensures.after c.leave_getters.ensures.steps refl a.input c.in-Throw.is
