use Rattle.std.proofs.Common.{◌≡◌, Some, None, length, refl, slice_set, sym, ap, ◌∙◌}
use Rattle.std.proofs.lemmas.Option.{slice_get_read}
use Rattle.aio_sync.specs.Seen.{kept_of}
use Rattle.aio_sync.proofs.Again.{acquired_sends, acquired_throws, keyed}
use Rattle.aio_sync.proofs.Seeing.{lock_free}
use Rattle.aio_sync.proofs.requests.Sync.acquired.Goals as goal

pub give_up-requires-clause-free : goal.give_up-requires-clause-free
give_up-requires-clause-free c =
    let a = c.args in
    let items = a.self.now.locks.items in
    let held = c.in-Some.lock.now in
    let read = c.in-Some.ensures.item in
    let there = slice_get_read items (length items) a.id held refl read.3.0 read.1 in
    lock_free a.parts.now.futures (kept_of a.self.now) c.requires.free a.id held there

pub returns-in-Send : goal.returns-in-Send
returns-in-Send c =
    let a = c.args in
    let items = a.self.now.locks.items in
    let held = c.in-Some.lock.now in
    let read = c.in-Some.ensures.item in
    let there = slice_get_read items (length items) a.id held refl read.3.0 read.1 in
    acquired_sends (kept_of a.self.now) _ a.parts.now a.parts.now a.place a.id a.on _ held c.taken.new.self there
    (ap (keyed (slice_set items a.id c.taken.new.self) a.self.now.events.items a.self.now.queues.items) c.end.ensures) c.in-Send.value c.taken.ensures refl
    c.bool.result refl c.bool.ensures a.input c.in-Send.is

pub returns-in-Throw : goal.returns-in-Throw
returns-in-Throw c =
    let a = c.args in
    let items = a.self.now.locks.items in
    let held = c.in-Some.lock.now in
    let read = c.in-Some.ensures.item in
    let there = slice_get_read items (length items) a.id held refl read.3.0 read.1 in
    acquired_throws (kept_of a.self.now) _ a.parts.now c.give_up.new.parts a.place a.id a.on _ held c.give_up.new.self there
    (ap (keyed (slice_set items a.id c.give_up.new.self) a.self.now.events.items a.self.now.queues.items) c.end-in-Throw.ensures) c.in-Throw.fault
    c.is_cancelled.result c.is_cancelled.ensures c.give_up.ensures.after c.give_up.ensures.steps refl a.input c.in-Throw.is
