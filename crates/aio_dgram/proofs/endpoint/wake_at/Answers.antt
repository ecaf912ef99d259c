use Rattle.std.proofs.Common.{sym, ◌∙◌}
use Rattle.aio_dgram.specs.Keeps.{own_in}
use Rattle.aio_dgram.proofs.Woken.{free_at, still_free}
use Rattle.aio_dgram.proofs.endpoint.wake_at.Goals as goal

pub wake-requires-clause-free : goal.wake-requires-clause-free
wake-requires-clause-free c =
    let a = c.args in
    free_at a.parts.now.futures a.waiting.now.entries a.place c.in-Some.it.now (sym c.in-Some.ensures.value) c.requires.free c.in-Some-future.on
    (sym c.future.ensures ∙ c.in-Some-future.is)

pub returns-in-Some-future-clause-free : goal.returns-in-Some-future-clause-free
returns-in-Some-future-clause-free c =
    let a = c.args in
    still_free a.parts.now c.wake.new.parts c.in-Some-future.on (own_in a.waiting.now.entries) c.wake.ensures c.requires.free
