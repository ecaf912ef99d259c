use Rattle.std.proofs.Common.{refl}
use Rattle.aio_tally.proofs.TalliedRuns.{at_limit, round_ok, round_on, still_goes, under_way_first}
use Rattle.aio_tally.proofs.tallying.tally_kernel.Goals as goal

pub loop-made-init : goal.loop-made-init
loop-made-init g c = λ kept program begins.
    under_way_first g.X.Extra.added kept program c.args.turns c.args.kernel.now (g.W.Wire.outside.seen c.args.wire.now)
    (record { tasks = 0; calls = 0; said = 0 }) refl refl begins

pub loop-made-preserved : goal.loop-made-preserved
loop-made-preserved g c = λ kept program begins.
    let under = c.loop-made.invariant kept program begins in
    round_on under c.loop-made-test.true (c.in-Ok-None.ensures (still_goes under)) c.in-Ok-None.field-0-is

pub returns-in-Ok-Some : goal.returns-in-Ok-Some
returns-in-Ok-Some g c = λ kept program begins.
    let under = c.loop-made.invariant kept program begins in
    round_ok under c.loop-made-test.true (c.in-Ok-Some.ensures (still_goes under)) c.in-Ok-Some.status c.in-Ok-Some.field-0-is

pub returns : goal.returns
returns g c = λ kept program begins.
    at_limit (c.loop-made.invariant kept program begins) c.loop-made-test.false c.status_at_limit-status.result c.tasks.result
    c.status_at_limit-status.ensures c.tasks.ensures.made
