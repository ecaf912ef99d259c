use Rattle.std.proofs.Common.{◌≤◌, length, sym, ap, arith}
use Rattle.model_loop.specs.Timeouts.{has_expired}
use Rattle.aio_timeout.proofs.Keeping.{timeouts_count}
use Rattle.aio_serve.proofs.Timing.{unmade_is}
use Rattle.aio_serve.proofs.timeouts.has_expired.Goals as goal

pub returns-then-id-count : goal.returns-then-id-count
returns-then-id-count g c = λ t l are.
    let count = timeouts_count t l.parts c.args.body.now.timeouts l.timeouts are in
    let past : length l.timeouts ≤ c.args.id = omega (arith, count, c.count.ensures, c.if-id-count.true) in
    sym (ap has_expired (unmade_is l c.args.id past))

pub expired-requires : goal.expired-requires
expired-requires g c = record { live = omega (arith, c.count.ensures, c.if-id-count.false) }

pub returns : goal.returns
returns g c = c.expired.ensures.answer
