-- Where the first timer's time has not come, no timer's has.
use Rattle.std.proofs.Common.{refl}
use Rattle.aio_timer.proofs.Keeping.{none_due}
use Rattle.aio_timer.proofs.live.Live.pop_due.Goals as goal

pub returns-else-place-now-clause-none : goal.returns-else-place-now-clause-none
returns-else-place-now-clause-none c =
    let none = none_due c.args.now c.args.self.now c.in-Some.place c.in-Some.ensures.first c.if-place-now.false in
    (none.0, none.1, refl)
