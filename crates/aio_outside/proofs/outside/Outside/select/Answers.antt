use Rattle.std.proofs.Common.{◌≡◌, List, subst}
use Rattle.model_wire.specs.declared.call.Call.TheVariants as asked
use Rattle.model_wire.specs.declared.watch.Watch.{Watch}
use Rattle.aio_wire.specs.Replied.{Replied}
use Rattle.aio_outside.specs.Untold.{untold}
use Rattle.aio_outside.proofs.outside.Outside.select.Goals as goal

pub returns-clause-replied : goal.returns-clause-replied
returns-clause-replied g c =
    let seen = g.W.Wire.outside.seen in
    let listed = c.items.ensures in
    let copied = c.in_ok-from_slice.ensures.items in
    let own = c.of-own.ensures in
    let same : c.of-own.result ≡ c.args.watch.now = cc in
    subst
    (λ (w : List Watch). Replied (asked.Select c.args.wait w) (untold (seen c.args.self.now.wire))
    (untold (seen c.select_for.new.self.wire)) c.in_ok-reply.reply)
    same (c.in_ok-reply.ensures.replied c.args.wait)
