use Rattle.std.proofs.Common.{sym, ◌∙◌}
use Rattle.aio_gather.proofs.Drawing.{once_so}
use Rattle.aio_gather.proofs.gather.Gather.at_once.Goals as goal

pub returns-in-Ok : goal.returns-in-Ok
returns-in-Ok c = λ tags said says.
    once_so tags c.args.self.now (record { drawn = c.push.new.self }) c.args.parts.now c.args.answer said says
    (sym c.can_draw.ensures ∙ c.if-not-can_draw.false) c.in-Ok.ensures.items
