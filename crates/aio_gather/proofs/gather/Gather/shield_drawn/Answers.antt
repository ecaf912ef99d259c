use Rattle.std.proofs.Common.{sym, ap, ◌∙◌}
use Rattle.std.proofs.lemmas.Result.{IfOk-weaker}
use Rattle.model_gather.specs.Shield.{shield_open}
use Rattle.aio_task.specs.View.{parts}
use Rattle.aio_extra.specs.declared.asked.Asked.TheVariants.{Raise}
use Rattle.aio_gather.specs.Kept.{kept_of}
use Rattle.aio_gather.proofs.Drawing.{drawn_so, undrawn_so}
use Rattle.aio_gather.proofs.gather.Gather.shield_drawn.Goals as goal

pub returns-then-not-can_draw : goal.returns-then-not-can_draw
returns-then-not-can_draw c = λ tags.
    undrawn_so tags c.args.self.now c.args.parts.now _ 2 (shield_open c.args.inner (parts c.args.parts.now) (kept_of tags c.args.self.now))
    (sym c.can_draw.ensures ∙ c.if-not-can_draw.true) (ap Raise c.in_ok-out_of_range.ensures)

pub returns : goal.returns
returns c =
    IfOk-weaker c.shield_open.result _ _
    (λ asked seen. λ tags. drawn_so tags c.args.self.now c.shield_open.new.self c.args.parts.now c.shield_open.new.parts asked 2
    (shield_open c.args.inner (parts c.args.parts.now) (kept_of tags c.args.self.now)) (sym c.can_draw.ensures ∙ c.if-not-can_draw.false) (seen tags))
    c.shield_open.ensures
