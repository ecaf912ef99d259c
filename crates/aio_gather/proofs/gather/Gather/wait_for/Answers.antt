use Rattle.std.proofs.Common.{◌+◌, length, sym, ap, ◌∙◌}
use Rattle.std.specs.Prelude.{if◌then◌else◌}
use Rattle.std.proofs.lemmas.Result.{IfOk-weaker}
use Rattle.model_machine.specs.Extra.{Raises}
use Rattle.model_reach.specs.Part.{can_draw}
use Rattle.model_gather.specs.Gathered.{gather_part}
use Rattle.model_gather.specs.Wait.{one_if_some}
use Rattle.model_gather.specs.WaitFor.{bad_timeout, wait_for_all}
use Rattle.aio_extra.specs.declared.asked.Asked.TheVariants.{Raise}
use Rattle.aio_gather.specs.Kept.{kept_of}
use Rattle.aio_gather.specs.Seen.{timed}
use Rattle.aio_gather.proofs.Drawing.{drawn_so, one_so, raises_so, undrawn_so, wait_for_not, wait_for_so}
use Rattle.aio_gather.proofs.gather.Gather.wait_for.Goals as goal

pub returns-then-not-may_time : goal.returns-then-not-may_time
returns-then-not-may_time c =
    IfOk-weaker c.at_once.result _ _
    (λ asked seen. λ tags next tag. wait_for_not tags c.args.self.now _ c.args.parts.now _ (timed next c.args.parts.now) asked c.args.task c.args.on
    c.args.delay (sym c.may_time.ensures ∙ c.if-not-may_time.true)
    (seen tags (Raises bad_timeout) (raises_so c.in_ok-refusal.refusal bad_timeout c.in_ok-refusal.ensures))) c.at_once.ensures

pub returns-then-not-can_draw : goal.returns-then-not-can_draw
returns-then-not-can_draw c = λ tags next tag.
    let one = ap (λ b. if b then 1 else 0) c.is_some.ensures ∙ one_so c.args.delay in
    let can = c.can_draw.ensures ∙ ap (λ n. can_draw gather_part (length c.args.self.now.drawn.items) (1 + n)) one in
    wait_for_so tags c.args.self.now c.args.self.now c.args.parts.now c.args.parts.now (timed next c.args.parts.now) _ c.args.task c.args.on c.args.delay
    (sym c.may_time.ensures ∙ c.if-not-may_time.false)
    (undrawn_so tags c.args.self.now c.args.parts.now _ (1 + one_if_some c.args.delay)
    (wait_for_all c.args.task c.args.on c.args.delay (timed next c.args.parts.now) (kept_of tags c.args.self.now))
    (sym can ∙ c.if-not-can_draw.true) (ap Raise c.in_ok-out_of_range.ensures))

pub returns : goal.returns
returns c =
    let one = ap (λ b. if b then 1 else 0) c.is_some.ensures ∙ one_so c.args.delay in
    let can = c.can_draw.ensures ∙ ap (λ n. can_draw gather_part (length c.args.self.now.drawn.items) (1 + n)) one in
    IfOk-weaker c.wait_for_all.result _ _
    (λ asked seen. λ tags next tag. wait_for_so tags c.args.self.now _ c.args.parts.now _ (timed next c.args.parts.now) asked c.args.task c.args.on
    c.args.delay (sym c.may_time.ensures ∙ c.if-not-may_time.false)
    (drawn_so tags c.args.self.now _ c.args.parts.now _ asked (1 + one_if_some c.args.delay)
    (wait_for_all c.args.task c.args.on c.args.delay (timed next c.args.parts.now) (kept_of tags c.args.self.now))
    (sym can ∙ c.if-not-can_draw.false) (seen tags next tag))) c.wait_for_all.ensures
