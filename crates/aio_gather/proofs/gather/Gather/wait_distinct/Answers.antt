use Rattle.std.proofs.Common.{◌+◌, length, map, sym, ap, ◌∙◌}
use Rattle.std.specs.Prelude.{if◌then◌else◌}
use Rattle.std.proofs.lemmas.List.{length-map}
use Rattle.std.proofs.lemmas.Result.{IfOk-weaker}
use Rattle.model_reach.specs.Part.{can_draw}
use Rattle.model_gather.specs.Gathered.{Argument, futures_of, gather_part}
use Rattle.model_gather.specs.Wait.{one_if_some, wait_all}
use Rattle.aio_extra.specs.declared.asked.Asked.TheVariants.{Raise}
use Rattle.aio_gather.specs.Kept.{argument_as, kept_of, mode_as}
use Rattle.aio_gather.specs.Seen.{timed}
use Rattle.aio_gather.proofs.Drawing.{drawn_so, one_so, undrawn_so}
use Rattle.aio_gather.proofs.gather.Gather.wait_distinct.Goals as goal

pub returns-then-not-can_draw : goal.returns-then-not-can_draw
returns-then-not-can_draw c = λ tags next tag.
    let those = map argument_as c.args.arguments.items in
    let count = c.count_of.ensures
    ∙ ap length (c.as_slice-2.ensures.value ∙ c.in_ok-waited.ensures ∙ ap (λ xs. futures_of (map argument_as xs)) c.as_slice.ensures.value)
    ∙ length-map those (λ (it : Argument). it.future) in
    let one = ap (λ b. if b then 1 else 0) c.is_some.ensures ∙ one_so c.args.delay in
    let can = c.can_draw.ensures
    ∙ ap (λ n. can_draw gather_part (length c.args.self.now.drawn.items) (1 + n + (if c.is_some.result then 1 else 0))) count
    ∙ ap (λ n. can_draw gather_part (length c.args.self.now.drawn.items) (1 + length those + n)) one in
    undrawn_so tags c.args.self.now c.args.parts.now _ (1 + length those + one_if_some c.args.delay)
    (wait_all (mode_as c.args.mode) c.args.delay those (timed next c.args.parts.now) (kept_of tags c.args.self.now))
    (sym can ∙ c.if-not-can_draw.true) (ap Raise c.in_ok-out_of_range.ensures)

pub returns : goal.returns
returns c =
    let those = map argument_as c.args.arguments.items in
    let count = c.count_of.ensures
    ∙ ap length (c.as_slice-2.ensures.value ∙ c.in_ok-waited.ensures ∙ ap (λ xs. futures_of (map argument_as xs)) c.as_slice.ensures.value)
    ∙ length-map those (λ (it : Argument). it.future) in
    let one = ap (λ b. if b then 1 else 0) c.is_some.ensures ∙ one_so c.args.delay in
    let can = c.can_draw.ensures
    ∙ ap (λ n. can_draw gather_part (length c.args.self.now.drawn.items) (1 + n + (if c.is_some.result then 1 else 0))) count
    ∙ ap (λ n. can_draw gather_part (length c.args.self.now.drawn.items) (1 + length those + n)) one in
    IfOk-weaker c.wait_all.result _ _
    (λ asked seen. λ tags next tag. drawn_so tags c.args.self.now _ c.args.parts.now _ asked (1 + length those + one_if_some c.args.delay)
    (wait_all (mode_as c.args.mode) c.args.delay those (timed next c.args.parts.now) (kept_of tags c.args.self.now))
    (sym can ∙ c.if-not-can_draw.false) (seen tags next tag)) c.wait_all.ensures
