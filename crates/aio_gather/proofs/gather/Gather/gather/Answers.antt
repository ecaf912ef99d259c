use Rattle.std.proofs.Common.{sym, ap, ◌∙◌, ◌==◌}
use Rattle.std.proofs.lemmas.Result.{IfOk-weaker}
use Rattle.model_value.specs.Value.{Items, no_values, values}
use Rattle.model_machine.specs.Extra.{Answers}
use Rattle.aio_gather.proofs.Drawing.{gather_empty, gather_more}
use Rattle.aio_gather.proofs.gather.Gather.gather.Goals as goal

pub returns-then-is_empty : goal.returns-then-is_empty
returns-then-is_empty c =
    IfOk-weaker c.at_once.result _ _
    (λ asked seen. λ tags. gather_empty tags c.args.self.now _ c.args.parts.now c.args.parts.now asked c.args.as_items c.args.awaited.items
    (ap (λ n. n == 0) (sym c.args.awaited.ok.0) ∙ sym c.is_empty.ensures ∙ c.if-is_empty.true)
    (seen tags (Answers (Items no_values)) (c.in_ok-none.ensures ∙ ap (λ xs. Items (values xs)) c.new.ensures.items))) c.at_once.ensures

pub returns : goal.returns
returns c =
    IfOk-weaker c.gather_some.result _ _
    (λ asked seen. λ tags. gather_more tags c.args.self.now _ c.args.parts.now _ asked c.args.as_items c.args.awaited.items
    (ap (λ n. n == 0) (sym c.args.awaited.ok.0) ∙ sym c.is_empty.ensures ∙ c.if-is_empty.false) (seen tags)) c.gather_some.ensures
