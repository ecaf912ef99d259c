use Rattle.std.proofs.Common.{sym, ap, ◌∙◌}
use Rattle.std.proofs.lemmas.Result.{IfOk-weaker}
use Rattle.model_says.specs.Variables.{held}
use Rattle.algorithm_locals.specs.Numbered.{holding}
use Rattle.aio_expr.proofs.Variables.{held-number}
use Rattle.aio_expr.proofs.env.held_in.Goals as goal

pub returns : goal.returns
returns c =
    let values = c.args.values.now in
    IfOk-weaker c.value_in.result _ _
    (λ value is. is ∙ sym (held-number values c.number.result) ∙ ap (held (holding 0 values)) c.number.ensures)
    c.value_in.ensures
