use Rattle.std.proofs.Common.{sym, ap, ◌∙◌}
use Rattle.model_says.specs.Variables.{assigned}
use Rattle.algorithm_locals.specs.Numbered.{holding}
use Rattle.aio_expr.proofs.Variables.{assigned-number}
use Rattle.aio_expr.proofs.env.assign_in.Goals as goal

pub returns : goal.returns
returns c =
    let values = c.args.values.now in
    let value = c.args.value in
    ap (holding 0) c.set_in.ensures
    ∙ sym (assigned-number values c.number.result value)
    ∙ ap (λ local. assigned local value (holding 0 values)) c.number.ensures
