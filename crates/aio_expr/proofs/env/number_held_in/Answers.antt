use Rattle.std.proofs.Common.{sym, ap, ◌∙◌}
use Rattle.std.proofs.lemmas.Option.{IfSome_then}
use Rattle.model_says.specs.Variables.{held}
use Rattle.algorithm_locals.specs.Numbered.{holding}
use Rattle.aio_expr.proofs.Variables.{held-number}
use Rattle.aio_expr.proofs.env.number_held_in.Goals as goal

pub returns : goal.returns
returns c =
    let values = c.args.values.now in
    IfSome_then c.number_in.result c.number_in.ensures
    (λ found is. ap (held (holding 0 values)) (sym c.number.ensures) ∙ held-number values c.number.result ∙ is)
