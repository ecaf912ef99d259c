use Rattle.std.proofs.Common.{sym, ◌∙◌, ap, subst}
use Rattle.model_value.specs.Value.{Text}
use Rattle.model_says.specs.Operations.{bounded}
use Rattle.aio_expr.specs.Gives.{Gives}
use Rattle.aio_expr.proofs.Decoded.{decoded-utf8, decoded-other}
use Rattle.aio_expr.proofs.functions.decoded.Goals as goal

pub returns-in-Ok : goal.returns-in-Ok
returns-in-Ok c =
    let read = c.in-Ok.ensures.cases in
    subst (λ answer. Gives answer c.text_value.result) (ap (λ t. bounded (Text t)) read.0 ∙ sym (decoded-utf8 c.args.bytes.now read.1)) c.text_value.ensures

pub returns-in-Err : goal.returns-in-Err
returns-in-Err c = decoded-other c.args.bytes.now c.in-Err.ensures.cases.0
