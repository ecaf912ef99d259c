use Rattle.std.proofs.Common.{subst, sym}
use Rattle.model_text.specs.SecondPass.{line_meant}
use Rattle.script_term.specs.Spelled.{plain_spelled}
use Rattle.aio_program.specs.Line.{plain_line}
use Rattle.script_naming.specs.Gives.{Gives}
use Rattle.script_naming.proofs.line.line_meant.Goals as goal

pub returns-in-WithTimeout : goal.returns-in-WithTimeout
returns-in-WithTimeout c =
    subst (λ form. Gives plain_line (line_meant c.args.scope.now (plain_spelled form)) c.with_timeout.result) (sym c.in-WithTimeout.is) c.with_timeout.ensures
