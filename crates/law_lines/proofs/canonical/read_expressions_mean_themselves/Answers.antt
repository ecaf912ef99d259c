use Rattle.law_lines.proofs.Meanings.{meant}
use Rattle.law_lines.proofs.canonical.read_expressions_mean_themselves.Goals as goal

pub returns : goal.returns
returns c = meant
