use Rattle.law_lines.proofs.Facts.{expression-read}
use Rattle.law_lines.proofs.canonical.canonical_expressions_are_read.Goals as goal

pub returns : goal.returns
returns c = expression-read
