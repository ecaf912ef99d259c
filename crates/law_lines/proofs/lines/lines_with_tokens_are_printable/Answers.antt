use Rattle.law_lines.proofs.Printable.{tokens-allowed, line-allowed}
use Rattle.law_lines.proofs.lines.lines_with_tokens_are_printable.Goals as goal

pub returns-clause-allowed : goal.returns-clause-allowed
returns-clause-allowed c = tokens-allowed

pub returns-clause-canonical : goal.returns-clause-canonical
returns-clause-canonical c = line-allowed
