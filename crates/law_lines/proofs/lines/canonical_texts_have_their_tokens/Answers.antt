use Rattle.law_lines.proofs.LineReads.{expr-tokens, line-tokens}
use Rattle.law_lines.proofs.lines.canonical_texts_have_their_tokens.Goals as goal

pub returns-clause-expression : goal.returns-clause-expression
returns-clause-expression c = expr-tokens

pub returns-clause-line : goal.returns-clause-line
returns-clause-line c = line-tokens
