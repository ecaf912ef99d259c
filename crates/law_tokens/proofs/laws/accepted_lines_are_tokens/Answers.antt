use Rattle.law_tokens.proofs.LineLemmas.{Reads-tokens_of, tokens_of-Reads}
use Rattle.law_tokens.proofs.laws.accepted_lines_are_tokens.Goals as goal

pub returns-clause-read : goal.returns-clause-read
returns-clause-read c = Reads-tokens_of

pub returns-clause-accepted : goal.returns-clause-accepted
returns-clause-accepted c = tokens_of-Reads
