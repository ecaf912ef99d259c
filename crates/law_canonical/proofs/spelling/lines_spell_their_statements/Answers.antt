use Rattle.law_canonical.proofs.BodyLemmas.{spelled-read, spelled-body}
use Rattle.law_canonical.proofs.spelling.lines_spell_their_statements.Goals as goal

pub returns-clause-read : goal.returns-clause-read
returns-clause-read c = spelled-read

pub returns-clause-body : goal.returns-clause-body
returns-clause-body c = spelled-body
