use Rattle.law_canonical.proofs.Bodies.{accepted-spelled}
use Rattle.law_canonical.proofs.nesting.accepted_lines_spell_their_statements.Goals as goal

pub returns : goal.returns
returns c = accepted-spelled
