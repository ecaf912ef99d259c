use Rattle.law_canonical.proofs.Whole.{canonical-again, one-program}
use Rattle.law_canonical.proofs.programs.canonical_texts_spell_their_programs.Goals as goal

pub returns-clause-spells : goal.returns-clause-spells
returns-clause-spells c = canonical-again

pub returns-clause-one : goal.returns-clause-one
returns-clause-one c = one-program
