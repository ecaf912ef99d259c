use Rattle.law_canonical.proofs.Texts.{program-texts}
use Rattle.law_canonical.proofs.programs.canonical_texts_are_lines.Goals as goal

pub returns : goal.returns
returns c = program-texts
