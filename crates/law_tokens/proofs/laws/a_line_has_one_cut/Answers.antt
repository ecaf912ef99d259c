use Rattle.law_tokens.proofs.CutLemmas.{Cuts-pieces_of, Cuts-one}
use Rattle.law_tokens.proofs.laws.a_line_has_one_cut.Goals as goal

pub returns-clause-cut : goal.returns-clause-cut
returns-clause-cut c = Cuts-pieces_of

pub returns-clause-one : goal.returns-clause-one
returns-clause-one c = Cuts-one
