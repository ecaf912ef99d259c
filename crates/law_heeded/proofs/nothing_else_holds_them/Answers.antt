use Rattle.law_heeded.proofs.Starting.{runs_apart}
use Rattle.law_heeded.proofs.nothing_else_holds_them.Goals as goal

pub returns : goal.returns
returns c laws = record {
  runs = λ added owns keeps most state program answers turns nothing. runs_apart added owns keeps most state program answers turns nothing;
}
