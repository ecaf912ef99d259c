use Rattle.law_heeded.proofs.Starting.{runs_left}
use Rattle.law_heeded.proofs.nobody_else_settles_them.Goals as goal

pub returns : goal.returns
returns c laws = record {
  runs = λ gather sync exec dgram a b e d sound first nothing most program answers part turns.
      runs_left gather sync exec dgram a b e d sound first nothing most program answers part turns;
}
