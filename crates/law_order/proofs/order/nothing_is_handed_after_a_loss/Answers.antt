use Rattle.law_walk.proofs.Turning.{below_ordered, run_ordered}
use Rattle.law_order.proofs.Beginning.{is_over}
use Rattle.law_order.proofs.Moving.{over_kept}
use Rattle.law_order.proofs.Walking.{kept_walks}
use Rattle.law_order.proofs.order.nothing_is_handed_after_a_loss.Goals as goal

pub returns : goal.returns
returns c laws = record {
  run = λ limit added turns s whom ordered over.
      run_ordered (kept_walks (over_kept whom _)) limit added turns s (is_over s ordered whom over);
  callbacks = λ limit added bar count s whom ordered over.
      below_ordered (kept_walks (over_kept whom _)) limit added bar count s (is_over s ordered whom over);
}
