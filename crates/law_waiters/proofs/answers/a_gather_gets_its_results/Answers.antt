use Rattle.std.proofs.Common.{refl}
use Rattle.law_waiters.proofs.Counting.{count_decides, in_order, settles_once}
use Rattle.law_waiters.proofs.answers.a_gather_gets_its_results.Goals as goal

pub returns : goal.returns
returns c = record {
  counts = count_decides;
  fewer = λ p asked member it. refl;
  in_order = in_order;
  first = settles_once;
}
