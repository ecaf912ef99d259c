use Rattle.law_promises.proofs.ToldStays.{run_stays}
use Rattle.law_promises.proofs.Turning.{run_done}
use Rattle.law_promises.proofs.woken.what_is_told_stays.Goals as goal

pub returns : goal.returns
returns c laws = record {
  run = run_done;
  row = λ s t row. run_stays row;
}
