use Rattle.law_promises.proofs.ToldStays.{calls_all, leaves_none, told_again}
use Rattle.law_promises.proofs.woken.who_waits_is_woken_once.Goals as goal

pub returns : goal.returns
returns c = record {
  told = calls_all;
  none_left = leaves_none;
  again = λ id outcome other p. told_again p id outcome other;
}
