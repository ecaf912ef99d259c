use Rattle.model_machine.specs.Extra.{no_extra}
use Rattle.model_reach.specs.Reach.{OfDgram, OfExec, OfSync}
use Rattle.law_waiters.proofs.Asking.{asks_beside, nothing_keeps}
use Rattle.law_waiters.proofs.timed.a_wait_for_asks_once.Goals as goal

pub returns : goal.returns
returns c laws = record {
  alone = λ most limit program answers turns.
      asks_beside no_extra no_extra no_extra (nothing_keeps OfSync) (nothing_keeps OfExec) (nothing_keeps OfDgram) tt tt tt most limit program
      answers turns;
  beside_others = asks_beside;
}
