use Rattle.law_apart.proofs.Callbacks.{first_on}
use Rattle.law_apart.proofs.callbacks_leave_what_is_not_the_loops.Goals as goal

pub returns : goal.returns
returns c laws = record {
  callback = λ ours made below limit added handle rest s first other a.
      let b = first_on ours made below limit added handle rest s first other a in record { apart = b.apart; leaves = b.leaves };
}
