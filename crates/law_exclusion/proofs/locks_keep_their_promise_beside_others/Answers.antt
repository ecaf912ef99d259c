use Rattle.law_exclusion.proofs.Running.{locks_run}
use Rattle.law_exclusion.proofs.locks_keep_their_promise_beside_others.Goals as goal

pub returns : goal.returns
returns c laws = record {
  runs = λ gather exec dgram a b d e f g sound first unasked nothing most program answers turns.
      locks_run gather exec dgram a b d e f g sound first unasked nothing most program answers turns;
}
