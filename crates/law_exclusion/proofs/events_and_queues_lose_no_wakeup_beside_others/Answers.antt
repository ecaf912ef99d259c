use Rattle.law_exclusion.proofs.Running.{wakeups_run}
use Rattle.law_exclusion.proofs.events_and_queues_lose_no_wakeup_beside_others.Goals as goal

pub returns : goal.returns
returns c laws = record {
  runs = λ gather exec dgram a b d e f g sound first unasked nothing most program answers turns.
      wakeups_run gather exec dgram a b d e f g sound first unasked nothing most program answers turns;
}
