use Rattle.law_hub.proofs.Counted.{all_counted}
use Rattle.law_hub.proofs.calls.failures_are_counted.Goals as goal

pub returns : goal.returns
returns c = all_counted
