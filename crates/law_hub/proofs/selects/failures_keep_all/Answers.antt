use Rattle.law_hub.proofs.Kept.{failed_select_line}
use Rattle.law_hub.proofs.selects.failures_keep_all.Goals as goal

pub returns : goal.returns
returns c = failed_select_line
