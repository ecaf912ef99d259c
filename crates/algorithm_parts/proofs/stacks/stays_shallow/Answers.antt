use Rattle.algorithm_parts.proofs.OpenLemmas.{down_count, lead_on}
use Rattle.algorithm_parts.proofs.stacks.stays_shallow.Goals as goal

pub returns : goal.returns
returns c = record { count = down_count; onward = lead_on }
