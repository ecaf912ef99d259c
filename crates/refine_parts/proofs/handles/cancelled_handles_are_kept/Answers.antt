use Rattle.refine_parts.proofs.Running.{keeps_cancelled}
use Rattle.refine_parts.proofs.handles.cancelled_handles_are_kept.Goals as goal

pub returns : goal.returns
returns c = keeps_cancelled
