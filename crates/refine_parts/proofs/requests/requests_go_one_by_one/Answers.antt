use Rattle.refine_parts.proofs.Requesting.{each_one}
use Rattle.refine_parts.proofs.requests.requests_go_one_by_one.Goals as goal

pub returns : goal.returns
returns c = each_one
