use Rattle.law_reach.proofs.Rows.{row_closed}
use Rattle.law_reach.proofs.reach.nothing_opens_by_itself.Goals as goal

pub returns : goal.returns
returns g c = λ s t row closed. row_closed row closed
