use Rattle.aio_body.proofs.Telling.{awaited_named, awaited_stays, future_named}
use Rattle.aio_body.proofs.laws.values.values_name_the_same.Goals as goal

pub returns-clause-future : goal.returns-clause-future
returns-clause-future g c = future_named

pub returns-clause-awaited : goal.returns-clause-awaited
returns-clause-awaited g c = awaited_named

pub returns-clause-there : goal.returns-clause-there
returns-clause-there g c = awaited_stays
