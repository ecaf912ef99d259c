use Rattle.algorithm_reading.proofs.RowLaws.{term-fits, terms-fit}
use Rattle.algorithm_reading.proofs.reading.operands_fit_where_they_are_not_too_high.Goals as goal

pub returns-clause-one : goal.returns-clause-one
returns-clause-one c = term-fits

pub returns-clause-all : goal.returns-clause-all
returns-clause-all c = terms-fit
