use Rattle.law_stream.proofs.ChildEnds.{over_unwatched, row_over, step_over}
use Rattle.law_stream.proofs.children.children_over_stay_over.Goals as goal

pub returns-clause-one : goal.returns-clause-one
returns-clause-one g id step p sound may e = step_over id p sound e step may

pub returns-clause-row : goal.returns-clause-row
returns-clause-row g = row_over

pub returns-clause-unwatched : goal.returns-clause-unwatched
returns-clause-unwatched g = over_unwatched
