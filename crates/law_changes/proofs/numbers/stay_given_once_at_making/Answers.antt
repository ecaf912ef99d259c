use Rattle.law_changes.proofs.Falling.{new_plain_numbers, new_many_numbers, spawn_numbers}
use Rattle.law_changes.proofs.numbers.stay_given_once_at_making.Goals as goal

pub returns-clause-plain : goal.returns-clause-plain
returns-clause-plain c = new_plain_numbers

pub returns-clause-many : goal.returns-clause-many
returns-clause-many c = new_many_numbers

pub returns-clause-spawn : goal.returns-clause-spawn
returns-clause-spawn c = spawn_numbers
