use Rattle.law_value.proofs.Equals.{one_value, equal_again}
use Rattle.law_value.proofs.laws.values_are_equal_where_they_are_the_same.Goals as goal

pub returns : goal.returns
returns c = record { same = one_value; reflexive = equal_again }
