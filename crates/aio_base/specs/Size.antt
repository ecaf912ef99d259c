-- How many values and exceptions stand inside a value: what falls in each recursion over values.
use Rattle.std.specs.Prelude.{ℕ, ◌+◌, List}
use Rattle.model_value.specs.Value.{Value, Items, Exception, Values, no_values, value_then, Exc, exc, Excs, no_excs, exc_then, values, excs}

abbrev mutual
  pub value_size : Value → ℕ
  value_size (Items items) = 1 + items_size items
  value_size (Exception fault) = 1 + exc_size fault
  value_size _ = 0

  pub items_size : Values → ℕ
  items_size no_values = 0
  items_size (value_then value others) = 1 + value_size value + items_size others

  pub exc_size : Exc → ℕ
  exc_size (exc kind text bytes members) = 1 + members_size members

  pub members_size : Excs → ℕ
  members_size no_excs = 0
  members_size (exc_then first others) = 1 + exc_size first + members_size others

-- a list is larger than each of its items
abbrev pub list_size : List Value → ℕ
list_size items = items_size (values items)

abbrev pub excs_size : List Exc → ℕ
excs_size members = members_size (excs members)
