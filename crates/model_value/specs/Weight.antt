-- How much a value weighs. The bounds on what scripts compute are bounds on this number.
use Rattle.std.specs.Prelude.{ℕ, ◌+◌, length}
use Rattle.model_value.specs.Value.{Value, Nothing, Truth, Int, Text, Bytes, Items, Fut, Task, Group, Timeout, Conn, Server, Child, Errs, Exception, Values}
use Rattle.model_value.specs.Value.{no_values, value_then, Exc, exc, Excs, no_excs, exc_then}

abbrev mutual
  -- one for the value itself, and what it holds
  pub weight_of : Value → ℕ
  weight_of Nothing = 1
  weight_of (Truth truth) = 1
  weight_of (Int number) = 1
  weight_of (Text bytes) = 1 + length bytes
  weight_of (Bytes bytes) = 1 + length bytes
  weight_of (Items items) = 1 + items_weight items
  weight_of (Fut id) = 1
  weight_of (Task id) = 1
  weight_of (Group id) = 1
  weight_of (Timeout id) = 1
  weight_of (Conn id) = 1
  weight_of (Server id) = 1
  weight_of (Child id) = 1
  weight_of (Errs id) = 1
  weight_of (Exception exception) = exc_weight exception

  pub items_weight : Values → ℕ
  items_weight no_values = 0
  items_weight (value_then value others) = weight_of value + items_weight others

  pub exc_weight : Exc → ℕ
  exc_weight (exc kind text bytes members) = 1 + (length text + length bytes) + members_weight members

  pub members_weight : Excs → ℕ
  members_weight no_excs = 0
  members_weight (exc_then first others) = exc_weight first + members_weight others
