-- How deep lists and groups of exceptions nest in a value.
use Rattle.std.specs.Prelude.{ℕ, ◌+◌, max}
use Rattle.model_value.specs.Value.{Value, Nothing, Truth, Int, Text, Bytes, Items, Fut, Task, Group, Timeout, Conn, Server, Child, Errs, Exception, Values}
use Rattle.model_value.specs.Value.{no_values, value_then, Exc, exc, Excs, no_excs, exc_then}

abbrev mutual
  -- a list or an exception is one deeper than its deepest item or member; any other value has no depth
  pub depth_of : Value → ℕ
  depth_of Nothing = 0
  depth_of (Truth truth) = 0
  depth_of (Int number) = 0
  depth_of (Text bytes) = 0
  depth_of (Bytes bytes) = 0
  depth_of (Items items) = 1 + items_depth items
  depth_of (Fut id) = 0
  depth_of (Task id) = 0
  depth_of (Group id) = 0
  depth_of (Timeout id) = 0
  depth_of (Conn id) = 0
  depth_of (Server id) = 0
  depth_of (Child id) = 0
  depth_of (Errs id) = 0
  depth_of (Exception exception) = exc_depth exception

  pub items_depth : Values → ℕ
  items_depth no_values = 0
  items_depth (value_then value others) = max (depth_of value) (items_depth others)

  pub exc_depth : Exc → ℕ
  exc_depth (exc kind text bytes members) = 1 + members_depth members

  pub members_depth : Excs → ℕ
  members_depth no_excs = 0
  members_depth (exc_then first others) = max (exc_depth first) (members_depth others)
