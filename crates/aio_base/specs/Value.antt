-- How a value of the code is seen as plain data.
use Rattle.std.specs.Rc.{rc_str_bytes, rc_slice_items}
use Rattle.model_value.specs.Value.{Value, Nothing, Truth, Int, Text, Bytes, Items, Fut, Task, Group, Timeout, Conn, Server, Child, Errs, Exception, values}
use Rattle.aio_base.specs.declared.value.ValueNode.{ValueNode}
use Rattle.aio_base.specs.declared.value.ValueNode.TheVariants as node

abbrev pub value_of : ValueNode → Value
value_of node.Nothing = Nothing
value_of (node.Bool truth) = Truth truth
value_of (node.Int number) = Int number
value_of (node.Text text) = Text (rc_str_bytes text)
value_of (node.Bytes bytes) = Bytes (rc_slice_items bytes)
value_of (node.List list) = Items (values list.value)
value_of (node.Fut id) = Fut id
value_of (node.Task id) = Task id
value_of (node.Group id) = Group id
value_of (node.Timeout id) = Timeout id
value_of (node.Conn id) = Conn id
value_of (node.Server id) = Server id
value_of (node.Child id) = Child id
value_of (node.Errs id) = Errs id
value_of (node.Exc fault) = Exception fault
