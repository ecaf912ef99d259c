-- The value that a case, with what it lends, stands for.
use Rattle.std.specs.Rc.{rc_str_bytes, rc_slice_items}
use Rattle.model_value.specs.Value.{Value, Nothing, Truth, Int, Text, Bytes, Items, Fut, Task, Group, Timeout, Conn, Server, Child, Errs, Exception, values}
use Rattle.aio_base.specs.declared.value.ValueCase.{ValueCase}
use Rattle.aio_base.specs.declared.value.ValueCase.TheVariants as case

abbrev pub value_of_case : ValueCase → Value
value_of_case case.Nothing = Nothing
value_of_case (case.Bool truth) = Truth truth
value_of_case (case.Int number) = Int number
value_of_case (case.Text text) = Text (rc_str_bytes text.now)
value_of_case (case.Bytes bytes) = Bytes (rc_slice_items bytes.now)
value_of_case (case.List list) = Items (values list.now.value)
value_of_case (case.Fut id) = Fut id
value_of_case (case.Task id) = Task id
value_of_case (case.Group id) = Group id
value_of_case (case.Timeout id) = Timeout id
value_of_case (case.Conn id) = Conn id
value_of_case (case.Server id) = Server id
value_of_case (case.Child id) = Child id
value_of_case (case.Errs id) = Errs id
value_of_case (case.Exc fault) = Exception fault.now
