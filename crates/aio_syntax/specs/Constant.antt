-- A constant of the code as plain data.
use Rattle.std.specs.Rc.{rc_str_bytes, rc_slice_items}
use Rattle.model_tree.specs.Syntax as plain
use Rattle.model_tree.specs.Syntax.{NoneConstant, TruthConstant, IntConstant, TextConstant, BytesConstant}
use Rattle.aio_syntax.specs.declared.constant.Constant.{Constant}
use Rattle.aio_syntax.specs.declared.constant.Constant.TheVariants as constant

abbrev pub constant_of : Constant → plain.Constant
constant_of constant.Nothing = NoneConstant
constant_of (constant.Bool truth) = TruthConstant truth
constant_of (constant.Int number) = IntConstant number
constant_of (constant.Text text) = TextConstant (rc_str_bytes text)
constant_of (constant.Bytes bytes) = BytesConstant (rc_slice_items bytes)
