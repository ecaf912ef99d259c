-- The meaning of an expression: its value, or the first exception from the left.
-- Source: the language reference, "Expressions", "Evaluation order".
use Rattle.std.specs.Prelude.{true, false, List, [], ◌∷◌, Result, Ok, Err}
use Rattle.model_value.specs.Value.{Value, Nothing, Truth, Int, Text, Bytes, Items, Exc, values}
use Rattle.model_tree.specs.Syntax.{Constant, NoneConstant, TruthConstant, IntConstant, TextConstant, BytesConstant, Expr, Or, And, Not, Compare, Calculate}
use Rattle.model_tree.specs.Syntax.{Negate, Index, Literal, Variable, ListOf, Apply, MakeError, Exprs, no_exprs, expr_then}
use Rattle.model_says.specs.Variables.{Env, held}
use Rattle.model_says.specs.Operations.{ValueOrException, bad_operand, bounded, truth, negation, calculated, negative, compared, indexed, applied, error_made}

abbrev pub constant_value : Constant → Value
constant_value NoneConstant = Nothing
constant_value (TruthConstant t) = Truth t
constant_value (IntConstant number) = Int number
constant_value (TextConstant bytes) = Text bytes
constant_value (BytesConstant bytes) = Bytes bytes

-- an operation on a value that may be missing
abbrev pub of_one : (Value → ValueOrException) → ValueOrException → ValueOrException
of_one operation (Ok value) = operation value
of_one operation (Err exception) = Err exception

-- an operation on two values, of which the left one comes first
abbrev pub of_two : (Value → Value → ValueOrException) → ValueOrException → ValueOrException → ValueOrException
of_two operation (Ok left) right = of_one (operation left) right
of_two operation (Err exception) right = Err exception

-- The left side is tested first. What the right side gives counts only where the left one does not decide.
abbrev pub either : ValueOrException → ValueOrException → ValueOrException
either (Ok (Truth true)) right = Ok (Truth true)
either (Ok (Truth false)) right = of_one truth right
either (Ok _) right = Err bad_operand
either (Err exception) right = Err exception

abbrev pub both : ValueOrException → ValueOrException → ValueOrException
both (Ok (Truth true)) right = of_one truth right
both (Ok (Truth false)) right = Ok (Truth false)
both (Ok _) right = Err bad_operand
both (Err exception) right = Err exception

abbrev pub behind : Value → Result (List Value) Exc → Result (List Value) Exc
behind value (Ok others) = Ok (value ∷ others)
behind value (Err exception) = Err exception

abbrev pub in_order : ValueOrException → Result (List Value) Exc → Result (List Value) Exc
in_order (Ok value) others = behind value others
in_order (Err exception) others = Err exception

abbrev pub list_made : Result (List Value) Exc → ValueOrException
list_made (Ok items) = bounded (Items (values items))
list_made (Err exception) = Err exception

abbrev mutual
  pub value_of : Expr → Env → ValueOrException
  value_of (Or left right) env = either (value_of left env) (value_of right env)
  value_of (And left right) env = both (value_of left env) (value_of right env)
  value_of (Not operand) env = of_one negation (value_of operand env)
  value_of (Compare comparison left right) env = of_two (compared comparison) (value_of left env) (value_of right env)
  value_of (Calculate operator left right) env = of_two (calculated operator) (value_of left env) (value_of right env)
  value_of (Negate operand) env = of_one negative (value_of operand env)
  value_of (Index sequence index) env = of_two indexed (value_of sequence env) (value_of index env)
  value_of (Literal constant) env = Ok (constant_value constant)
  value_of (Variable name) env = Ok (held env name)
  value_of (ListOf items) env = list_made (values_of items env)
  value_of (Apply function argument) env = of_one (applied function) (value_of argument env)
  value_of (MakeError kind message) env = of_one (error_made kind) (value_of message env)

  -- the values of expressions in order, or the first exception
  pub values_of : Exprs → Env → Result (List Value) Exc
  values_of no_exprs env = Ok []
  values_of (expr_then first others) env = in_order (value_of first env) (values_of others env)
