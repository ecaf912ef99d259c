-- What an expression gives is of a closed kind where the variables are.
use Rattle.std.proofs.Common.{ℕ, zero, suc, ◌*◌, ◌+◌, ℤ, pos, negsuc, ◌+ℤ◌, ◌-ℤ◌, ◌*ℤ◌, neg_ℤ, Bool, true, false, not, ◌&&◌, if◌then◌else◌, List, [], ◌∷◌, ◌++◌}
use Rattle.std.proofs.Common.{map, length, reverse, Option, Some, None, Result, Ok, Err, slice_get, nat_le}
use Rattle.std.specs.Str.{is_utf8, bytes_eq}
use Rattle.std.specs.declared.cmp.Ordering.{Ordering}
use mathlib.Core.List.{reverse_aux}
use Rattle.model_value.specs.Value.{Value, Truth, Int, Text, Bytes, Items, Exception, Exc, list_of, exception_of, members_of}
use Rattle.model_value.specs.Weight.{weight_of}
use Rattle.model_value.specs.Depth.{depth_of}
use Rattle.model_value.specs.Shown.{shown}
use Rattle.model_value.specs.declared.kind.Kind.{Kind}
use Rattle.model_tree.specs.declared.operator.Operator.{Operator}
use Rattle.model_tree.specs.declared.operator.Operator.TheVariants.{Add, Subtract, Multiply, FloorDivide, Remainder}
use Rattle.model_tree.specs.declared.operator.Comparison.{Comparison}
use Rattle.model_tree.specs.declared.operator.Comparison.TheVariants as comparison
use Rattle.model_tree.specs.declared.function.Function.{Function}
use Rattle.model_tree.specs.declared.function.Function.TheVariants as function
use Rattle.model_tree.specs.Syntax.{Name, Constant, NoneConstant, TruthConstant, IntConstant, TextConstant, BytesConstant, Expr, Or, And, Not, Compare}
use Rattle.model_tree.specs.Syntax.{Calculate, Negate, Index, Literal, Variable, ListOf, Apply, MakeError, Exprs, no_exprs, expr_then}
use Rattle.model_says.specs.Expressions.{constant_value, of_one, of_two, either, both, in_order, list_made, value_of, values_of}
use Rattle.model_says.specs.Operations.{ValueOrException, bounded, fits, number, truth, negation, divided, repeated_if, repeated, sum, difference, product}
use Rattle.model_says.specs.Operations.{quotient, remainder, calculated, negative, order, ordered, compared, item_at, found, byte_value, indexed, decoded}
use Rattle.model_says.specs.Operations.{applied, error_made, not_utf8, heaviest, deepest, out_of_range, times, floor_quotient, floor_remainder}
use Rattle.model_says.specs.Variables.{Env, held, assigned, bound}
use Rattle.law_says.specs.Given.{AllOf, IsClosed}

module _ (P : Value → Type 0) (closed : IsClosed P) where
  -- ---- lists of values
  all_append : (xs ys : List Value) → AllOf P xs → AllOf P ys → AllOf P (xs ++ ys)
  all_append [] ys a b = b
  all_append (x ∷ xs) ys a b = (a.0, all_append xs ys a.1 b)

  all_reverse : (xs ys : List Value) → AllOf P xs → AllOf P ys → AllOf P (reverse_aux xs ys)
  all_reverse [] ys a b = b
  all_reverse (x ∷ xs) ys a b = all_reverse xs (x ∷ ys) a.1 (a.0, b)

  all_bytes : (xs : List ℕ) → AllOf P (map byte_value xs)
  all_bytes [] = tt
  all_bytes (x ∷ xs) = (closed.number (pos x), all_bytes xs)

  all_exceptions : (xs : List Exc) → AllOf P (map Exception xs)
  all_exceptions [] = tt
  all_exceptions (x ∷ xs) = (closed.exception x, all_exceptions xs)

  abbrev InOption : Option Value → Type 0
  InOption (Some value) = P value
  InOption None = Unit {0}

  all_get : (xs : List Value) (place : ℕ) → AllOf P xs → InOption (slice_get xs place)
  all_get [] place a = tt
  all_get (x ∷ xs) zero a = a.0
  all_get (x ∷ xs) (suc place) a = all_get xs place a.1

  -- ---- variables
  abbrev pub InEnv : Env → Type 0
  InEnv [] = Unit {0}
  InEnv (binding ∷ env) = P binding.value × InEnv env

  pub in_held : (env : Env) (name : Name) → InEnv env → P (held env name)
  in_held [] name a = closed.nothing
  in_held (binding ∷ env) name a = at (bytes_eq binding.name name) (in_held env name a.1)
    where
      at : (b : Bool) → P (held env name) → P (if b then binding.value else held env name)
      at true others = a.0
      at false others = others

  pub in_assigned : (name : Name) (value : Value) (env : Env) → P value → InEnv env → InEnv (assigned name value env)
  in_assigned name value [] good a = tt
  in_assigned name value (binding ∷ env) good a = at (bytes_eq binding.name name) (in_assigned name value env good a.1)
    where
      at : (b : Bool) → InEnv (assigned name value env)
          → InEnv (if b then record binding { value = value } ∷ env else binding ∷ assigned name value env)
      at true others = (good, a.1)
      at false others = (a.0, others)

  pub in_bound : (names : List Name) (arguments : List Value) → AllOf P arguments → InEnv (bound names arguments)
  in_bound [] arguments a = tt
  in_bound (name ∷ names) [] a = (closed.nothing, in_bound names [] tt)
  in_bound (name ∷ names) (value ∷ arguments) a = (a.0, in_bound names arguments a.1)

  -- ---- operations
  abbrev pub InAnswer : ValueOrException → Type 0
  InAnswer (Ok value) = P value
  InAnswer (Err fault) = Unit {0}

  in_bounded : (value : Value) → P value → InAnswer (bounded value)
  in_bounded value good = at (nat_le (weight_of value) heaviest && nat_le (depth_of value) deepest)
    where
      at : (b : Bool) → InAnswer (if b then Ok value else Err out_of_range)
      at true = good
      at false = tt

  in_number : (n : ℤ) → InAnswer (number n)
  in_number n = at (fits n)
    where
      at : (b : Bool) → InAnswer (if b then Ok (Int n) else Err out_of_range)
      at true = closed.number n
      at false = tt

  in_truth : (value : Value) → InAnswer (truth value)
  in_truth (Truth t) = closed.truth t
  in_truth _ = tt

  in_negation : (value : Value) → InAnswer (negation value)
  in_negation (Truth t) = closed.truth (not t)
  in_negation _ = tt

  in_divided : (operation : ℤ → ℤ → ℤ) (a b : ℤ) → InAnswer (divided operation a b)
  in_divided operation a (pos zero) = tt
  in_divided operation a (pos (suc n)) = in_number (operation a (pos (suc n)))
  in_divided operation a (negsuc n) = in_number (operation a (negsuc n))

  in_repeated : (make : List ℕ → Value) → ((bytes : List ℕ) → P (make bytes)) → (bytes : List ℕ) (count : ℤ) → InAnswer (repeated make bytes count)
  in_repeated make good bytes count = at (nat_le (1 + times count * length bytes) heaviest)
    where
      at : (b : Bool) → InAnswer (repeated_if b make bytes (times count))
      at true = good _
      at false = tt

  in_sum : (a b : Value) → P a → P b → InAnswer (sum a b)
  in_sum (Int a) (Int b) ga gb = in_number (a +ℤ b)
  in_sum (Text a) (Text b) ga gb = in_bounded _ (closed.text _)
  in_sum (Bytes a) (Bytes b) ga gb = in_bounded _ (closed.bytes _)
  in_sum (Items a) (Items b) ga gb =
      in_bounded _ (closed.made _ (all_append (list_of a) (list_of b) (closed.held a ga) (closed.held b gb)))
  in_sum _ _ ga gb = tt

  in_difference : (a b : Value) → InAnswer (difference a b)
  in_difference (Int a) (Int b) = in_number (a -ℤ b)
  in_difference _ _ = tt

  in_product : (a b : Value) → InAnswer (product a b)
  in_product (Int a) (Int b) = in_number (a *ℤ b)
  in_product (Text bytes) (Int count) = in_repeated Text closed.text bytes count
  in_product (Bytes bytes) (Int count) = in_repeated Bytes closed.bytes bytes count
  in_product _ _ = tt

  in_quotient : (a b : Value) → InAnswer (quotient a b)
  in_quotient (Int a) (Int b) = in_divided floor_quotient a b
  in_quotient _ _ = tt

  in_remainder : (a b : Value) → InAnswer (remainder a b)
  in_remainder (Int a) (Int b) = in_divided floor_remainder a b
  in_remainder _ _ = tt

  in_calculated : (operator : Operator) (a b : Value) → P a → P b → InAnswer (calculated operator a b)
  in_calculated Add a b ga gb = in_sum a b ga gb
  in_calculated Subtract a b ga gb = in_difference a b
  in_calculated Multiply a b ga gb = in_product a b
  in_calculated FloorDivide a b ga gb = in_quotient a b
  in_calculated Remainder a b ga gb = in_remainder a b

  in_negative : (value : Value) → InAnswer (negative value)
  in_negative (Int a) = in_number (neg_ℤ a)
  in_negative _ = tt

  in_ordered : (test : Ordering → Bool) (o : Option Ordering) → InAnswer (ordered test o)
  in_ordered test (Some o) = closed.truth _
  in_ordered test None = tt

  in_compared : (it : Comparison) (a b : Value) → InAnswer (compared it a b)
  in_compared comparison.Equal a b = closed.truth _
  in_compared comparison.NotEqual a b = closed.truth _
  in_compared comparison.Less a b = in_ordered _ (order a b)
  in_compared comparison.LessOrEqual a b = in_ordered _ (order a b)
  in_compared comparison.Greater a b = in_ordered _ (order a b)
  in_compared comparison.GreaterOrEqual a b = in_ordered _ (order a b)

  in_found : (o : Option Value) → InOption o → InAnswer (found o)
  in_found (Some value) good = in_bounded value good
  in_found None good = tt

  in_item_at : (items : List Value) (index : ℤ) → AllOf P items → InOption (item_at items index)
  in_item_at items (pos index) a = all_get items index a
  in_item_at items (negsuc index) a = all_get (reverse items) index (all_reverse items [] a tt)

  in_indexed : (a b : Value) → P a → InAnswer (indexed a b)
  in_indexed (Items items) (Int index) good = in_found _ (in_item_at (list_of items) index (closed.held items good))
  in_indexed (Bytes bytes) (Int index) good = in_found _ (in_item_at (map byte_value bytes) index (all_bytes bytes))
  in_indexed _ _ good = tt

  in_decoded : (bytes : List ℕ) → InAnswer (decoded bytes)
  in_decoded bytes = at (is_utf8 bytes)
    where
      at : (b : Bool) → InAnswer (if b then bounded (Text bytes) else Err not_utf8)
      at true = in_bounded _ (closed.text bytes)
      at false = tt

  in_applied : (it : Function) (value : Value) → InAnswer (applied it value)
  in_applied function.Len (Text bytes) = in_number (pos (length bytes))
  in_applied function.Len (Bytes bytes) = in_number (pos (length bytes))
  in_applied function.Len (Items items) = in_number (pos (length (list_of items)))
  in_applied function.Str value = in_decoded (shown value)
  in_applied function.Bytes (Text bytes) = in_bounded _ (closed.bytes bytes)
  in_applied function.Text (Bytes bytes) = in_decoded bytes
  in_applied function.Kind (Exception fault) = in_bounded _ (closed.text _)
  in_applied function.Message (Exception fault) = in_bounded _ (closed.text _)
  in_applied function.Partial (Exception fault) = in_bounded _ (closed.bytes _)
  in_applied function.Members (Exception fault) = in_bounded _ (closed.made _ (all_exceptions (members_of fault)))
  in_applied _ _ = tt

  in_error : (kind : Kind) (value : Value) → InAnswer (error_made kind value)
  in_error kind (Text text) = in_bounded (Exception (exception_of kind text)) (closed.exception (exception_of kind text))
  in_error kind _ = tt

  -- ---- expressions
  in_constant : (it : Constant) → P (constant_value it)
  in_constant NoneConstant = closed.nothing
  in_constant (TruthConstant t) = closed.truth t
  in_constant (IntConstant n) = closed.number n
  in_constant (TextConstant bytes) = closed.text bytes
  in_constant (BytesConstant bytes) = closed.bytes bytes

  in_one : (operation : Value → ValueOrException) (a : ValueOrException) → ((v : Value) → P v → InAnswer (operation v)) → InAnswer a
      → InAnswer (of_one operation a)
  in_one operation (Ok value) each good = each value good
  in_one operation (Err fault) each good = tt

  in_two : (operation : Value → Value → ValueOrException) (a b : ValueOrException) → ((v w : Value) → P v → P w → InAnswer (operation v w))
      → InAnswer a → InAnswer b → InAnswer (of_two operation a b)
  in_two operation (Ok value) b each good good' = in_one (operation value) b (λ w h. each value w good h) good'
  in_two operation (Err fault) b each good good' = tt

  in_either : (a b : ValueOrException) → InAnswer (either a b)
  in_either (Ok (Truth true)) b = closed.truth true
  in_either (Ok (Truth false)) (Ok value) = in_truth value
  in_either (Ok (Truth false)) (Err fault) = tt
  in_either (Ok _) b = tt
  in_either (Err fault) b = tt

  in_both : (a b : ValueOrException) → InAnswer (both a b)
  in_both (Ok (Truth true)) (Ok value) = in_truth value
  in_both (Ok (Truth true)) (Err fault) = tt
  in_both (Ok (Truth false)) b = closed.truth false
  in_both (Ok _) b = tt
  in_both (Err fault) b = tt

  abbrev pub InRow : Result (List Value) Exc → Type 0
  InRow (Ok items) = AllOf P items
  InRow (Err fault) = Unit {0}

  in_order_row : (a : ValueOrException) (row : Result (List Value) Exc) → InAnswer a → InRow row → InRow (in_order a row)
  in_order_row (Ok value) (Ok items) good all = (good, all)
  in_order_row (Ok value) (Err fault) good all = tt
  in_order_row (Err fault) row good all = tt

  in_list : (row : Result (List Value) Exc) → InRow row → InAnswer (list_made row)
  in_list (Ok items) all = in_bounded _ (closed.made items all)
  in_list (Err fault) all = tt

  mutual
    pub in_value : (expr : Expr) (env : Env) → InEnv env → InAnswer (value_of expr env)
    in_value (Or left right) env a = in_either (value_of left env) (value_of right env)
    in_value (And left right) env a = in_both (value_of left env) (value_of right env)
    in_value (Not operand) env a = in_one negation (value_of operand env) (λ v h. in_negation v) (in_value operand env a)
    in_value (Compare it left right) env a =
        in_two (compared it) (value_of left env) (value_of right env) (λ v w h k. in_compared it v w) (in_value left env a) (in_value right env a)
    in_value (Calculate it left right) env a =
        in_two (calculated it) (value_of left env) (value_of right env) (in_calculated it) (in_value left env a) (in_value right env a)
    in_value (Negate operand) env a = in_one negative (value_of operand env) (λ v h. in_negative v) (in_value operand env a)
    in_value (Index sequence index) env a =
        in_two indexed (value_of sequence env) (value_of index env) (λ v w h k. in_indexed v w h) (in_value sequence env a) (in_value index env a)
    in_value (Literal it) env a = in_constant it
    in_value (Variable name) env a = in_held env name a
    in_value (ListOf items) env a = in_list (values_of items env) (in_values items env a)
    in_value (Apply it argument) env a = in_one (applied it) (value_of argument env) (λ v h. in_applied it v) (in_value argument env a)
    in_value (MakeError kind message) env a =
        in_one (error_made kind) (value_of message env) (λ v h. in_error kind v) (in_value message env a)

    pub in_values : (exprs : Exprs) (env : Env) → InEnv env → InRow (values_of exprs env)
    in_values no_exprs env a = tt
    in_values (expr_then first others) env a =
        in_order_row (value_of first env) (values_of others env) (in_value first env a) (in_values others env a)
