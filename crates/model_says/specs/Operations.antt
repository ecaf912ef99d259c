-- What each operator and each function of an expression gives for values, or the exception that it raises.
-- Source: the language reference, "Expressions"; the library reference, "Built-in Types"; with the bounds of scripts.
use Rattle.std.specs.Prelude.{ℕ, zero, suc, ◌+◌, ◌*◌, ◌/◌, ◌^◌, ℤ, pos, negsuc, ◌+ℤ◌, ◌-ℤ◌, ◌*ℤ◌, neg_ℤ, Bool, true, false, not, ◌&&◌, List, ◌++◌, length, map}
use Rattle.std.specs.Prelude.{reverse, slice_get, Option, Some, None, Result, Ok, Err, codes, nat_lt, nat_le, if◌then◌else◌}
use Rattle.std.specs.List.{repeat}
use Rattle.std.specs.declared.cmp.Ordering.{Ordering}
use Rattle.std.specs.Ordering.{nat_cmp, int_cmp, is_lt, is_le, is_gt, is_ge}
use Rattle.std.specs.Cmp.Lexicographic.{slice_cmp}
use Rattle.std.specs.Str.{is_utf8}
use Rattle.model_value.specs.declared.kind.Kind.{Kind}
use Rattle.model_value.specs.declared.kind.Kind.TheVariants.{TypeError, OverflowError, ZeroDivisionError, IndexError, ValueError}
use Rattle.model_value.specs.Value.{Value, Truth, Int, Text, Bytes, Items, Exception, Exc, list_of, values, exception_of, kind_of, text_of, bytes_of}
use Rattle.model_value.specs.Value.{members_of}
use Rattle.model_value.specs.Weight.{weight_of}
use Rattle.model_value.specs.Depth.{depth_of}
use Rattle.model_value.specs.Equality.{equal}
use Rattle.model_value.specs.Kinds.{kind_name}
use Rattle.model_value.specs.Shown.{shown}
use Rattle.model_tree.specs.declared.operator.Operator.{Operator}
use Rattle.model_tree.specs.declared.operator.Operator.TheVariants.{Add, Subtract, Multiply, FloorDivide, Remainder}
use Rattle.model_tree.specs.declared.operator.Comparison.{Comparison}
use Rattle.model_tree.specs.declared.operator.Comparison.TheVariants as comparison
use Rattle.model_tree.specs.declared.function.Function.{Function}
use Rattle.model_tree.specs.declared.function.Function.TheVariants as function

-- a value, or the exception that is raised in its place
abbrev pub ValueOrException : Type 0
ValueOrException = Result Value Exc

-- ---- the exceptions
abbrev pub bad_operand : Exc
bad_operand = exception_of TypeError (codes "bad operand")

abbrev pub out_of_range : Exc
out_of_range = exception_of OverflowError (codes "out of range")

abbrev pub division_by_zero : Exc
division_by_zero = exception_of ZeroDivisionError (codes "division by zero")

abbrev pub index_out_of_range : Exc
index_out_of_range = exception_of IndexError (codes "index out of range")

abbrev pub not_utf8 : Exc
not_utf8 = exception_of ValueError (codes "not UTF-8")

-- ---- the bounds
abbrev pub heaviest : ℕ
heaviest = 1048576

abbrev pub deepest : ℕ
deepest = 64

-- a value that an operation gives, unless it is too heavy or too deep
abbrev pub bounded : Value → ValueOrException
bounded value =
    if nat_le (weight_of value) heaviest && nat_le (depth_of value) deepest then Ok value else Err out_of_range

-- numbers have 64 bits, with the sign
abbrev pub fits : ℤ → Bool
fits (pos n) = nat_lt n (2 ^ 63)
fits (negsuc n) = nat_lt n (2 ^ 63)

abbrev pub number : ℤ → ValueOrException
number n = if fits n then Ok (Int n) else Err out_of_range

-- ---- truth
abbrev pub truth : Value → ValueOrException
truth (Truth t) = Ok (Truth t)
truth _ = Err bad_operand

abbrev pub negation : Value → ValueOrException
negation (Truth t) = Ok (Truth (not t))
negation _ = Err bad_operand

-- ---- arithmetic
-- rounded down
abbrev pub floor_quotient : ℤ → ℤ → ℤ
floor_quotient (pos a) (pos b) = pos (a / b)
floor_quotient (pos a) (negsuc b) = neg_ℤ (pos ((a + b) / suc b))
floor_quotient (negsuc a) (pos b) = negsuc (a / b)
floor_quotient (negsuc a) (negsuc b) = pos (suc a / suc b)

-- what the quotient times the divisor leaves
abbrev pub floor_remainder : ℤ → ℤ → ℤ
floor_remainder a b = a -ℤ (floor_quotient a b *ℤ b)

abbrev pub divided : (ℤ → ℤ → ℤ) → ℤ → ℤ → ValueOrException
divided operation a (pos zero) = Err division_by_zero
divided operation a b = number (operation a b)

-- how often a text is repeated
abbrev pub times : ℤ → ℕ
times (pos n) = n
times (negsuc n) = 0

abbrev pub repeated_if : Bool → (List ℕ → Value) → List ℕ → ℕ → ValueOrException
repeated_if true make bytes count = Ok (make (repeat count bytes))
repeated_if false make bytes count = Err out_of_range

-- the weight is known before the bytes are
abbrev pub repeated : (List ℕ → Value) → List ℕ → ℤ → ValueOrException
repeated make bytes count =
    repeated_if (nat_le (1 + times count * length bytes) heaviest) make bytes (times count)

abbrev pub sum : Value → Value → ValueOrException
sum (Int a) (Int b) = number (a +ℤ b)
sum (Text a) (Text b) = bounded (Text (a ++ b))
sum (Bytes a) (Bytes b) = bounded (Bytes (a ++ b))
sum (Items a) (Items b) = bounded (Items (values (list_of a ++ list_of b)))
sum _ _ = Err bad_operand

abbrev pub difference : Value → Value → ValueOrException
difference (Int a) (Int b) = number (a -ℤ b)
difference _ _ = Err bad_operand

abbrev pub product : Value → Value → ValueOrException
product (Int a) (Int b) = number (a *ℤ b)
product (Text bytes) (Int count) = repeated Text bytes count
product (Bytes bytes) (Int count) = repeated Bytes bytes count
product _ _ = Err bad_operand

abbrev pub quotient : Value → Value → ValueOrException
quotient (Int a) (Int b) = divided floor_quotient a b
quotient _ _ = Err bad_operand

abbrev pub remainder : Value → Value → ValueOrException
remainder (Int a) (Int b) = divided floor_remainder a b
remainder _ _ = Err bad_operand

abbrev pub calculated : Operator → Value → Value → ValueOrException
calculated Add = sum
calculated Subtract = difference
calculated Multiply = product
calculated FloorDivide = quotient
calculated Remainder = remainder

abbrev pub negative : Value → ValueOrException
negative (Int a) = number (neg_ℤ a)
negative _ = Err bad_operand

-- ---- comparisons
-- numbers have an order, and so have texts and bytes, by their bytes
abbrev pub order : Value → Value → Option Ordering
order (Int a) (Int b) = Some (int_cmp a b)
order (Text a) (Text b) = Some (slice_cmp nat_cmp a b)
order (Bytes a) (Bytes b) = Some (slice_cmp nat_cmp a b)
order _ _ = None

abbrev pub ordered : (Ordering → Bool) → Option Ordering → ValueOrException
ordered test (Some ordering) = Ok (Truth (test ordering))
ordered test None = Err bad_operand

abbrev pub compared : Comparison → Value → Value → ValueOrException
compared comparison.Equal a b = Ok (Truth (equal a b))
compared comparison.NotEqual a b = Ok (Truth (not (equal a b)))
compared comparison.Less a b = ordered is_lt (order a b)
compared comparison.LessOrEqual a b = ordered is_le (order a b)
compared comparison.Greater a b = ordered is_gt (order a b)
compared comparison.GreaterOrEqual a b = ordered is_ge (order a b)

-- ---- items
-- a negative index counts from the end
abbrev pub item_at : {A : Type 0} → List A → ℤ → Option A
item_at items (pos index) = slice_get items index
item_at items (negsuc index) = slice_get (reverse items) index

abbrev pub found : Option Value → ValueOrException
found (Some value) = bounded value
found None = Err index_out_of_range

abbrev pub byte_value : ℕ → Value
byte_value byte = Int (pos byte)

abbrev pub indexed : Value → Value → ValueOrException
indexed (Items items) (Int index) = found (item_at (list_of items) index)
indexed (Bytes bytes) (Int index) = found (item_at (map byte_value bytes) index)
indexed _ _ = Err bad_operand

-- ---- functions
-- the text that bytes are
abbrev pub decoded : List ℕ → ValueOrException
decoded bytes = if is_utf8 bytes then bounded (Text bytes) else Err not_utf8

-- The text of a value is UTF-8 wherever its own texts are.
abbrev pub applied : Function → Value → ValueOrException
applied function.Len (Text bytes) = number (pos (length bytes))
applied function.Len (Bytes bytes) = number (pos (length bytes))
applied function.Len (Items items) = number (pos (length (list_of items)))
applied function.Str value = decoded (shown value)
applied function.Bytes (Text bytes) = bounded (Bytes bytes)
applied function.Text (Bytes bytes) = decoded bytes
applied function.Kind (Exception exception) = bounded (Text (kind_name (kind_of exception)))
applied function.Message (Exception exception) = bounded (Text (text_of exception))
applied function.Partial (Exception exception) = bounded (Bytes (bytes_of exception))
applied function.Members (Exception exception) = bounded (Items (values (map Exception (members_of exception))))
applied _ _ = Err bad_operand

-- `error(KIND, t)`
abbrev pub error_made : Kind → Value → ValueOrException
error_made kind (Text text) = bounded (Exception (exception_of kind text))
error_made kind _ = Err bad_operand
