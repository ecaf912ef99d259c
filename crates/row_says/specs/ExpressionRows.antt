-- Expressions with what they give, worked out by hand.
use Rattle.std.specs.Prelude.{ℕ, zero, suc, ℤ, pos, negsuc, true, false, List, [], ◌∷◌, Ok, Err, codes}
use Rattle.std.specs.List.{repeat}
use Prim.Native.String.{String}
use Rattle.model_value.specs.declared.kind.Kind.TheVariants.{ValueError, IncompleteReadError, TimeoutError}
use Rattle.model_value.specs.Value.{Value, Nothing, Truth, Int, Text, Bytes, Items, Exception, exc, no_excs, exc_then, values, Exc, exception_of}
use Rattle.model_tree.specs.declared.function.Function.TheVariants.{Len, Str, Kind, Message, Partial, Members}
use Rattle.model_tree.specs.declared.function.Function.TheVariants as function
use Rattle.model_tree.specs.Syntax.{Expr, Or, And, Not, Negate, Index, Apply, MakeError}
use Rattle.model_says.specs.Expressions.{value_of}
use Rattle.model_says.specs.Operations.{ValueOrException, bad_operand, out_of_range, division_by_zero, index_out_of_range, not_utf8}
use Rattle.model_says.specs.Variables.{Env}
use Rattle.row_says.specs.Written.{none, yes, no, int, text, bytes, var, list, ◌plus◌, ◌less◌, ◌times◌, ◌over◌, ◌modulo◌, ◌equals◌, ◌differs◌, ◌below◌}
use Rattle.row_says.specs.Written.{◌atmost◌, ◌above◌, ◌atleast◌}

pub record ExpressionRow : Type 0 where
  pub expr : Expr
  pub expected : ValueOrException

-- what the variables of the rows hold: an exception with bytes, and one with a member
abbrev cut_short : Exc
cut_short = exc IncompleteReadError (codes "cut") (1 ∷ 2 ∷ []) (exc_then (exception_of TimeoutError []) no_excs)

abbrev env : Env
env = record { name = codes "e"; value = Exception cut_short } ∷ record { name = codes "n"; value = Nothing } ∷ []

abbrev pub found : ExpressionRow → ValueOrException
found row = value_of row.expr env

abbrev pub expected : ExpressionRow → ValueOrException
expected row = row.expected

infix 6 ◌gives◌
abbrev ◌gives◌ : Expr → Value → ExpressionRow
expr gives value = record { expr = expr; expected = Ok value }

infix 6 ◌raises◌
abbrev ◌raises◌ : Expr → Exc → ExpressionRow
expr raises fault = record { expr = expr; expected = Err fault }

abbrev number : ℤ → Value
number n = Int n

abbrev string : String → Value
string s = Text (codes s)

-- the greatest and the least number, and -1
abbrev greatest : Expr
greatest = int 9223372036854775807

abbrev least : Expr
least = Negate greatest less int 1

abbrev minus : ℕ → Expr
minus n = Negate (int n)

abbrev pub arithmetic : List ExpressionRow
arithmetic =
    (int 1 plus int 2 gives Int (pos 3))
    ∷ (int 1 less int 2 gives Int (negsuc 0))
    ∷ (minus 7 over int 2 gives Int (negsuc 3))
    ∷ (minus 7 modulo int 2 gives Int (pos 1))
    ∷ (int 7 over minus 2 gives Int (negsuc 3))
    ∷ (int 7 modulo minus 2 gives Int (negsuc 0))
    ∷ (minus 7 over minus 2 gives Int (pos 3))
    ∷ (minus 7 modulo minus 2 gives Int (negsuc 0))
    ∷ (minus 6 over int 2 gives Int (negsuc 2))
    ∷ (minus 6 modulo int 2 gives Int (pos 0))
    ∷ (int 6 modulo minus 3 gives Int (pos 0))
    ∷ (int 0 over minus 5 gives Int (pos 0))
    ∷ (int 2 times int 3 plus int 4 times int 5 gives Int (pos 26))
    ∷ (greatest plus int 0 gives Int (pos 9223372036854775807))
    ∷ (greatest plus int 1 raises out_of_range)
    ∷ (least gives Int (negsuc 9223372036854775807))
    ∷ (least less int 1 raises out_of_range)
    ∷ (Negate least raises out_of_range)
    ∷ (least over minus 1 raises out_of_range)
    ∷ (least modulo minus 1 gives Int (pos 0))
    ∷ (least over int 1 gives Int (negsuc 9223372036854775807))
    ∷ (greatest times greatest raises out_of_range)
    ∷ (int 3037000500 times int 3037000500 raises out_of_range)
    ∷ (int 3037000499 times int 3037000499 gives Int (pos 9223372030926249001))
    ∷ (int 1 over int 0 raises division_by_zero)
    ∷ (int 1 modulo int 0 raises division_by_zero)
    ∷ (int 1 plus text "a" raises bad_operand)
    ∷ (text "a" less text "a" raises bad_operand)
    ∷ (Negate yes raises bad_operand)
    ∷ (yes plus int 1 raises bad_operand)
    ∷ (var "n" plus int 1 raises bad_operand)
    ∷ []

abbrev pub joining : List ExpressionRow
joining =
    (text "ab" plus text "c" gives string "abc")
    ∷ (text "ab" plus bytes (99 ∷ []) raises bad_operand)
    ∷ (bytes (1 ∷ []) plus bytes (255 ∷ []) gives Bytes (1 ∷ 255 ∷ []))
    ∷ (list (int 1 ∷ []) plus list (text "a" ∷ []) gives Items (values (Int (pos 1) ∷ string "a" ∷ [])))
    ∷ (text "ab" times int 3 gives string "ababab")
    ∷ (text "ab" times minus 3 gives string "")
    ∷ (bytes (7 ∷ []) times int 2 gives Bytes (7 ∷ 7 ∷ []))
    ∷ (int 3 times text "ab" raises bad_operand)
    ∷ (list [] times int 2 raises bad_operand)
    ∷ (text "ab" times int 524288 raises out_of_range)
    ∷ (text "ab" times greatest raises out_of_range)
    ∷ (text "" times int 5 gives string "")
    ∷ (bytes (1 ∷ []) times int 1048576 raises out_of_range)
    ∷ (bytes (1 ∷ []) times int 1048575 gives Bytes (repeat 1048575 (1 ∷ [])))
    ∷ (list (int 1 over int 0 ∷ var "n" ∷ []) raises division_by_zero)
    ∷ []

abbrev pub comparisons : List ExpressionRow
comparisons =
    (int 1 equals int 1 gives Truth true)
    ∷ (int 1 equals yes gives Truth false)
    ∷ (int 1 differs yes gives Truth true)
    ∷ (text "a" equals bytes (97 ∷ []) gives Truth false)
    ∷ (list (int 1 ∷ []) equals list (int 1 ∷ []) gives Truth true)
    ∷ (list (int 1 ∷ []) equals list (yes ∷ []) gives Truth false)
    ∷ (var "e" equals var "e" gives Truth true)
    ∷ (none equals none gives Truth true)
    ∷ (minus 2 below minus 1 gives Truth true)
    ∷ (minus 1 below int 0 gives Truth true)
    ∷ (int 2 atmost int 2 gives Truth true)
    ∷ (int 3 above int 2 gives Truth true)
    ∷ (int 2 atleast int 3 gives Truth false)
    ∷ (text "ab" below text "b" gives Truth true)
    ∷ (text "a" below text "ab" gives Truth true)
    ∷ (text "b" below text "ab" gives Truth false)
    ∷ (bytes (255 ∷ []) above bytes (1 ∷ 2 ∷ []) gives Truth true)
    ∷ (text "a" below bytes (98 ∷ []) raises bad_operand)
    ∷ (none below none raises bad_operand)
    ∷ (list [] below list [] raises bad_operand)
    ∷ (yes below no raises bad_operand)
    ∷ []

abbrev pub truths : List ExpressionRow
truths =
    (Or yes (int 1 over int 0) gives Truth true)
    ∷ (Or no (int 1 over int 0) raises division_by_zero)
    ∷ (And no (int 1 over int 0) gives Truth false)
    ∷ (And yes (int 1 over int 0) raises division_by_zero)
    ∷ (Or no yes gives Truth true)
    ∷ (And yes no gives Truth false)
    ∷ (Or no (int 1) raises bad_operand)
    ∷ (And yes none raises bad_operand)
    ∷ (Or (int 1) (int 1 over int 0) raises bad_operand)
    ∷ (And none yes raises bad_operand)
    ∷ (Not yes gives Truth false)
    ∷ (Not (int 0) raises bad_operand)
    ∷ ((int 1 over int 0) plus (int 1 plus none) raises division_by_zero)
    ∷ ((int 1 plus none) plus (int 1 over int 0) raises bad_operand)
    ∷ (none plus (int 1 over int 0) raises division_by_zero)
    ∷ []

abbrev three : Expr
three = list (int 10 ∷ int 20 ∷ int 30 ∷ [])

abbrev pub items : List ExpressionRow
items =
    (Index three (int 0) gives Int (pos 10))
    ∷ (Index three (int 2) gives Int (pos 30))
    ∷ (Index three (int 3) raises index_out_of_range)
    ∷ (Index three (minus 1) gives Int (pos 30))
    ∷ (Index three (minus 3) gives Int (pos 10))
    ∷ (Index three (minus 4) raises index_out_of_range)
    ∷ (Index (bytes (5 ∷ 255 ∷ [])) (int 1) gives Int (pos 255))
    ∷ (Index (bytes (5 ∷ 255 ∷ [])) (minus 2) gives Int (pos 5))
    ∷ (Index (bytes []) (int 0) raises index_out_of_range)
    ∷ (Index (text "a") (int 0) raises bad_operand)
    ∷ (Index three yes raises bad_operand)
    ∷ (Index three least raises index_out_of_range)
    ∷ []

-- a list in lists, so many deep
abbrev nested : ℕ → Expr
nested zero = int 1
nested (suc depth) = list (nested depth ∷ [])

abbrev nested_value : ℕ → Value
nested_value zero = Int (pos 1)
nested_value (suc depth) = Items (values (nested_value depth ∷ []))

abbrev pub functions : List ExpressionRow
functions =
    (Apply Len (text "abc") gives Int (pos 3))
    ∷ (Apply Len (bytes []) gives Int (pos 0))
    ∷ (Apply Len three gives Int (pos 3))
    ∷ (Apply Len (int 3) raises bad_operand)
    ∷ (Apply Str (text "a\"b") gives string "a\"b")
    ∷ (Apply Str (list (text "a" ∷ none ∷ yes ∷ [])) gives string "[\"a\", None, True]")
    ∷ (Apply Str (bytes (97 ∷ 10 ∷ 255 ∷ [])) gives string "b\"a\\n\\xff\"")
    ∷ (Apply Str (var "e") gives string "IncompleteReadError(\"cut\")")
    ∷ (Apply function.Bytes (text "ab") gives Bytes (97 ∷ 98 ∷ []))
    ∷ (Apply function.Bytes (bytes []) raises bad_operand)
    ∷ (Apply function.Text (bytes (97 ∷ 98 ∷ [])) gives string "ab")
    ∷ (Apply function.Text (bytes (195 ∷ 164 ∷ [])) gives Text (195 ∷ 164 ∷ []))
    ∷ (Apply function.Text (bytes (195 ∷ [])) raises not_utf8)
    ∷ (Apply function.Text (bytes (237 ∷ 160 ∷ 128 ∷ [])) raises not_utf8)
    ∷ (Apply function.Text (text "a") raises bad_operand)
    ∷ (MakeError ValueError (text "t") gives Exception (exception_of ValueError (codes "t")))
    ∷ (MakeError ValueError none raises bad_operand)
    ∷ (Apply Kind (var "e") gives string "IncompleteReadError")
    ∷ (Apply Message (var "e") gives string "cut")
    ∷ (Apply Partial (var "e") gives Bytes (1 ∷ 2 ∷ []))
    ∷ (Apply Members (var "e") gives Items (values (Exception (exception_of TimeoutError []) ∷ [])))
    ∷ (Apply Kind none raises bad_operand)
    ∷ (Apply Members (list []) raises bad_operand)
    ∷ (nested 64 gives nested_value 64)
    ∷ (nested 65 raises out_of_range)
    ∷ []
