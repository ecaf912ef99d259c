-- The canonical text of a program: no comments and no empty lines, two spaces for each open block, and an operand that is
-- an operation in parentheses.
-- Source: PEP 8, "Whitespace in Expressions and Statements", with two spaces for a block.
use Rattle.std.specs.Prelude.{ℕ, suc, List, [], ◌∷◌, ◌++◌, Option, Some, None, codes, nat_eq, if◌then◌else◌}
use Rattle.std.specs.List.{repeat}
use Rattle.std.specs.Fmt.{decimal, signed_decimal}
use Rattle.model_value.specs.Escapes.{text_literal, bytes_literal}
use Rattle.model_value.specs.Kinds.{kind_name}
use Rattle.model_value.specs.Shown.{truth_text}
use Rattle.model_tree.specs.declared.operator.Operator.{Operator}
use Rattle.model_tree.specs.declared.operator.Operator.TheVariants as operator
use Rattle.model_tree.specs.declared.operator.Comparison.{Comparison}
use Rattle.model_tree.specs.declared.operator.Comparison.TheVariants as comparison
use Rattle.model_tree.specs.Syntax.{Name, Constant, NoneConstant, TruthConstant, IntConstant, TextConstant, BytesConstant, Expr, Or, And, Not, Compare}
use Rattle.model_tree.specs.Syntax.{Calculate, Negate, Index, Literal, Variable, ListOf, Apply, MakeError, Exprs, no_exprs, expr_then, Target, Await, Call, Ask}
use Rattle.model_tree.specs.Syntax.{SpawnTask, CreateTask, ListenAt, Manager, GroupBlock, TimeoutBlock, Statement, Assign, Yield, YieldFrom, Print, Raise}
use Rattle.model_tree.specs.Syntax.{Return, Pass, If, While, Try, With, Statements, no_statements, statement_then, Branch, no_branch, branch, Handlers}
use Rattle.model_tree.specs.Syntax.{no_handlers, handler_then, Coroutine, Program}
use Rattle.model_tree.specs.Known.{function_text, error_text, request_text, spawn_text, create_text, listen_text}

-- ---- expressions
abbrev pub constant_text : Constant → List ℕ
constant_text NoneConstant = codes "None"
constant_text (TruthConstant truth) = truth_text truth
constant_text (IntConstant number) = signed_decimal number
constant_text (TextConstant bytes) = text_literal bytes
constant_text (BytesConstant bytes) = bytes_literal bytes

abbrev pub operator_text : Operator → List ℕ
operator_text operator.Add = codes " + "
operator_text operator.Subtract = codes " - "
operator_text operator.Multiply = codes " * "
operator_text operator.FloorDivide = codes " // "
operator_text operator.Remainder = codes " % "

abbrev pub comparison_text : Comparison → List ℕ
comparison_text comparison.Equal = codes " == "
comparison_text comparison.NotEqual = codes " != "
comparison_text comparison.Less = codes " < "
comparison_text comparison.LessOrEqual = codes " <= "
comparison_text comparison.Greater = codes " > "
comparison_text comparison.GreaterOrEqual = codes " >= "

abbrev pub in_parentheses : List ℕ → List ℕ
in_parentheses text = codes "(" ++ text ++ codes ")"

-- what stands as an operand: an operation has parentheses
abbrev pub as_operand : Expr → List ℕ → List ℕ
as_operand (Or left right) text = in_parentheses text
as_operand (And left right) text = in_parentheses text
as_operand (Not operand) text = in_parentheses text
as_operand (Compare comparison left right) text = in_parentheses text
as_operand (Calculate operator left right) text = in_parentheses text
as_operand (Negate operand) text = in_parentheses text
as_operand _ text = text

abbrev mutual
  pub expr_text : Expr → List ℕ
  expr_text (Or left right) = as_operand left (expr_text left) ++ codes " or " ++ as_operand right (expr_text right)
  expr_text (And left right) = as_operand left (expr_text left) ++ codes " and " ++ as_operand right (expr_text right)
  expr_text (Not operand) = codes "not " ++ as_operand operand (expr_text operand)
  expr_text (Compare comparison left right) =
      as_operand left (expr_text left) ++ comparison_text comparison ++ as_operand right (expr_text right)
  expr_text (Calculate operator left right) =
      as_operand left (expr_text left) ++ operator_text operator ++ as_operand right (expr_text right)
  expr_text (Negate operand) = codes "-" ++ as_operand operand (expr_text operand)
  expr_text (Index sequence index) = as_operand sequence (expr_text sequence) ++ codes "[" ++ expr_text index ++ codes "]"
  expr_text (Literal constant) = constant_text constant
  expr_text (Variable name) = name
  expr_text (ListOf items) = codes "[" ++ exprs_text items ++ codes "]"
  expr_text (Apply function argument) = function_text function ++ in_parentheses (expr_text argument)
  expr_text (MakeError kind message) = error_text ++ in_parentheses (kind_name kind ++ codes ", " ++ expr_text message)

  -- with `, ` between them
  pub exprs_text : Exprs → List ℕ
  exprs_text no_exprs = []
  exprs_text (expr_then first others) = expr_text first ++ more_text others

  -- each behind its `, `
  pub more_text : Exprs → List ℕ
  more_text no_exprs = []
  more_text (expr_then first others) = codes ", " ++ expr_text first ++ more_text others

-- ---- lines
abbrev pub target_text : Target → List ℕ
target_text (Await name) = name
target_text (Call coroutine arguments) = coroutine ++ in_parentheses (exprs_text arguments)
target_text (Ask request arguments) = request_text request ++ in_parentheses (exprs_text arguments)
target_text (SpawnTask coroutine arguments) = spawn_text ++ in_parentheses (coroutine ++ more_text arguments)
target_text (CreateTask group coroutine arguments) =
    create_text ++ in_parentheses (expr_text group ++ codes ", " ++ coroutine ++ more_text arguments)
target_text (ListenAt port handler) = listen_text ++ in_parentheses (expr_text port ++ codes ", " ++ handler)

abbrev pub into_text : Option Name → List ℕ
into_text None = []
into_text (Some name) = name ++ codes " = "

abbrev pub returned_text : Option Expr → List ℕ
returned_text None = []
returned_text (Some value) = codes " " ++ expr_text value

abbrev pub as_text : Option Name → List ℕ
as_text None = []
as_text (Some name) = codes " as " ++ name

abbrev pub manager_text : Manager → List ℕ
manager_text GroupBlock = codes "group"
manager_text (TimeoutBlock delay) = codes "timeout" ++ in_parentheses (expr_text delay)

-- a line inside so many blocks
abbrev pub line_in : ℕ → List ℕ → List ℕ
line_in blocks text = repeat blocks (codes "  ") ++ text ++ codes "\n"

abbrev pub end_in : ℕ → List ℕ
end_in blocks = line_in blocks (codes "end")

-- ---- statements inside so many blocks
abbrev mutual
  pub statement_text : Statement → ℕ → List ℕ
  statement_text (Assign name value) blocks = line_in blocks (name ++ codes " = " ++ expr_text value)
  statement_text Yield blocks = line_in blocks (codes "yield")
  statement_text (YieldFrom into target) blocks = line_in blocks (into_text into ++ codes "yield from " ++ target_text target)
  statement_text (Print items) blocks = line_in blocks (codes "print " ++ exprs_text items)
  statement_text (Raise fault) blocks = line_in blocks (codes "raise " ++ expr_text fault)
  statement_text (Return value) blocks = line_in blocks (codes "return" ++ returned_text value)
  statement_text Pass blocks = line_in blocks (codes "pass")
  statement_text (If test body otherwise) blocks =
      line_in blocks (codes "if " ++ expr_text test) ++ statements_text body (suc blocks) ++ branch_text otherwise (codes "else") blocks ++ end_in blocks
  statement_text (While test body) blocks =
      line_in blocks (codes "while " ++ expr_text test) ++ statements_text body (suc blocks) ++ end_in blocks
  statement_text (Try body handlers finally) blocks =
      line_in blocks (codes "try") ++ statements_text body (suc blocks) ++ handlers_text handlers blocks ++ branch_text finally (codes "finally") blocks
      ++ end_in blocks
  statement_text (With manager name body) blocks =
      line_in blocks (codes "with " ++ manager_text manager ++ codes " as " ++ name) ++ statements_text body (suc blocks) ++ end_in blocks

  pub statements_text : Statements → ℕ → List ℕ
  statements_text no_statements blocks = []
  statements_text (statement_then first others) blocks = statement_text first blocks ++ statements_text others blocks

  -- a section behind its word, if it is there
  pub branch_text : Branch → List ℕ → ℕ → List ℕ
  branch_text no_branch word blocks = []
  branch_text (branch body) word blocks = line_in blocks word ++ statements_text body (suc blocks)

  pub handlers_text : Handlers → ℕ → List ℕ
  handlers_text no_handlers blocks = []
  handlers_text (handler_then kind name body others) blocks =
      line_in blocks (codes "except " ++ kind_name kind ++ as_text name) ++ statements_text body (suc blocks) ++ handlers_text others blocks

-- ---- the program
abbrev pub more_names : List Name → List ℕ
more_names [] = []
more_names (name ∷ names) = codes ", " ++ name ++ more_names names

abbrev pub names_text : List Name → List ℕ
names_text [] = []
names_text (name ∷ names) = name ++ more_names names

abbrev pub coroutine_text : Coroutine → List ℕ
coroutine_text coroutine =
    line_in 0 (codes "def " ++ coroutine.name ++ in_parentheses (names_text coroutine.parameters)) ++ statements_text coroutine.body 1 ++ end_in 0

abbrev pub coroutines_text : List Coroutine → List ℕ
coroutines_text [] = []
coroutines_text (first ∷ others) = coroutine_text first ++ coroutines_text others

abbrev pub profile_text : ℕ → List ℕ
profile_text profile = if nat_eq profile 1 then [] else line_in 0 (codes "profile " ++ decimal profile)

-- The canonical text of a program.
unfoldable pub canonical : Program → List ℕ
canonical program = profile_text program.profile ++ coroutines_text program.coroutines
