-- A program whose variables go by their numbers, which are their places among the variables of their coroutine, from 0.
-- Source: CPython's `co_varnames` and `LOAD_FAST`.
use Rattle.std.specs.Prelude.{ℕ, zero, suc, List, [], ◌∷◌, map, length, Option, Some, None, if◌then◌else◌}
use Rattle.std.specs.Str.{bytes_eq}
use Rattle.model_value.specs.Value.{Value}
use Rattle.model_tree.specs.Syntax.{Name, Expr, Or, And, Not, Compare, Calculate, Negate, Index, Literal, Variable, ListOf, Apply, MakeError, Exprs, no_exprs}
use Rattle.model_tree.specs.Syntax.{expr_then, Target, Await, Call, Ask, SpawnTask, CreateTask, ListenAt, Manager, GroupBlock, TimeoutBlock, Statement, Assign}
use Rattle.model_tree.specs.Syntax.{Yield, YieldFrom, Print, Raise, Return, Pass, If, While, Try, With, Statements, no_statements, statement_then, Branch}
use Rattle.model_tree.specs.Syntax.{no_branch, branch, Handlers, no_handlers, handler_then, Coroutine, Program}
use Rattle.model_says.specs.Variables.{Env, variables_of}

-- the name of the variable with a number: the number alone
abbrev pub local : ℕ → Name
local number = number ∷ []

-- the names of so many variables, from a number on
abbrev pub locals : (from count : ℕ) → List Name
locals from zero = []
locals from (suc count) = local from ∷ locals (suc from) count

-- variables from a number on with their values
abbrev pub holding : (from : ℕ) → List Value → Env
holding from [] = []
holding from (value ∷ values) =
    record { name = local from; value = value } ∷ holding (suc from) values

-- the number of the first variable of a name; of a name that none has, how many variables there are
abbrev pub number_of : List Name → Name → ℕ
number_of [] name = 0
number_of (first ∷ others) name = if bytes_eq first name then 0 else suc (number_of others name)

-- Of a coroutine with these variables:
module _ (names : List Name) where
  abbrev pub numbered_name : Name → Name
  numbered_name name = local (number_of names name)

  abbrev pub numbered_option : Option Name → Option Name
  numbered_option None = None
  numbered_option (Some name) = Some (numbered_name name)

  abbrev mutual
    pub numbered_expr : Expr → Expr
    numbered_expr (Or left right) = Or (numbered_expr left) (numbered_expr right)
    numbered_expr (And left right) = And (numbered_expr left) (numbered_expr right)
    numbered_expr (Not operand) = Not (numbered_expr operand)
    numbered_expr (Compare comparison left right) =
        Compare comparison (numbered_expr left) (numbered_expr right)
    numbered_expr (Calculate operator left right) =
        Calculate operator (numbered_expr left) (numbered_expr right)
    numbered_expr (Negate operand) = Negate (numbered_expr operand)
    numbered_expr (Index sequence index) = Index (numbered_expr sequence) (numbered_expr index)
    numbered_expr (Literal constant) = Literal constant
    numbered_expr (Variable name) = Variable (numbered_name name)
    numbered_expr (ListOf items) = ListOf (numbered_exprs items)
    numbered_expr (Apply function argument) = Apply function (numbered_expr argument)
    numbered_expr (MakeError kind message) = MakeError kind (numbered_expr message)

    pub numbered_exprs : Exprs → Exprs
    numbered_exprs no_exprs = no_exprs
    numbered_exprs (expr_then first others) =
        expr_then (numbered_expr first) (numbered_exprs others)

  abbrev pub numbered_value : Option Expr → Option Expr
  numbered_value None = None
  numbered_value (Some value) = Some (numbered_expr value)

  -- coroutines keep their names
  abbrev pub numbered_target : Target → Target
  numbered_target (Await name) = Await (numbered_name name)
  numbered_target (Call coroutine arguments) = Call coroutine (numbered_exprs arguments)
  numbered_target (Ask request arguments) = Ask request (numbered_exprs arguments)
  numbered_target (SpawnTask coroutine arguments) = SpawnTask coroutine (numbered_exprs arguments)
  numbered_target (CreateTask group coroutine arguments) =
      CreateTask (numbered_expr group) coroutine (numbered_exprs arguments)
  numbered_target (ListenAt port handler) = ListenAt (numbered_expr port) handler

  abbrev pub numbered_manager : Manager → Manager
  numbered_manager GroupBlock = GroupBlock
  numbered_manager (TimeoutBlock delay) = TimeoutBlock (numbered_expr delay)

  abbrev mutual
    pub numbered_statement : Statement → Statement
    numbered_statement (Assign name value) = Assign (numbered_name name) (numbered_expr value)
    numbered_statement Yield = Yield
    numbered_statement (YieldFrom into target) =
        YieldFrom (numbered_option into) (numbered_target target)
    numbered_statement (Print items) = Print (numbered_exprs items)
    numbered_statement (Raise fault) = Raise (numbered_expr fault)
    numbered_statement (Return value) = Return (numbered_value value)
    numbered_statement Pass = Pass
    numbered_statement (If test body otherwise) =
        If (numbered_expr test) (numbered_statements body) (numbered_branch otherwise)
    numbered_statement (While test body) = While (numbered_expr test) (numbered_statements body)
    numbered_statement (Try body handlers finally) =
        Try (numbered_statements body) (numbered_handlers handlers) (numbered_branch finally)
    numbered_statement (With manager name body) =
        With (numbered_manager manager) (numbered_name name) (numbered_statements body)

    pub numbered_statements : Statements → Statements
    numbered_statements no_statements = no_statements
    numbered_statements (statement_then first others) =
        statement_then (numbered_statement first) (numbered_statements others)

    pub numbered_branch : Branch → Branch
    numbered_branch no_branch = no_branch
    numbered_branch (branch body) = branch (numbered_statements body)

    pub numbered_handlers : Handlers → Handlers
    numbered_handlers no_handlers = no_handlers
    numbered_handlers (handler_then kind name body others) =
        handler_then kind (numbered_option name) (numbered_statements body)
        (numbered_handlers others)

abbrev pub numbered_coroutine : Coroutine → Coroutine
numbered_coroutine coroutine = record coroutine {
  parameters = locals 0 (length coroutine.parameters);
  body = numbered_statements (variables_of coroutine) coroutine.body;
}

abbrev pub numbered_program : Program → Program
numbered_program program = record program { coroutines = map numbered_coroutine program.coroutines }
