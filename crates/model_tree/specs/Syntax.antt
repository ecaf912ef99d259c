-- A script as plain data: a program, its coroutines, their statements and expressions. It is what a script that was read
-- says, so its names are known and its calls have the right number of arguments.
-- Source: the language reference, "Expressions", "Simple statements", "Compound statements"; PEP 380 for `yield from`.
use Rattle.std.specs.Prelude.{ℕ, ℤ, Bool, List, [], ◌∷◌, Option}
use Rattle.model_value.specs.declared.kind.Kind.{Kind}
use Rattle.model_tree.specs.declared.operator.Operator.{Operator}
use Rattle.model_tree.specs.declared.operator.Comparison.{Comparison}
use Rattle.model_tree.specs.declared.function.Function.{Function}
use Rattle.model_tree.specs.declared.request_name.RequestName.{RequestName}

-- the bytes of a name
abbrev pub Name : Type 0
Name = List ℕ

-- what stands for itself
pub data Constant : Type 0 where
  NoneConstant : Constant
  TruthConstant : (truth : Bool) → Constant
  -- a number that a script spells has no sign: its unary `-` is an operation
  IntConstant : (number : ℤ) → Constant
  TextConstant : (bytes : List ℕ) → Constant
  BytesConstant : (bytes : List ℕ) → Constant

mutual
  -- one case for each level of operators, from the loosest, and for each primary; over what a variable is
  pub data ExprOver (V : Type 0) : Type 0 where
    Or : (left right : ExprOver V) → ExprOver V
    And : (left right : ExprOver V) → ExprOver V
    Not : (operand : ExprOver V) → ExprOver V
    Compare : (comparison : Comparison) (left right : ExprOver V) → ExprOver V
    Calculate : (operator : Operator) (left right : ExprOver V) → ExprOver V
    Negate : (operand : ExprOver V) → ExprOver V
    Index : (sequence index : ExprOver V) → ExprOver V
    Literal : (constant : Constant) → ExprOver V
    Variable : (name : V) → ExprOver V
    -- `[a, b]`
    ListOf : (items : ExprsOver V) → ExprOver V
    -- `len(x)`
    Apply : (function : Function) (argument : ExprOver V) → ExprOver V
    -- `error(KIND, t)`
    MakeError : (kind : Kind) (message : ExprOver V) → ExprOver V

  -- expressions in order: the items of a list, the arguments of a call
  pub data ExprsOver (V : Type 0) : Type 0 where
    no_exprs : ExprsOver V
    expr_then : (first : ExprOver V) (others : ExprsOver V) → ExprsOver V

-- those of a script
abbrev pub Expr : Type 0
Expr = ExprOver Name

abbrev pub Exprs : Type 0
Exprs = ExprsOver Name

-- what `yield from` hands over to
pub data Target : Type 0 where
  -- the future or task that a variable holds
  Await : (name : Name) → Target
  -- a coroutine of the script, which runs in the place of the call
  Call : (coroutine : Name) (arguments : Exprs) → Target
  -- a request whose arguments are all values
  Ask : (request : RequestName) (arguments : Exprs) → Target
  -- `spawn(NAME, ..)`
  SpawnTask : (coroutine : Name) (arguments : Exprs) → Target
  -- `create(g, NAME, ..)`
  CreateTask : (group : Expr) (coroutine : Name) (arguments : Exprs) → Target
  -- `listen(n, NAME)`
  ListenAt : (port : Expr) (handler : Name) → Target

-- what `with` enters
pub data Manager : Type 0 where
  GroupBlock : Manager
  TimeoutBlock : (delay : Expr) → Manager

mutual
  pub data Statement : Type 0 where
    -- `NAME = EXPR`
    Assign : (name : Name) (value : Expr) → Statement
    -- a bare `yield`
    Yield : Statement
    -- `yield from TARGET`, or `NAME = yield from TARGET`
    YieldFrom : (into : Option Name) (target : Target) → Statement
    Print : (items : Exprs) → Statement
    Raise : (fault : Expr) → Statement
    Return : (value : Option Expr) → Statement
    Pass : Statement
    If : (test : Expr) (body : Statements) (otherwise : Branch) → Statement
    While : (test : Expr) (body : Statements) → Statement
    Try : (body : Statements) (handlers : Handlers) (finally : Branch) → Statement
    -- `with MANAGER as NAME`
    With : (manager : Manager) (name : Name) (body : Statements) → Statement

  -- the statements of a block, in order
  pub data Statements : Type 0 where
    no_statements : Statements
    statement_then : (first : Statement) (others : Statements) → Statements

  -- an `else` or a `finally`, which may be left out
  pub data Branch : Type 0 where
    no_branch : Branch
    branch : (body : Statements) → Branch

  -- `except KIND`, or `except KIND as NAME`, in order
  pub data Handlers : Type 0 where
    no_handlers : Handlers
    handler_then : (kind : Kind) (name : Option Name) (body : Statements) (others : Handlers) → Handlers

-- `def NAME(NAME, ..)`
pub record Coroutine : Type 0 where
  pub name : Name
  pub parameters : List Name
  pub body : Statements

-- The coroutines stand in order, and their places are counted from 0.
pub record Program : Type 0 where
  pub profile : ℕ
  pub coroutines : List Coroutine

-- ---- rows as lists, and back
abbrev pub exprs_of : {V : Type 0} → ExprsOver V → List (ExprOver V)
exprs_of no_exprs = []
exprs_of (expr_then first others) = first ∷ exprs_of others

abbrev pub exprs : {V : Type 0} → List (ExprOver V) → ExprsOver V
exprs [] = no_exprs
exprs (first ∷ others) = expr_then first (exprs others)

abbrev pub statements_of : Statements → List Statement
statements_of no_statements = []
statements_of (statement_then first others) = first ∷ statements_of others

abbrev pub statements : List Statement → Statements
statements [] = no_statements
statements (first ∷ others) = statement_then first (statements others)

-- an `except` clause
pub record Handler : Type 0 where
  pub kind : Kind
  pub name : Option Name
  pub body : Statements

abbrev pub handlers : List Handler → Handlers
handlers [] = no_handlers
handlers (first ∷ others) = handler_then first.kind first.name first.body (handlers others)
