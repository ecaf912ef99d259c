-- A statement as an expression that no other statement has, and back. By it, and by the code of expressions, proofs tell
-- statements apart, and types of code may be seen as statements. The expression means nothing.
use denote.Enum.Declared.{tag_of}
use Rattle.std.specs.Prelude.{◌≡◌, ℕ, pos, nat_abs, true, false, List, [], Option, Some, None, slice_index_or}
use Rattle.std.proofs.Common.{refl, ap}
use Rattle.std.specs.Coded.{Coded, code_by, coded×, coded_ℕ, coded_list}
use Rattle.model_value.specs.declared.kind.Kind.TheVariants.{BaseException}
use Rattle.model_tree.specs.contracts.request_name.RequestName.{the_type as request_type}
use Rattle.model_tree.specs.declared.request_name.RequestName.{RequestName}
use Rattle.model_tree.specs.declared.request_name.RequestName.TheVariants.{MakeFuture}
use Rattle.model_tree.specs.declared.operator.Operator.TheVariants.{Add}
use Rattle.model_tree.specs.declared.operator.Comparison.TheVariants.{Equal}
use Rattle.model_tree.specs.declared.function.Function.TheVariants.{Len}
use Rattle.model_tree.specs.Known.{requests}
use Rattle.model_tree.specs.Syntax as plain
use Rattle.model_tree.specs.Syntax.{Name, NoneConstant, TruthConstant, IntConstant, Expr, Or, And, Not, Compare, Calculate, Negate, Index, Literal, Variable}
use Rattle.model_tree.specs.Syntax.{ListOf, Apply, MakeError, Exprs, no_exprs, expr_then, Target, Await, Call, Ask, SpawnTask, CreateTask, ListenAt, Manager}
use Rattle.model_tree.specs.Syntax.{GroupBlock, TimeoutBlock, Statement, Statements, no_statements, statement_then, Branch, no_branch, branch, Handlers}
use Rattle.model_tree.specs.Syntax.{no_handlers, handler_then, Handler, Coroutine, Program}
use Rattle.aio_syntax.specs.ExprCode.{coded_expr}

-- ---- what stands in a statement beside its parts
abbrev request_expr : RequestName → Expr
request_expr request = Literal (IntConstant (pos (tag_of request_type request)))

abbrev request_from : Expr → RequestName
request_from (Literal (IntConstant tag)) = slice_index_or requests (nat_abs tag) MakeFuture
request_from _ = MakeFuture

request_again : (request : RequestName) → request_from (request_expr request) ≡ request
request_again MakeFuture = refl
request_again _ = refl

abbrev name_expr : Option Name → Expr
name_expr None = Literal NoneConstant
name_expr (Some name) = Variable name

abbrev name_from : Expr → Option Name
name_from (Variable name) = Some name
name_from _ = None

name_again : (name : Option Name) → name_from (name_expr name) ≡ name
name_again None = refl
name_again (Some name) = refl

abbrev value_expr : Option Expr → Expr
value_expr None = Literal NoneConstant
value_expr (Some value) = Not value

abbrev value_from : Expr → Option Expr
value_from (Not value) = Some value
value_from _ = None

value_again : (value : Option Expr) → value_from (value_expr value) ≡ value
value_again None = refl
value_again (Some value) = refl

abbrev target_expr : Target → Expr
target_expr (Await name) = Variable name
target_expr (Call coroutine arguments) = Index (Variable coroutine) (ListOf arguments)
target_expr (Ask request arguments) = Or (request_expr request) (ListOf arguments)
target_expr (SpawnTask coroutine arguments) = And (Variable coroutine) (ListOf arguments)
target_expr (CreateTask group coroutine arguments) = Compare Equal group (Index (Variable coroutine) (ListOf arguments))
target_expr (ListenAt port handler) = Calculate Add port (Variable handler)

abbrev target_from : Expr → Target
target_from (Variable name) = Await name
target_from (Index (Variable coroutine) (ListOf arguments)) = Call coroutine arguments
target_from (Or request (ListOf arguments)) = Ask (request_from request) arguments
target_from (And (Variable coroutine) (ListOf arguments)) = SpawnTask coroutine arguments
target_from (Compare comparison group (Index (Variable coroutine) (ListOf arguments))) = CreateTask group coroutine arguments
target_from (Calculate operator port (Variable handler)) = ListenAt port handler
target_from _ = Await []

target_again : (target : Target) → target_from (target_expr target) ≡ target
target_again (Await name) = refl
target_again (Call coroutine arguments) = refl
target_again (Ask request arguments) = ap (λ r. Ask r arguments) (request_again request)
target_again (SpawnTask coroutine arguments) = refl
target_again (CreateTask group coroutine arguments) = refl
target_again (ListenAt port handler) = refl

abbrev manager_expr : Manager → Expr
manager_expr GroupBlock = Literal NoneConstant
manager_expr (TimeoutBlock delay) = Not delay

abbrev manager_from : Expr → Manager
manager_from (Not delay) = TimeoutBlock delay
manager_from _ = GroupBlock

manager_again : (manager : Manager) → manager_from (manager_expr manager) ≡ manager
manager_again GroupBlock = refl
manager_again (TimeoutBlock delay) = refl

-- ---- statements
abbrev mutual
  statement_expr : Statement → Expr
  statement_expr (plain.Assign name value) = Compare Equal (Variable name) value
  statement_expr plain.Yield = Literal (TruthConstant true)
  statement_expr (plain.YieldFrom into target) = And (name_expr into) (target_expr target)
  statement_expr (plain.Print items) = ListOf items
  statement_expr (plain.Raise fault) = Negate fault
  statement_expr (plain.Return value) = Not (value_expr value)
  statement_expr plain.Pass = Literal (TruthConstant false)
  statement_expr (plain.If test body otherwise) = Or test (Or (ListOf (statements_exprs body)) (branch_expr otherwise))
  statement_expr (plain.While test body) = Index test (ListOf (statements_exprs body))
  statement_expr (plain.Try body handlers finally) =
      Calculate Add (ListOf (statements_exprs body)) (Or (ListOf (handlers_exprs handlers)) (branch_expr finally))
  statement_expr (plain.With manager name body) =
      Apply Len (Or (manager_expr manager) (Index (Variable name) (ListOf (statements_exprs body))))

  statements_exprs : Statements → Exprs
  statements_exprs no_statements = no_exprs
  statements_exprs (statement_then first others) = expr_then (statement_expr first) (statements_exprs others)

  branch_expr : Branch → Expr
  branch_expr no_branch = Literal NoneConstant
  branch_expr (branch body) = ListOf (statements_exprs body)

  handlers_exprs : Handlers → Exprs
  handlers_exprs no_handlers = no_exprs
  handlers_exprs (handler_then kind name body others) =
      expr_then (MakeError kind (Or (name_expr name) (ListOf (statements_exprs body)))) (handlers_exprs others)

abbrev mutual
  statement_from : Expr → Statement
  statement_from (Compare comparison (Variable name) value) = plain.Assign name value
  statement_from (Literal (TruthConstant true)) = plain.Yield
  statement_from (And into target) = plain.YieldFrom (name_from into) (target_from target)
  statement_from (ListOf items) = plain.Print items
  statement_from (Negate fault) = plain.Raise fault
  statement_from (Not value) = plain.Return (value_from value)
  statement_from (Or test (Or (ListOf body) otherwise)) = plain.If test (statements_from body) (branch_from otherwise)
  statement_from (Index test (ListOf body)) = plain.While test (statements_from body)
  statement_from (Calculate operator (ListOf body) (Or (ListOf handlers) finally)) =
      plain.Try (statements_from body) (handlers_from handlers) (branch_from finally)
  statement_from (Apply function (Or manager (Index (Variable name) (ListOf body)))) =
      plain.With (manager_from manager) name (statements_from body)
  statement_from _ = plain.Pass

  statements_from : Exprs → Statements
  statements_from no_exprs = no_statements
  statements_from (expr_then first others) = statement_then (statement_from first) (statements_from others)

  branch_from : Expr → Branch
  branch_from (ListOf body) = branch (statements_from body)
  branch_from _ = no_branch

  handlers_from : Exprs → Handlers
  handlers_from (expr_then (MakeError kind (Or name (ListOf body))) others) =
      handler_then kind (name_from name) (statements_from body) (handlers_from others)
  handlers_from _ = no_handlers

mutual
  pub statement_again : (statement : Statement) → statement_from (statement_expr statement) ≡ statement
  statement_again (plain.Assign name value) = refl
  statement_again plain.Yield = refl
  statement_again (plain.YieldFrom into target) = λ i. plain.YieldFrom (name_again into i) (target_again target i)
  statement_again (plain.Print items) = refl
  statement_again (plain.Raise fault) = refl
  statement_again (plain.Return value) = ap plain.Return (value_again value)
  statement_again plain.Pass = refl
  statement_again (plain.If test body otherwise) = λ i. plain.If test (statements_again body i) (branch_again otherwise i)
  statement_again (plain.While test body) = ap (plain.While test) (statements_again body)
  statement_again (plain.Try body handlers finally) =
      λ i. plain.Try (statements_again body i) (handlers_again handlers i) (branch_again finally i)
  statement_again (plain.With manager name body) = λ i. plain.With (manager_again manager i) name (statements_again body i)

  statements_again : (statements : Statements) → statements_from (statements_exprs statements) ≡ statements
  statements_again no_statements = refl
  statements_again (statement_then first others) = λ i. statement_then (statement_again first i) (statements_again others i)

  branch_again : (b : Branch) → branch_from (branch_expr b) ≡ b
  branch_again no_branch = refl
  branch_again (branch body) = ap branch (statements_again body)

  handlers_again : (handlers : Handlers) → handlers_from (handlers_exprs handlers) ≡ handlers
  handlers_again no_handlers = refl
  handlers_again (handler_then kind name body others) =
      λ i. handler_then kind (name_again name i) (statements_again body i) (handlers_again others i)

abbrev pub coded_statement : Coded Statement
coded_statement = code_by Expr (coded_expr (coded_list coded_ℕ)) statement_expr statement_from statement_again

-- ---- clauses, coroutines and programs
abbrev handler_expr : Handler → Expr
handler_expr handler = MakeError handler.kind (Or (name_expr handler.name) (ListOf (statements_exprs handler.body)))

abbrev handler_from : Expr → Handler
handler_from (MakeError kind (Or name (ListOf body))) =
    record { kind = kind; name = name_from name; body = statements_from body }
handler_from _ = record { kind = BaseException; name = None; body = no_statements }

pub handler_again : (handler : Handler) → handler_from (handler_expr handler) ≡ handler
handler_again handler = λ i. record { kind = handler.kind; name = name_again handler.name i; body = statements_again handler.body i }

abbrev pub coded_handler : Coded Handler
coded_handler = code_by Expr (coded_expr (coded_list coded_ℕ)) handler_expr handler_from handler_again

abbrev body_expr : Statements → Expr
body_expr body = ListOf (statements_exprs body)

abbrev body_from : Expr → Statements
body_from (ListOf body) = statements_from body
body_from _ = no_statements

abbrev coroutine_parts : Coroutine → Name × (List Name × Expr)
coroutine_parts coroutine = (coroutine.name, (coroutine.parameters, body_expr coroutine.body))

abbrev coroutine_from : Name × (List Name × Expr) → Coroutine
coroutine_from parts = record { name = parts.0; parameters = parts.1.0; body = body_from parts.1.1 }

pub coroutine_again : (coroutine : Coroutine) → coroutine_from (coroutine_parts coroutine) ≡ coroutine
coroutine_again coroutine =
    λ i. record { name = coroutine.name; parameters = coroutine.parameters; body = statements_again coroutine.body i }

abbrev pub coded_coroutine : Coded Coroutine
coded_coroutine =
    code_by (Name × (List Name × Expr))
    (coded× (coded_list coded_ℕ) (coded× (coded_list (coded_list coded_ℕ)) (coded_expr (coded_list coded_ℕ))))
    coroutine_parts coroutine_from coroutine_again

abbrev program_parts : Program → ℕ × List Coroutine
program_parts program = (program.profile, program.coroutines)

abbrev program_from : ℕ × List Coroutine → Program
program_from parts = record { profile = parts.0; coroutines = parts.1 }

pub program_again : (program : Program) → program_from (program_parts program) ≡ program
program_again program = refl

abbrev pub coded_program : Coded Program
coded_program =
    code_by (ℕ × List Coroutine) (coded× coded_ℕ (coded_list coded_coroutine)) program_parts program_from program_again
