-- Short names for the parts of scripts, so that a row reads as its script does.
use Rattle.std.specs.Prelude.{ℕ, pos, true, false, List, [], map, Some, None}
use Prim.Native.String.{String}
use lib.Chars.{codes}
use Rattle.model_value.specs.declared.kind.Kind.{Kind}
use Rattle.model_tree.specs.declared.operator.Operator.TheVariants.{Add, Subtract, Multiply, FloorDivide, Remainder}
use Rattle.model_tree.specs.declared.operator.Comparison.TheVariants as comparison
use Rattle.model_tree.specs.declared.request_name.RequestName.{RequestName}
use Rattle.model_tree.specs.Syntax.{NoneConstant, TruthConstant, IntConstant, TextConstant, BytesConstant, Expr, Compare, Calculate, Literal, Variable, ListOf}
use Rattle.model_tree.specs.Syntax.{exprs, Target, Call, Ask, GroupBlock, TimeoutBlock, Statement, Assign, YieldFrom, Print, Return, If, While, Try, With}
use Rattle.model_tree.specs.Syntax.{statements, branch, no_branch, Handler, handlers, Coroutine, Program}

-- ---- expressions
abbrev pub none : Expr
none = Literal NoneConstant

abbrev pub yes : Expr
yes = Literal (TruthConstant true)

abbrev pub no : Expr
no = Literal (TruthConstant false)

abbrev pub int : ℕ → Expr
int n = Literal (IntConstant (pos n))

abbrev pub text : String → Expr
text s = Literal (TextConstant (codes s))

abbrev pub bytes : List ℕ → Expr
bytes b = Literal (BytesConstant b)

abbrev pub var : String → Expr
var s = Variable (codes s)

abbrev pub list : List Expr → Expr
list items = ListOf (exprs items)

infixl 170 ◌plus◌
abbrev pub ◌plus◌ : Expr → Expr → Expr
a plus b = Calculate Add a b

infixl 170 ◌less◌
abbrev pub ◌less◌ : Expr → Expr → Expr
a less b = Calculate Subtract a b

infixl 180 ◌times◌
abbrev pub ◌times◌ : Expr → Expr → Expr
a times b = Calculate Multiply a b

infixl 180 ◌over◌
abbrev pub ◌over◌ : Expr → Expr → Expr
a over b = Calculate FloorDivide a b

infixl 180 ◌modulo◌
abbrev pub ◌modulo◌ : Expr → Expr → Expr
a modulo b = Calculate Remainder a b

infix 160 ◌equals◌
abbrev pub ◌equals◌ : Expr → Expr → Expr
a equals b = Compare comparison.Equal a b

infix 160 ◌differs◌
abbrev pub ◌differs◌ : Expr → Expr → Expr
a differs b = Compare comparison.NotEqual a b

infix 160 ◌below◌
abbrev pub ◌below◌ : Expr → Expr → Expr
a below b = Compare comparison.Less a b

infix 160 ◌atmost◌
abbrev pub ◌atmost◌ : Expr → Expr → Expr
a atmost b = Compare comparison.LessOrEqual a b

infix 160 ◌above◌
abbrev pub ◌above◌ : Expr → Expr → Expr
a above b = Compare comparison.Greater a b

infix 160 ◌atleast◌
abbrev pub ◌atleast◌ : Expr → Expr → Expr
a atleast b = Compare comparison.GreaterOrEqual a b

-- ---- statements
infix 150 ◌:=◌
abbrev pub ◌:=◌ : String → Expr → Statement
name := value = Assign (codes name) value

-- `NAME = yield from TARGET`
infix 150 ◌:=from◌
abbrev pub ◌:=from◌ : String → Target → Statement
name :=from target = YieldFrom (Some (codes name)) target

abbrev pub yield_from : Target → Statement
yield_from target = YieldFrom None target

abbrev pub call : String → List Expr → Target
call name arguments = Call (codes name) (exprs arguments)

abbrev pub ask : RequestName → List Expr → Target
ask name arguments = Ask name (exprs arguments)

abbrev pub print : List Expr → Statement
print items = Print (exprs items)

abbrev pub return : Expr → Statement
return value = Return (Some value)

abbrev pub when : Expr → List Statement → Statement
when test body = If test (statements body) no_branch

abbrev pub while : Expr → List Statement → Statement
while test body = While test (statements body)

abbrev pub try : List Statement → List Handler → Statement
try body clauses = Try (statements body) (handlers clauses) no_branch

abbrev pub try_finally : List Statement → List Statement → Statement
try_finally body finally = Try (statements body) (handlers []) (branch (statements finally))

abbrev pub except : Kind → List Statement → Handler
except kind body = record { kind = kind; name = None; body = statements body }

abbrev pub except_as : Kind → String → List Statement → Handler
except_as kind name body = record { kind = kind; name = Some (codes name); body = statements body }

abbrev pub with_timeout : Expr → String → List Statement → Statement
with_timeout delay name body = With (TimeoutBlock delay) (codes name) (statements body)

abbrev pub with_group : String → List Statement → Statement
with_group name body = With GroupBlock (codes name) (statements body)

-- ---- scripts
abbrev pub def : String → List String → List Statement → Coroutine
def name parameters body = record { name = codes name; parameters = map codes parameters; body = statements body }

abbrev pub script : List Coroutine → Program
script coroutines = record { profile = 1; coroutines = coroutines }
