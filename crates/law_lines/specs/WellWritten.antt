-- Which lines a text can spell: names are names and no reserved words, numbers have no sign and are below 2 ^ 63, and
-- texts are ASCII.
-- Source: the Python language reference, "Identifiers", "Keywords", "Literals", cut to what scripts have.
use Rattle.std.specs.Prelude.{◌≡◌, ℕ, ◌^◌, ◌<◌, false, [], ◌∷◌, List, Option, Some, None, pos}
use Rattle.std.specs.List.{AllByRecursion}
use Rattle.model_tree.specs.Syntax.{Name, Constant, NoneConstant, TruthConstant, IntConstant, TextConstant, BytesConstant, Expr, Or, And, Not, Compare}
use Rattle.model_tree.specs.Syntax.{Calculate, Negate, Index, Literal, Variable, ListOf, Apply, MakeError, Exprs, no_exprs, expr_then, exprs, Target, Await}
use Rattle.model_tree.specs.Syntax.{Call, Ask, SpawnTask, CreateTask, ListenAt}
use Rattle.model_tree.specs.Known.{is_taken}
use Rattle.model_text.specs.Cuts.{IsName}
use Rattle.model_text.specs.Words.{reserved_of}
use Rattle.model_text.specs.Forms.{Profile, Def, Assign, Yield, YieldFrom, Print, Raise, Return, Pass, If, Else, While, Try, Except, Finally, WithGroup}
use Rattle.model_text.specs.Forms.{WithTimeout, End}
use Rattle.model_text.specs.SecondPass.{Line}

-- a name that is no reserved word
abbrev pub WellNamed : Name → Type 0
WellNamed name = IsName name × (reserved_of name ≡ None)

abbrev pub AllNamed : List Name → Type 0
AllNamed names = AllByRecursion WellNamed names

abbrev pub PerhapsNamed : Option Name → Type 0
PerhapsNamed None = Unit {0}
PerhapsNamed (Some name) = WellNamed name

abbrev pub WellWrittenConstant : Constant → Type 0
WellWrittenConstant NoneConstant = Unit {0}
WellWrittenConstant (TruthConstant truth) = Unit {0}
WellWrittenConstant (IntConstant number) = (size : ℕ) × (number ≡ pos size) × (size < 2 ^ 63)
WellWrittenConstant (TextConstant bytes) = AllByRecursion (λ byte. byte < 128) bytes
WellWrittenConstant (BytesConstant bytes) = AllByRecursion (λ byte. byte < 256) bytes

abbrev mutual
  pub WellWrittenExpr : Expr → Type 0
  WellWrittenExpr (Or left right) = WellWrittenExpr left × WellWrittenExpr right
  WellWrittenExpr (And left right) = WellWrittenExpr left × WellWrittenExpr right
  WellWrittenExpr (Not operand) = WellWrittenExpr operand
  WellWrittenExpr (Compare comparison left right) = WellWrittenExpr left × WellWrittenExpr right
  WellWrittenExpr (Calculate operator left right) = WellWrittenExpr left × WellWrittenExpr right
  WellWrittenExpr (Negate operand) = WellWrittenExpr operand
  WellWrittenExpr (Index sequence index) = WellWrittenExpr sequence × WellWrittenExpr index
  WellWrittenExpr (Literal constant) = WellWrittenConstant constant
  WellWrittenExpr (Variable name) = WellNamed name
  WellWrittenExpr (ListOf items) = WellWrittenExprs items
  WellWrittenExpr (Apply function argument) = WellWrittenExpr argument
  WellWrittenExpr (MakeError kind message) = WellWrittenExpr message

  pub WellWrittenExprs : Exprs → Type 0
  WellWrittenExprs no_exprs = Unit {0}
  WellWrittenExprs (expr_then first others) = WellWrittenExpr first × WellWrittenExprs others

-- A coroutine of the script isn't called by a name that the language has for itself.
abbrev pub WellWrittenTarget : Target → Type 0
WellWrittenTarget (Await name) = WellNamed name
WellWrittenTarget (Call coroutine arguments) =
    WellNamed coroutine × (is_taken coroutine ≡ false) × WellWrittenExprs arguments
WellWrittenTarget (Ask request arguments) = WellWrittenExprs arguments
WellWrittenTarget (SpawnTask coroutine arguments) = WellNamed coroutine × WellWrittenExprs arguments
WellWrittenTarget (CreateTask group coroutine arguments) =
    WellWrittenExpr group × WellNamed coroutine × WellWrittenExprs arguments
WellWrittenTarget (ListenAt port handler) = WellWrittenExpr port × WellNamed handler

-- something is printed
abbrev pub WellWrittenItems : List Expr → Type 0
WellWrittenItems [] = ⊥
WellWrittenItems (first ∷ others) = WellWrittenExprs (exprs (first ∷ others))

abbrev pub PerhapsWritten : Option Expr → Type 0
PerhapsWritten None = Unit {0}
PerhapsWritten (Some value) = WellWrittenExpr value

abbrev pub WellWritten : Line → Type 0
WellWritten (Profile number) = number < 2 ^ 63
WellWritten (Def name parameters) = WellNamed name × AllNamed parameters
WellWritten (Assign name value) = WellNamed name × WellWrittenExpr value
WellWritten Yield = Unit {0}
WellWritten (YieldFrom into target) = PerhapsNamed into × WellWrittenTarget target
WellWritten (Print items) = WellWrittenItems items
WellWritten (Raise fault) = WellWrittenExpr fault
WellWritten (Return value) = PerhapsWritten value
WellWritten Pass = Unit {0}
WellWritten (If test) = WellWrittenExpr test
WellWritten Else = Unit {0}
WellWritten (While test) = WellWrittenExpr test
WellWritten Try = Unit {0}
WellWritten (Except kind name) = PerhapsNamed name
WellWritten Finally = Unit {0}
WellWritten (WithGroup name) = WellNamed name
WellWritten (WithTimeout delay name) = WellWrittenExpr delay × WellNamed name
WellWritten End = Unit {0}
