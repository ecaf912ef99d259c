-- The canonical text of a line, its tokens, and the line before names are looked up.
use Rattle.std.specs.Prelude.{ℕ, pos, List, [], ◌∷◌, ◌++◌, Option, Some, None, map, option_map, codes}
use Rattle.std.specs.Fmt.{decimal}
use Rattle.model_value.specs.Kinds.{kind_name}
use Rattle.model_tree.specs.Syntax.{Name, Expr, Exprs, exprs, exprs_of, Target, Await, Call, Ask, SpawnTask, CreateTask, ListenAt, GroupBlock, TimeoutBlock}
use Rattle.model_tree.specs.Known.{request_text, spawn_text, create_text, listen_text}
use Rattle.model_text.specs.declared.symbol.Symbol.TheVariants as symbol
use Rattle.model_text.specs.declared.reserved_word.ReservedWord.TheVariants as word
use Rattle.model_text.specs.Words.{Lexeme, Reserved, Named, Number, Sign}
use Rattle.model_text.specs.Terms.{Term}
use Rattle.model_text.specs.Levels.{Arguments}
use Rattle.model_text.specs.Forms.{Profile, Def, Assign, Yield, YieldFrom, Print, Raise, Return, Pass, If, Else, While, Try, Except, Finally, WithGroup}
use Rattle.model_text.specs.Forms.{WithTimeout, End, Goal, Awaited, Asked, Spelled}
use Rattle.model_text.specs.SecondPass.{Line}
use Rattle.model_text.specs.Canonical.{in_parentheses, expr_text, exprs_text, target_text, into_text, returned_text, as_text, manager_text, names_text}
use Rattle.law_lines.specs.Lexemes.{within_parentheses, expr_lexemes, exprs_lexemes, more_lexemes, term_from}

-- ---- the text, without the spaces before it and the newline behind it
abbrev pub line_text : Line → List ℕ
line_text (Profile number) = codes "profile " ++ decimal number
line_text (Def name parameters) = codes "def " ++ name ++ in_parentheses (names_text parameters)
line_text (Assign name value) = name ++ codes " = " ++ expr_text value
line_text Yield = codes "yield"
line_text (YieldFrom into target) = into_text into ++ codes "yield from " ++ target_text target
line_text (Print items) = codes "print " ++ exprs_text (exprs items)
line_text (Raise fault) = codes "raise " ++ expr_text fault
line_text (Return value) = codes "return" ++ returned_text value
line_text Pass = codes "pass"
line_text (If test) = codes "if " ++ expr_text test
line_text Else = codes "else"
line_text (While test) = codes "while " ++ expr_text test
line_text Try = codes "try"
line_text (Except kind name) = codes "except " ++ kind_name kind ++ as_text name
line_text Finally = codes "finally"
line_text (WithGroup name) = codes "with " ++ manager_text GroupBlock ++ codes " as " ++ name
line_text (WithTimeout delay name) = codes "with " ++ manager_text (TimeoutBlock delay) ++ codes " as " ++ name
line_text End = codes "end"

-- ---- the tokens
abbrev pub more_named : List Name → List Lexeme
more_named [] = []
more_named (name ∷ names) = Sign symbol.Comma ∷ Named name ∷ more_named names

abbrev pub named : List Name → List Lexeme
named [] = []
named (name ∷ names) = Named name ∷ more_named names

abbrev pub target_lexemes : Target → List Lexeme
target_lexemes (Await name) = Named name ∷ []
target_lexemes (Call coroutine arguments) = Named coroutine ∷ within_parentheses (exprs_lexemes arguments)
target_lexemes (Ask request arguments) = Named (request_text request) ∷ within_parentheses (exprs_lexemes arguments)
target_lexemes (SpawnTask coroutine arguments) =
    Named spawn_text ∷ within_parentheses (Named coroutine ∷ more_lexemes arguments)
target_lexemes (CreateTask group coroutine arguments) =
    Named create_text ∷ within_parentheses (expr_lexemes group ++ Sign symbol.Comma ∷ Named coroutine ∷ more_lexemes arguments)
target_lexemes (ListenAt port handler) =
    Named listen_text ∷ within_parentheses (expr_lexemes port ++ Sign symbol.Comma ∷ Named handler ∷ [])

abbrev pub into_lexemes : Option Name → List Lexeme
into_lexemes None = []
into_lexemes (Some name) = Named name ∷ Sign symbol.Assign ∷ []

abbrev pub returned_lexemes : Option Expr → List Lexeme
returned_lexemes None = []
returned_lexemes (Some value) = expr_lexemes value

abbrev pub as_lexemes : Option Name → List Lexeme
as_lexemes None = []
as_lexemes (Some name) = Reserved word.As ∷ Named name ∷ []

abbrev pub line_lexemes : Line → List Lexeme
line_lexemes (Profile number) = Reserved word.Profile ∷ Number (pos number) ∷ []
line_lexemes (Def name parameters) = Reserved word.Def ∷ Named name ∷ within_parentheses (named parameters)
line_lexemes (Assign name value) = Named name ∷ Sign symbol.Assign ∷ expr_lexemes value
line_lexemes Yield = Reserved word.Yield ∷ []
line_lexemes (YieldFrom into target) =
    into_lexemes into ++ Reserved word.Yield ∷ Reserved word.From ∷ target_lexemes target
line_lexemes (Print items) = Reserved word.Print ∷ exprs_lexemes (exprs items)
line_lexemes (Raise fault) = Reserved word.Raise ∷ expr_lexemes fault
line_lexemes (Return value) = Reserved word.Return ∷ returned_lexemes value
line_lexemes Pass = Reserved word.Pass ∷ []
line_lexemes (If test) = Reserved word.If ∷ expr_lexemes test
line_lexemes Else = Reserved word.Else ∷ []
line_lexemes (While test) = Reserved word.While ∷ expr_lexemes test
line_lexemes Try = Reserved word.Try ∷ []
line_lexemes (Except kind name) = Reserved word.Except ∷ Named (kind_name kind) ∷ as_lexemes name
line_lexemes Finally = Reserved word.Finally ∷ []
line_lexemes (WithGroup name) = Reserved word.With ∷ Reserved word.Group ∷ Reserved word.As ∷ Named name ∷ []
line_lexemes (WithTimeout delay name) =
    Reserved word.With ∷ Reserved word.Timeout ∷ (within_parentheses (expr_lexemes delay) ++ Reserved word.As ∷ Named name ∷ [])
line_lexemes End = Reserved word.End ∷ []

-- ---- what the tokens spell
abbrev pub row_from : Exprs → List Term
row_from row = map term_from (exprs_of row)

abbrev pub arguments_from : List Term → Option Name → List Term → Arguments
arguments_from before bare after = record { before = before; bare = bare; after = after }

abbrev pub goal_from : Target → Goal
goal_from (Await name) = Awaited name
goal_from (Call coroutine arguments) = Asked coroutine (arguments_from (row_from arguments) None [])
goal_from (Ask request arguments) = Asked (request_text request) (arguments_from (row_from arguments) None [])
goal_from (SpawnTask coroutine arguments) =
    Asked spawn_text (arguments_from [] (Some coroutine) (row_from arguments))
goal_from (CreateTask group coroutine arguments) =
    Asked create_text (arguments_from (term_from group ∷ []) (Some coroutine) (row_from arguments))
goal_from (ListenAt port handler) = Asked listen_text (arguments_from (term_from port ∷ []) (Some handler) [])

abbrev pub spelled : Line → Spelled
spelled (Profile number) = Profile number
spelled (Def name parameters) = Def name parameters
spelled (Assign name value) = Assign name (term_from value)
spelled Yield = Yield
spelled (YieldFrom into target) = YieldFrom into (goal_from target)
spelled (Print items) = Print (map term_from items)
spelled (Raise fault) = Raise (term_from fault)
spelled (Return value) = Return (option_map term_from value)
spelled Pass = Pass
spelled (If test) = If (term_from test)
spelled Else = Else
spelled (While test) = While (term_from test)
spelled Try = Try
spelled (Except kind name) = Except (kind_name kind) name
spelled Finally = Finally
spelled (WithGroup name) = WithGroup name
spelled (WithTimeout delay name) = WithTimeout (term_from delay) name
spelled End = End
