-- The canonical text of a line has the line's tokens.
use Rattle.std.proofs.Common.{◌≡◌, ℕ, List, [], ◌∷◌, ◌++◌, replicate, Some, None, Ok, pos, refl, sym, ap, ◌∙◌, append-nil}
use Rattle.std.specs.Prelude.{codes}
use Rattle.std.specs.Fmt.{decimal}
use Rattle.model_value.specs.Kinds.{kind_name}
use Rattle.model_tree.specs.Syntax.{Name, Expr, exprs, Target, Await, Call, Ask, SpawnTask, CreateTask, ListenAt}
use Rattle.model_tree.specs.Known.{request_text, spawn_text, create_text, listen_text}
use Rattle.model_text.specs.declared.symbol.Symbol.TheVariants as symbol
use Rattle.model_text.specs.declared.reserved_word.ReservedWord.{ReservedWord}
use Rattle.model_text.specs.declared.reserved_word.ReservedWord.TheVariants as word
use Rattle.model_text.specs.Tokens.{Token, tokens_of}
use Rattle.model_text.specs.Cuts.{IsName}
use Rattle.model_text.specs.Words.{Lexeme, Reserved, Named, Number, Sign, reserved_of, lexemes_of}
use Rattle.model_text.specs.Forms.{Profile, Def, Assign, Yield, YieldFrom, Print, Raise, Return, Pass, If, Else, While, Try, Except, Finally, WithGroup}
use Rattle.model_text.specs.Forms.{WithTimeout, End}
use Rattle.model_text.specs.SecondPass.{Line}
use Rattle.model_text.specs.Canonical.{in_parentheses, expr_text, exprs_text, more_text, target_text, more_names, names_text}
use Rattle.law_tokens.proofs.LineLemmas.{tokens_of-Reads}
use Rattle.law_lines.specs.Lexemes.{within_parentheses, expr_lexemes, exprs_lexemes, more_lexemes}
use Rattle.law_lines.specs.LineTexts.{line_text, more_named, named, target_lexemes, line_lexemes}
use Rattle.law_lines.specs.WellWritten.{WellNamed, AllNamed, WellWrittenExpr, WellWrittenTarget, WellWritten}
use Rattle.law_lines.proofs.Fronts.{Quiet, Leads, Fronts, fronts-then, leads-then, leads-leads, regrouped, nothing-fronts, blanks-lead}
use Rattle.law_lines.proofs.TokenTexts.{name-fronts, word-fronts, request-well, kind-well, number-fronts, comma-leads, assign-leads, parentheses-fronts}
use Rattle.law_lines.proofs.TokenTexts.{word-leads, spaced-word}
use Rattle.law_lines.proofs.ExprTexts.{between, call-fronts, more-quiet, expr-fronts, exprs-fronts, more-fronts}

-- ---- names
names-quiet : (names : List Name) → Quiet (more_names names)
names-quiet [] = (tt, tt)
names-quiet (name ∷ names) = (refl, refl)

more-named : (names : List Name) → AllNamed names → Fronts (more_names names) (more_named names)
more-named [] w = nothing-fronts
more-named (name ∷ names) w =
    leads-then (codes ", ") (name ++ more_names names) (Sign symbol.Comma ∷ []) (Named name ∷ more_named names) comma-leads
    (fronts-then name (more_names names) (Named name ∷ []) (more_named names) (name-fronts name w.0) (names-quiet names) (more-named names w.1))

names-fronts : (names : List Name) → AllNamed names → Fronts (names_text names) (named names)
names-fronts [] w = nothing-fronts
names-fronts (name ∷ names) w =
    fronts-then name (more_names names) (Named name ∷ []) (more_named names) (name-fronts name w.0) (names-quiet names) (more-named names w.1)

-- ---- targets
known-fronts : (name : List ℕ) → WellNamed name → (text : List ℕ) (lexemes : List Lexeme) → Fronts text lexemes
    → Fronts (name ++ in_parentheses text) (Named name ∷ within_parentheses lexemes)
known-fronts name n text lexemes f = call-fronts name text lexemes (name-fronts name n) f

target-fronts : (target : Target) → WellWrittenTarget target → Fronts (target_text target) (target_lexemes target)
target-fronts (Await name) w = name-fronts name w
target-fronts (Call coroutine arguments) w =
    known-fronts coroutine w.0 (exprs_text arguments) (exprs_lexemes arguments) (exprs-fronts arguments w.2)
target-fronts (Ask request arguments) w =
    known-fronts (request_text request) (request-well request) (exprs_text arguments) (exprs_lexemes arguments) (exprs-fronts arguments w)
target-fronts (SpawnTask coroutine arguments) w =
    known-fronts spawn_text ((refl, refl), refl) (coroutine ++ more_text arguments) (Named coroutine ∷ more_lexemes arguments)
    (fronts-then coroutine (more_text arguments) (Named coroutine ∷ []) (more_lexemes arguments) (name-fronts coroutine w.0) (more-quiet arguments)
    (more-fronts arguments w.1))
target-fronts (CreateTask group coroutine arguments) w =
    let lexemes = expr_lexemes group ++ Sign symbol.Comma ∷ Named coroutine ∷ more_lexemes arguments in
    known-fronts create_text ((refl, refl), refl) (expr_text group ++ codes ", " ++ coroutine ++ more_text arguments) lexemes
    (regrouped (expr_text group ++ codes ", ") coroutine (more_text arguments) lexemes
    (between (expr_text group) (codes ", ") (coroutine ++ more_text arguments) (expr_lexemes group) (Sign symbol.Comma)
    (Named coroutine ∷ more_lexemes arguments) (expr-fronts group w.0) (refl, refl) comma-leads
    (fronts-then coroutine (more_text arguments) (Named coroutine ∷ []) (more_lexemes arguments) (name-fronts coroutine w.1)
    (more-quiet arguments) (more-fronts arguments w.2))))
target-fronts (ListenAt port handler) w =
    known-fronts listen_text ((refl, refl), refl) (expr_text port ++ codes ", " ++ handler) (expr_lexemes port ++ Sign symbol.Comma ∷ Named handler ∷ [])
    (between (expr_text port) (codes ", ") handler (expr_lexemes port) (Sign symbol.Comma) (Named handler ∷ []) (expr-fronts port w.0)
    (refl, refl) comma-leads (name-fronts handler w.1))

-- ---- lines
yield-from : Leads (codes "yield from ") (Reserved word.Yield ∷ Reserved word.From ∷ [])
yield-from =
    leads-leads (codes "yield ") (codes "from ") (Reserved word.Yield ∷ []) (Reserved word.From ∷ []) (word-leads (codes "yield") word.Yield (refl, refl) refl)
    (word-leads (codes "from") word.From (refl, refl) refl)

from-fronts : (target : Target) → WellWrittenTarget target
    → Fronts (codes "yield from " ++ target_text target) (Reserved word.Yield ∷ Reserved word.From ∷ target_lexemes target)
from-fronts target w =
    leads-then (codes "yield from ") (target_text target) (Reserved word.Yield ∷ Reserved word.From ∷ []) (target_lexemes target) yield-from
    (target-fronts target w)

-- a word, and an expression behind it
expr-behind : (text : List ℕ) (reserved : ReservedWord) → IsName text → reserved_of text ≡ Some reserved → (e : Expr) → WellWrittenExpr e
    → Fronts (text ++ 32 ∷ [] ++ expr_text e) (Reserved reserved ∷ expr_lexemes e)
expr-behind text reserved n r e w =
    leads-then (text ++ 32 ∷ []) (expr_text e) (Reserved reserved ∷ []) (expr_lexemes e) (word-leads text reserved n r) (expr-fronts e w)

-- ` as NAME`
as-leads : Leads (codes " as ") (Reserved word.As ∷ [])
as-leads = spaced-word (codes "as") word.As (refl, refl) refl

as-fronts : (name : Name) → WellNamed name → Fronts (codes " as " ++ name) (Reserved word.As ∷ Named name ∷ [])
as-fronts name w =
    leads-then (codes " as ") name (Reserved word.As ∷ []) (Named name ∷ []) as-leads (name-fronts name w)

with-leads : Leads (codes "with ") (Reserved word.With ∷ [])
with-leads = word-leads (codes "with") word.With (refl, refl) refl

timeout-fronts : (delay : Expr) (name : Name) → WellWrittenExpr delay → WellNamed name
    → Fronts (codes "timeout" ++ in_parentheses (expr_text delay) ++ codes " as " ++ name)
    (Reserved word.Timeout ∷ (within_parentheses (expr_lexemes delay) ++ Reserved word.As ∷ Named name ∷ []))
timeout-fronts delay name w n =
    fronts-then (codes "timeout") (in_parentheses (expr_text delay) ++ codes " as " ++ name) (Reserved word.Timeout ∷ [])
    (within_parentheses (expr_lexemes delay) ++ Reserved word.As ∷ Named name ∷ []) (word-fronts (codes "timeout") word.Timeout (refl, refl) refl)
    (refl, refl)
    (between (in_parentheses (expr_text delay)) (codes " as ") name (within_parentheses (expr_lexemes delay)) (Reserved word.As) (Named name ∷ [])
    (parentheses-fronts (expr_text delay) (expr_lexemes delay) (expr-fronts delay w)) (refl, refl) as-leads (name-fronts name n))

pub line-fronts : (line : Line) → WellWritten line → Fronts (line_text line) (line_lexemes line)
line-fronts (Profile number) w =
    leads-then (codes "profile ") (decimal number) (Reserved word.Profile ∷ []) (Number (pos number) ∷ [])
    (word-leads (codes "profile") word.Profile (refl, refl) refl) (number-fronts number w)
line-fronts (Def name parameters) w =
    leads-then (codes "def ") (name ++ in_parentheses (names_text parameters)) (Reserved word.Def ∷ []) (Named name ∷ within_parentheses (named parameters))
    (word-leads (codes "def") word.Def (refl, refl) refl) (known-fronts name w.0 (names_text parameters) (named parameters) (names-fronts parameters w.1))
line-fronts (Assign name value) w =
    between name (codes " = ") (expr_text value) (Named name ∷ []) (Sign symbol.Assign) (expr_lexemes value) (name-fronts name w.0) (refl, refl) assign-leads
    (expr-fronts value w.1)
line-fronts Yield w = word-fronts (codes "yield") word.Yield (refl, refl) refl
line-fronts (YieldFrom None target) w = from-fronts target w.1
line-fronts (YieldFrom (Some name) target) w =
    let lexemes = Named name ∷ Sign symbol.Assign ∷ Reserved word.Yield ∷ Reserved word.From ∷ target_lexemes target in
    regrouped (name ++ codes " = ") (codes "yield from ") (target_text target) lexemes
    (between name (codes " = ") (codes "yield from " ++ target_text target) (Named name ∷ []) (Sign symbol.Assign)
    (Reserved word.Yield ∷ Reserved word.From ∷ target_lexemes target) (name-fronts name w.0) (refl, refl) assign-leads (from-fronts target w.1))
line-fronts (Print []) w = absurd w
line-fronts (Print (first ∷ others)) w =
    leads-then (codes "print ") (exprs_text (exprs (first ∷ others))) (Reserved word.Print ∷ []) (exprs_lexemes (exprs (first ∷ others)))
    (word-leads (codes "print") word.Print (refl, refl) refl) (exprs-fronts (exprs (first ∷ others)) w)
line-fronts (Raise fault) w = expr-behind (codes "raise") word.Raise (refl, refl) refl fault w
line-fronts (Return None) w = word-fronts (codes "return") word.Return (refl, refl) refl
line-fronts (Return (Some value)) w = expr-behind (codes "return") word.Return (refl, refl) refl value w
line-fronts Pass w = word-fronts (codes "pass") word.Pass (refl, refl) refl
line-fronts (If test) w = expr-behind (codes "if") word.If (refl, refl) refl test w
line-fronts Else w = word-fronts (codes "else") word.Else (refl, refl) refl
line-fronts (While test) w = expr-behind (codes "while") word.While (refl, refl) refl test w
line-fronts Try w = word-fronts (codes "try") word.Try (refl, refl) refl
line-fronts (Except kind None) w =
    leads-then (codes "except ") (kind_name kind ++ []) (Reserved word.Except ∷ []) (Named (kind_name kind) ∷ [])
    (word-leads (codes "except") word.Except (refl, refl) refl)
    (fronts-then (kind_name kind) [] (Named (kind_name kind) ∷ []) [] (name-fronts (kind_name kind) (kind-well kind)) (tt, tt) nothing-fronts)
line-fronts (Except kind (Some name)) w =
    leads-then (codes "except ") (kind_name kind ++ (codes " as " ++ name)) (Reserved word.Except ∷ [])
    (Named (kind_name kind) ∷ Reserved word.As ∷ Named name ∷ []) (word-leads (codes "except") word.Except (refl, refl) refl)
    (fronts-then (kind_name kind) (codes " as " ++ name) (Named (kind_name kind) ∷ []) (Reserved word.As ∷ Named name ∷ [])
    (name-fronts (kind_name kind) (kind-well kind)) (refl, refl) (as-fronts name w))
line-fronts Finally w = word-fronts (codes "finally") word.Finally (refl, refl) refl
line-fronts (WithGroup name) w =
    leads-then (codes "with ") (codes "group" ++ (codes " as " ++ name)) (Reserved word.With ∷ [])
    (Reserved word.Group ∷ Reserved word.As ∷ Named name ∷ []) with-leads
    (fronts-then (codes "group") (codes " as " ++ name) (Reserved word.Group ∷ []) (Reserved word.As ∷ Named name ∷ [])
    (word-fronts (codes "group") word.Group (refl, refl) refl) (refl, refl) (as-fronts name w))
line-fronts (WithTimeout delay name) w =
    leads-then (codes "with ") (codes "timeout" ++ in_parentheses (expr_text delay) ++ codes " as " ++ name) (Reserved word.With ∷ [])
    (Reserved word.Timeout ∷ (within_parentheses (expr_lexemes delay) ++ Reserved word.As ∷ Named name ∷ [])) with-leads (timeout-fronts delay name w.0 w.1)
line-fronts End w = word-fronts (codes "end") word.End (refl, refl) refl

-- ---- the tokens of a whole text
pub whole-tokens : (spaces : ℕ) (text : List ℕ) (lexemes : List Lexeme) → Fronts text lexemes
    → (tokens : List Token) × (tokens_of (replicate spaces 32 ++ text) ≡ Ok tokens) × (lexemes_of tokens ≡ lexemes)
whole-tokens spaces text lexemes f =
    let t = blanks-lead spaces (text ++ []) (lexemes ++ []) (f [] [] (tt, tt) (λ column. ([], (0, [], refl, tt), refl))) 1 in (
      t.0,
      ap (λ l. tokens_of (replicate spaces 32 ++ l)) (sym (append-nil text)) ∙ tokens_of-Reads (replicate spaces 32 ++ (text ++ [])) t.0 t.1,
      t.2 ∙ append-nil lexemes,
    )

pub expr-tokens : (spaces : ℕ) (expr : Expr) → WellWrittenExpr expr
    → (tokens : List Token) × (tokens_of (replicate spaces 32 ++ expr_text expr) ≡ Ok tokens) × (lexemes_of tokens ≡ expr_lexemes expr)
expr-tokens spaces expr w = whole-tokens spaces (expr_text expr) (expr_lexemes expr) (expr-fronts expr w)

pub line-tokens : (spaces : ℕ) (line : Line) → WellWritten line
    → (tokens : List Token) × (tokens_of (replicate spaces 32 ++ line_text line) ≡ Ok tokens) × (lexemes_of tokens ≡ line_lexemes line)
line-tokens spaces line w = whole-tokens spaces (line_text line) (line_lexemes line) (line-fronts line w)
