-- What a reader knows behind one lexeme more, and what it has read in the end.
-- Source: the Python language reference, "Expressions"; operator-precedence parsing.
use Rattle.std.specs.Prelude.{suc, List, [], ◌∷◌, Option, Some, None, fold, option_and_then, if◌then◌else◌}
use Rattle.std.specs.Str.{bytes_eq}
use Rattle.model_tree.specs.declared.operator.Operator.{Operator}
use Rattle.model_tree.specs.declared.operator.Operator.TheVariants as operator
use Rattle.model_tree.specs.declared.operator.Comparison.{Comparison}
use Rattle.model_tree.specs.declared.operator.Comparison.TheVariants as comparison
use Rattle.model_tree.specs.Syntax.{Name}
use Rattle.model_tree.specs.Known.{error_text}
use Rattle.model_text.specs.declared.symbol.Symbol.{Symbol as AnySymbol}
use Rattle.model_text.specs.declared.symbol.Symbol.TheVariants as symbol
use Rattle.model_text.specs.declared.reserved_word.ReservedWord.TheVariants as word
use Rattle.model_text.specs.Words.{Lexeme, Reserved, Named, Sign}
use Rattle.model_text.specs.Terms.{Variable}
use Rattle.model_text.specs.Levels.{atom}
use Rattle.algorithm_reading.specs.Operands.{Operand, Fits}
use Rattle.algorithm_reading.specs.Pending.{Loose, Tight, no_loose, no_tight, behind_product, behind_sum, behind_comparison, behind_and, behind_or}
use Rattle.algorithm_reading.specs.Reader.{Bracket, Group, Item, Items, Arguments, Open, TermProgress, Start, AtNot, AtOperand, BehindName, BehindOperand}
use Rattle.algorithm_reading.specs.Reader.{AtKind}
use Rattle.algorithm_reading.specs.Reader.{BehindKind, TermReader, ReaderState, reading, start}
use Rattle.algorithm_reading.specs.Ends.{ended, at_comma, at_closing}

-- a bracket opens, and in it nothing stands yet
abbrev pub opening : Bracket → Loose → Tight → TermProgress → List Open → ReaderState
opening bracket loose tight progress opened =
    reading progress (record { bracket = bracket; loose = loose; tight = tight } ∷ opened)

-- ---- where an operand may stand
abbrev pub at_operand : Loose → Tight → List Open → Lexeme → ReaderState
at_operand loose tight opened (Named name) = reading (BehindName loose tight name) opened
at_operand loose tight opened (Sign symbol.Minus) =
    reading (AtOperand loose (record tight { minuses = suc tight.minuses })) opened
at_operand loose tight opened (Sign symbol.LeftParenthesis) = opening Group loose tight Start opened
at_operand loose tight opened (Sign symbol.LeftBracket) = opening (Items []) loose tight Start opened
at_operand loose tight opened lexeme =
    option_and_then (λ term. reading (BehindOperand loose tight (Fits term)) opened) (atom lexeme)

-- ---- where `not` may stand too
abbrev pub at_not : Loose → List Open → Lexeme → ReaderState
at_not loose opened (Reserved word.Not) = reading (AtNot (record loose { nots = suc loose.nots })) opened
at_not loose opened lexeme = at_operand loose no_tight opened lexeme

-- ---- behind an operand

-- an operator between operands, by its level
pub data Infix : Type 0 where
  Compares : (comparison : Comparison) → Infix
  Adds : (operator : Operator) → Infix
  Multiplies : (operator : Operator) → Infix

abbrev pub infix_of : AnySymbol → Option Infix
infix_of symbol.Equals = Some (Compares comparison.Equal)
infix_of symbol.NotEquals = Some (Compares comparison.NotEqual)
infix_of symbol.LessThan = Some (Compares comparison.Less)
infix_of symbol.LessOrEqual = Some (Compares comparison.LessOrEqual)
infix_of symbol.GreaterThan = Some (Compares comparison.Greater)
infix_of symbol.GreaterOrEqual = Some (Compares comparison.GreaterOrEqual)
infix_of symbol.Plus = Some (Adds operator.Add)
infix_of symbol.Minus = Some (Adds operator.Subtract)
infix_of symbol.Star = Some (Multiplies operator.Multiply)
infix_of symbol.DoubleSlash = Some (Multiplies operator.FloorDivide)
infix_of symbol.Percent = Some (Multiplies operator.Remainder)
infix_of _ = None

-- at most one comparison
abbrev pub behind_compared : Option (Comparison × Operand) → Tight → Comparison → Operand → Option Tight
behind_compared None tight comparison operand = Some (behind_comparison tight comparison operand)
behind_compared (Some left) tight comparison operand = None

abbrev pub behind_infix : Tight → Operand → Infix → Option Tight
behind_infix tight operand (Compares comparison) = behind_compared tight.compare_left tight comparison operand
behind_infix tight operand (Adds operator) = Some (behind_sum tight operator operand)
behind_infix tight operand (Multiplies operator) = Some (behind_product tight operator operand)

abbrev pub at_symbol : Loose → Tight → Operand → List Open → AnySymbol → ReaderState
at_symbol loose tight operand opened symbol.LeftBracket = opening (Item operand) loose tight Start opened
at_symbol loose tight operand opened symbol =
    option_and_then (λ pending. reading (AtOperand loose pending) opened) (option_and_then (behind_infix tight operand) (infix_of symbol))

abbrev pub behind_operand : Loose → Tight → Operand → List Open → Lexeme → ReaderState
behind_operand loose tight operand opened (Reserved word.Or) =
    reading (AtNot (behind_or loose tight operand)) opened
behind_operand loose tight operand opened (Reserved word.And) =
    reading (AtNot (behind_and loose tight operand)) opened
behind_operand loose tight operand opened (Sign symbol) = at_symbol loose tight operand opened symbol
behind_operand loose tight operand opened _ = None

-- what may stand as the first argument of a call: a bare name in `error(KIND, t)`
abbrev pub first_argument : Name → TermProgress
first_argument name = if bytes_eq name error_text then AtKind else Start

abbrev pub behind_name : Loose → Tight → Name → List Open → Lexeme → ReaderState
behind_name loose tight name opened (Sign symbol.LeftParenthesis) =
    opening (Arguments name None []) loose tight (first_argument name) opened
behind_name loose tight name opened lexeme = behind_operand loose tight (Fits (Variable name)) opened lexeme

abbrev pub at_kind : List Open → Lexeme → ReaderState
at_kind opened (Named kind) = reading (BehindKind kind) opened
at_kind opened _ = None

-- ---- one lexeme more
abbrev pub fed_within : TermProgress → List Open → Lexeme → ReaderState
fed_within Start opened lexeme = at_not no_loose opened lexeme
fed_within (AtNot loose) opened lexeme = at_not loose opened lexeme
fed_within (AtOperand loose tight) opened lexeme = at_operand loose tight opened lexeme
fed_within (BehindName loose tight name) opened lexeme = behind_name loose tight name opened lexeme
fed_within (BehindOperand loose tight operand) opened lexeme = behind_operand loose tight operand opened lexeme
fed_within AtKind opened lexeme = at_kind opened lexeme
fed_within (BehindKind kind) opened lexeme = None

abbrev pub fed : TermReader → Lexeme → ReaderState
fed reader (Sign symbol.Comma) = at_comma reader.progress reader.opened
fed reader (Sign symbol.RightParenthesis) =
    at_closing (Sign symbol.RightParenthesis) reader.progress reader.opened
fed reader (Sign symbol.RightBracket) = at_closing (Sign symbol.RightBracket) reader.progress reader.opened
fed reader lexeme = fed_within reader.progress reader.opened lexeme

abbrev pub feed : ReaderState → Lexeme → ReaderState
feed state lexeme = option_and_then (λ reader. fed reader lexeme) state

-- ---- the end
abbrev pub finished : TermProgress → List Open → Option Operand
finished progress [] = ended progress
finished progress (open_bracket ∷ opened) = None

abbrev pub finish : ReaderState → Option Operand
finish state = option_and_then (λ reader. finished reader.progress reader.opened) state

-- The expression that lexemes spell, read from left to right.
abbrev pub read : List Lexeme → Option Operand
read lexemes = finish (fold feed start lexemes)
