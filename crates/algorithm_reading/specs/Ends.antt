-- Where an expression ends, at a comma, a closing bracket or the end, and what its bracket makes of it.
-- Source: the Python language reference, "Atoms" and "Primaries".
use Rattle.std.specs.Prelude.{List, [], ◌∷◌, ◌++◌, Option, Some, None, option_map, option_and_then, if◌then◌else◌}
use Rattle.model_tree.specs.Syntax.{Name}
use Rattle.model_text.specs.declared.symbol.Symbol.{Symbol as AnySymbol}
use Rattle.model_text.specs.declared.symbol.Symbol.TheVariants as symbol
use Rattle.model_text.specs.Words.{Lexeme, is_sign}
use Rattle.model_text.specs.Terms.{Variable, Index}
use Rattle.algorithm_reading.specs.Operands.{Operand, Fits, of_two, list_of, call_of}
use Rattle.algorithm_reading.specs.Pending.{no_loose, disjunction_of}
use Rattle.algorithm_reading.specs.Reader.{Bracket, Group, Item, Items, Arguments, Open, TermProgress, Start, AtNot, BehindName, BehindOperand, AtKind}
use Rattle.algorithm_reading.specs.Reader.{BehindKind}
use Rattle.algorithm_reading.specs.Reader.{ReaderState, reading}

-- the expression that ends here
abbrev pub ended : TermProgress → Option Operand
ended (BehindName loose tight name) = Some (disjunction_of loose tight (Fits (Variable name)))
ended (BehindOperand loose tight operand) = Some (disjunction_of loose tight operand)
ended _ = None

-- behind a comma: what was read in the bracket
abbrev pub parted : Bracket → TermProgress → Option Bracket
parted (Arguments name bare arguments) (BehindKind kind) = Some (Arguments name (Some kind) [])
parted (Arguments name bare arguments) progress =
    option_map (λ argument. Arguments name bare (arguments ++ argument ∷ [])) (ended progress)
parted (Items items) progress = option_map (λ item. Items (items ++ item ∷ [])) (ended progress)
parted _ progress = None

abbrev pub at_comma : TermProgress → List Open → ReaderState
at_comma progress [] = None
at_comma progress (open_bracket ∷ opened) =
    option_and_then (λ bracket. reading (AtNot no_loose) (record open_bracket { bracket = bracket } ∷ opened)) (parted open_bracket.bracket progress)

-- the operand that a bracket makes with the last expression in it
abbrev pub filled : Bracket → Operand → Operand
filled Group operand = operand
filled (Item sequence) operand = of_two Index sequence operand
filled (Items items) operand = list_of (items ++ operand ∷ [])
filled (Arguments name bare arguments) operand = call_of name bare (arguments ++ operand ∷ [])

-- the operand that a bracket makes with nothing in it
abbrev pub empty : Bracket → Option Operand
empty (Items items) = Some (list_of items)
empty (Arguments name bare arguments) = Some (call_of name bare arguments)
empty _ = None

-- the operand that a call makes with a bare name alone, or with nothing in its place
abbrev pub with_kind : Option Name → Bracket → Option Operand
with_kind kind (Arguments name bare arguments) = Some (call_of name kind [])
with_kind kind _ = None

-- the operand that a bracket makes if it closes here
abbrev pub whole : Bracket → TermProgress → Option Operand
whole bracket Start = empty bracket
whole bracket AtKind = with_kind None bracket
whole bracket (BehindKind kind) = with_kind (Some kind) bracket
whole bracket progress = option_map (filled bracket) (ended progress)

abbrev pub closing : Bracket → AnySymbol
closing Group = symbol.RightParenthesis
closing (Item sequence) = symbol.RightBracket
closing (Items items) = symbol.RightBracket
closing (Arguments name bare arguments) = symbol.RightParenthesis

-- behind a closing bracket
abbrev pub at_closing : Lexeme → TermProgress → List Open → ReaderState
at_closing lexeme progress [] = None
at_closing lexeme progress (open_bracket ∷ opened) =
    if is_sign (closing open_bracket.bracket) lexeme
    then option_and_then (λ operand. reading (BehindOperand open_bracket.loose open_bracket.tight operand) opened) (whole open_bracket.bracket progress)
    else None
