-- The symbols of a script, and which of them stands at the front of a text.
-- Source: the Python language reference, "Operators" and "Delimiters".
use Rattle.std.specs.Prelude.{ℕ, List, [], ◌∷◌, Option, codes, find, nat_eq}
use Rattle.std.specs.List.{starts_with}
use Rattle.model_text.specs.declared.symbol.Symbol.{Symbol}
use Rattle.model_text.specs.declared.symbol.Symbol.TheVariants.{LeftParenthesis, RightParenthesis, LeftBracket, RightBracket, Comma, Assign, Equals, NotEquals}
use Rattle.model_text.specs.declared.symbol.Symbol.TheVariants.{LessThan, LessOrEqual, GreaterThan, GreaterOrEqual, Plus, Minus, Star, DoubleSlash, Percent}

abbrev pub symbol_text : Symbol → List ℕ
symbol_text LeftParenthesis = codes "("
symbol_text RightParenthesis = codes ")"
symbol_text LeftBracket = codes "["
symbol_text RightBracket = codes "]"
symbol_text Comma = codes ","
symbol_text Assign = codes "="
symbol_text Equals = codes "=="
symbol_text NotEquals = codes "!="
symbol_text LessThan = codes "<"
symbol_text LessOrEqual = codes "<="
symbol_text GreaterThan = codes ">"
symbol_text GreaterOrEqual = codes ">="
symbol_text Plus = codes "+"
symbol_text Minus = codes "-"
symbol_text Star = codes "*"
symbol_text DoubleSlash = codes "//"
symbol_text Percent = codes "%"

-- all of them, the longer ones first
abbrev pub symbols : List Symbol
symbols =
    Equals ∷ NotEquals ∷ LessOrEqual ∷ GreaterOrEqual ∷ DoubleSlash ∷ LeftParenthesis ∷ RightParenthesis ∷ LeftBracket ∷ RightBracket ∷ Comma ∷ Assign
    ∷ LessThan ∷ GreaterThan ∷ Plus ∷ Minus ∷ Star ∷ Percent ∷ []

-- the longest symbol that the bytes begin with
abbrev pub symbol_at : List ℕ → Option Symbol
symbol_at bytes = find (λ symbol. starts_with nat_eq bytes (symbol_text symbol)) symbols
