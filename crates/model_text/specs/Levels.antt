-- Which tokens spell which expression, level by level from the loosest: at each level the tokens are cut at its operators
-- outside brackets, and what stands between them is of the next level. Equal levels group from the left.
-- Source: the Python language reference, "Operator precedence".
use Rattle.std.specs.Prelude.{ℕ, zero, suc, Bool, true, false, List, [], ◌∷◌, Option, Some, None, length, take, drop, option_map, option_and_then}
use Rattle.std.specs.Prelude.{if◌then◌else◌}
use Rattle.std.specs.Str.{bytes_eq}
use Rattle.model_tree.specs.declared.operator.Operator.{Operator}
use Rattle.model_tree.specs.declared.operator.Operator.TheVariants as operator
use Rattle.model_tree.specs.declared.operator.Comparison.{Comparison}
use Rattle.model_tree.specs.declared.operator.Comparison.TheVariants as comparison
use Rattle.model_tree.specs.Syntax.{Name, NoneConstant, TruthConstant, IntConstant, TextConstant, BytesConstant}
use Rattle.model_tree.specs.Known.{error_text}
use Rattle.model_text.specs.declared.symbol.Symbol.{Symbol as AnySymbol}
use Rattle.model_text.specs.declared.symbol.Symbol.TheVariants as symbol
use Rattle.model_text.specs.declared.reserved_word.ReservedWord.{ReservedWord}
use Rattle.model_text.specs.declared.reserved_word.ReservedWord.TheVariants as word
use Rattle.model_text.specs.Words.{Lexeme, Reserved, Named, Number, Texts, Octets, Sign, is_sign}
use Rattle.model_text.specs.Terms.{Term, Or, And, Not, Compare, Calculate, Negate, Index, Constantly, Variable, ListOf, Called, terms}
use Rattle.model_text.specs.Cutting.{Cutter, pieces, parts, before_last}

abbrev pub Parser : Type 0 → Type 0
Parser A = List Lexeme → Option A

-- all of the results, if each is there
abbrev pub all_of : {A B : Type 0} → (A → Option B) → List A → Option (List B)
all_of f [] = Some []
all_of f (x ∷ xs) = option_and_then (λ y. option_map (λ ys. y ∷ ys) (all_of f xs)) (f x)

-- ---- where a level is cut
abbrev pub at_word : ReservedWord → Cutter ReservedWord
at_word word.Or behind (Reserved word.Or) = Some word.Or
at_word word.And behind (Reserved word.And) = Some word.And
at_word _ behind _ = None

abbrev pub comparison_of : AnySymbol → Option Comparison
comparison_of symbol.Equals = Some comparison.Equal
comparison_of symbol.NotEquals = Some comparison.NotEqual
comparison_of symbol.LessThan = Some comparison.Less
comparison_of symbol.LessOrEqual = Some comparison.LessOrEqual
comparison_of symbol.GreaterThan = Some comparison.Greater
comparison_of symbol.GreaterOrEqual = Some comparison.GreaterOrEqual
comparison_of _ = None

abbrev pub at_comparison : Cutter Comparison
at_comparison behind (Sign symbol) = comparison_of symbol
at_comparison behind _ = None

abbrev pub sum_operator : AnySymbol → Option Operator
sum_operator symbol.Plus = Some operator.Add
sum_operator symbol.Minus = Some operator.Subtract
sum_operator _ = None

-- `-` has two operands where one ends before it
abbrev pub at_sum : Cutter Operator
at_sum true (Sign symbol) = sum_operator symbol
at_sum _ _ = None

abbrev pub product_operator : AnySymbol → Option Operator
product_operator symbol.Star = Some operator.Multiply
product_operator symbol.DoubleSlash = Some operator.FloorDivide
product_operator symbol.Percent = Some operator.Remainder
product_operator _ = None

abbrev pub at_product : Cutter Operator
at_product behind (Sign symbol) = product_operator symbol
at_product behind _ = None

-- `[` takes an item where an operand ends before it
abbrev pub at_index : Cutter AnySymbol
at_index true (Sign symbol.LeftBracket) = Some symbol.LeftBracket
at_index _ _ = None

-- ---- operands that one level joins
abbrev pub joined : {A : Type 0} → (A → Term → Term → Term) → Parser Term → Term → List (A × List Lexeme) → Option Term
joined build operand left [] = Some left
joined build operand left (other ∷ others) =
    option_and_then (λ right. joined build operand (build other.0 left right) others) (operand other.1)

abbrev pub level : {A : Type 0} → Cutter A → (A → Term → Term → Term) → Parser Term → Parser Term
level cutter build operand lexemes =
    let cut = pieces cutter lexemes in
    option_and_then (λ left. joined build operand left cut.others) (operand cut.first)

-- ---- arguments
abbrev pub bare_name : List Lexeme → Option Name
bare_name (Named name ∷ []) = Some name
bare_name _ = None

pub record Arguments : Type 0 where
  pub before : List Term
  pub bare : Option Name
  pub after : List Term

abbrev pub with_bare : List Term → Name → List Term → Arguments
with_bare before name after = record { before = before; bare = Some name; after = after }

-- the arguments behind those before a bare name
abbrev pub from_bare : Parser Term → List Term → List (List Lexeme) → Option Arguments
from_bare inside before [] = Some (record { before = before; bare = None; after = [] })
from_bare inside before (slot ∷ slots) =
    option_and_then (λ name. option_map (with_bare before name) (all_of inside slots)) (bare_name slot)

-- Arguments between commas. Where the call wants a bare name at a place, the argument there is one name.
abbrev pub arguments_of : Parser Term → Option ℕ → List (List Lexeme) → Option Arguments
arguments_of inside None slots =
    option_map (λ all. record { before = all; bare = None; after = [] }) (all_of inside slots)
arguments_of inside (Some place) slots =
    option_and_then (λ before. from_bare inside before (drop place slots)) (all_of inside (take place slots))

-- the place of the kind among the arguments of a function
abbrev pub kind_place : Name → Option ℕ
kind_place name = if bytes_eq name error_text then Some 0 else None

abbrev pub constant_of_word : ReservedWord → Option Term
constant_of_word word.TrueValue = Some (Constantly (TruthConstant true))
constant_of_word word.FalseValue = Some (Constantly (TruthConstant false))
constant_of_word word.NoneValue = Some (Constantly NoneConstant)
constant_of_word _ = None

abbrev pub atom : Lexeme → Option Term
atom (Reserved reserved) = constant_of_word reserved
atom (Named name) = Some (Variable name)
atom (Number number) = Some (Constantly (IntConstant number))
atom (Texts text) = Some (Constantly (TextConstant text))
atom (Octets bytes) = Some (Constantly (BytesConstant bytes))
atom (Sign symbol) = None

-- What may stand in brackets is a parameter.
module _ (inside : List Lexeme → Option Term) where
  abbrev pub items : Parser (List Term)
  items lexemes = all_of inside (parts lexemes)

  abbrev pub called : Name → Parser Term
  called name lexemes =
      option_map (λ arguments. Called name (terms arguments.before) arguments.bare (terms arguments.after))
      (arguments_of inside (kind_place name) (parts lexemes))

  -- what begins with a bracket
  abbrev pub bracketed : AnySymbol → Parser Term
  bracketed symbol.LeftParenthesis lexemes = option_and_then inside (before_last symbol.RightParenthesis lexemes)
  bracketed symbol.LeftBracket lexemes =
      option_and_then (λ inner. option_map (λ all. ListOf (terms all)) (items inner)) (before_last symbol.RightBracket lexemes)
  bracketed _ lexemes = None

  -- `NAME(..)`, `(..)`, `[..]`, or one lexeme
  abbrev pub primary : Parser Term
  primary [] = None
  primary (lexeme ∷ []) = atom lexeme
  primary (Named name ∷ next ∷ lexemes) =
      if is_sign symbol.LeftParenthesis next then option_and_then (called name) (before_last symbol.RightParenthesis lexemes) else None
  primary (Sign symbol ∷ next ∷ lexemes) = bracketed symbol (next ∷ lexemes)
  primary _ = None

  abbrev pub item_index : Parser Term
  item_index lexemes = option_and_then inside (before_last symbol.RightBracket lexemes)

  -- `x[i]`
  abbrev pub indexed : Parser Term
  indexed lexemes =
      let cut = pieces at_index lexemes in
      option_and_then (λ sequence. joined (λ bracket. Index) item_index sequence cut.others) (primary cut.first)

  -- unary `-`
  abbrev pub negated : Parser Term
  negated [] = None
  negated (lexeme ∷ lexemes) =
      if is_sign symbol.Minus lexeme then option_map Negate (negated lexemes) else indexed (lexeme ∷ lexemes)

  abbrev pub product : Parser Term
  product = level at_product Calculate negated

  abbrev pub sum_of : Parser Term
  sum_of = level at_sum Calculate product

  -- at most one comparison
  abbrev pub compared : List (Comparison × List Lexeme) → Term → Option Term
  compared [] left = Some left
  compared (other ∷ []) left = option_map (Compare other.0 left) (sum_of other.1)
  compared _ left = None

  abbrev pub comparison_level : Parser Term
  comparison_level lexemes =
      let cut = pieces at_comparison lexemes in option_and_then (compared cut.others) (sum_of cut.first)

  abbrev pub is_not : Lexeme → Bool
  is_not (Reserved word.Not) = true
  is_not _ = false

  abbrev pub denied : Parser Term
  denied [] = None
  denied (lexeme ∷ lexemes) =
      if is_not lexeme then option_map Not (denied lexemes) else comparison_level (lexeme ∷ lexemes)

  abbrev pub conjunction : Parser Term
  conjunction = level (at_word word.And) (λ reserved. And) denied

  abbrev pub disjunction : Parser Term
  disjunction = level (at_word word.Or) (λ reserved. Or) conjunction

-- with at most so many brackets in one another
abbrev pub term_within : ℕ → Parser Term
term_within zero lexemes = None
term_within (suc brackets) lexemes = disjunction (term_within brackets) lexemes

-- The expression that lexemes spell.
unfoldable pub term_of : Parser Term
term_of lexemes = term_within (suc (length lexemes)) lexemes
