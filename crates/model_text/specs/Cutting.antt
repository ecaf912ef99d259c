-- Where a line is cut outside brackets: at operators, at commas.
-- Source: the Python language reference, "Expressions": what stands in brackets is one operand.
use Rattle.std.specs.Prelude.{ℕ, zero, suc, pred, Bool, true, false, List, [], ◌∷◌, Option, Some, None, map, option_map, if◌then◌else◌}
use Rattle.model_text.specs.declared.symbol.Symbol.{Symbol as AnySymbol}
use Rattle.model_text.specs.declared.symbol.Symbol.TheVariants as symbol
use Rattle.model_text.specs.declared.reserved_word.ReservedWord.{ReservedWord}
use Rattle.model_text.specs.declared.reserved_word.ReservedWord.TheVariants as word
use Rattle.model_text.specs.Words.{Lexeme, Reserved, Sign, is_sign}

abbrev pub depth_behind_symbol : ℕ → AnySymbol → ℕ
depth_behind_symbol depth symbol.LeftParenthesis = suc depth
depth_behind_symbol depth symbol.LeftBracket = suc depth
depth_behind_symbol depth symbol.RightParenthesis = pred depth
depth_behind_symbol depth symbol.RightBracket = pred depth
depth_behind_symbol depth _ = depth

-- how many brackets are open behind the lexeme
abbrev pub depth_behind : ℕ → Lexeme → ℕ
depth_behind depth (Sign symbol) = depth_behind_symbol depth symbol
depth_behind depth _ = depth

abbrev pub is_value_word : ReservedWord → Bool
is_value_word word.TrueValue = true
is_value_word word.FalseValue = true
is_value_word word.NoneValue = true
is_value_word _ = false

abbrev pub is_closing : AnySymbol → Bool
is_closing symbol.RightParenthesis = true
is_closing symbol.RightBracket = true
is_closing _ = false

-- An operand can end with this lexeme: behind it `-` has two operands, and `[` takes an item.
abbrev pub ends_operand : Lexeme → Bool
ends_operand (Reserved reserved) = is_value_word reserved
ends_operand (Sign symbol) = is_closing symbol
ends_operand _ = true

-- what stands before the first cut, and what stands behind each cut, with what the cut says
pub record Pieces (A : Type 0) : Type 0 where
  pub first : List Lexeme
  pub others : List (A × List Lexeme)

-- where to cut: the test says whether an operand ends before the lexeme
abbrev pub Cutter : Type 0 → Type 0
Cutter A = Bool → Lexeme → Option A

abbrev pub with_front : {A : Type 0} → Option A → Lexeme → Pieces A → Pieces A
with_front (Some cut) lexeme pieces = record { first = []; others = (cut, pieces.first) ∷ pieces.others }
with_front None lexeme pieces = record { first = lexeme ∷ pieces.first; others = pieces.others }

-- inside brackets nothing is cut
abbrev pub cut_outside : {A : Type 0} → ℕ → Cutter A → Bool → Lexeme → Option A
cut_outside zero cutter behind lexeme = cutter behind lexeme
cut_outside (suc depth) cutter behind lexeme = None

-- lexemes before which so many brackets are open
abbrev pub pieces_from : {A : Type 0} → Cutter A → ℕ → Bool → List Lexeme → Pieces A
pieces_from cutter depth behind [] = record { first = []; others = [] }
pieces_from cutter depth behind (lexeme ∷ lexemes) =
    with_front (cut_outside depth cutter behind lexeme) lexeme (pieces_from cutter (depth_behind depth lexeme) (ends_operand lexeme) lexemes)

abbrev pub pieces : {A : Type 0} → Cutter A → List Lexeme → Pieces A
pieces cutter lexemes = pieces_from cutter 0 false lexemes

-- What stands between commas. Where nothing stands at all, there is no part.
abbrev pub parts : List Lexeme → List (List Lexeme)
parts [] = []
parts (lexeme ∷ lexemes) =
    let cut = pieces (λ behind at. if is_sign symbol.Comma at then Some at else None) (lexeme ∷ lexemes) in
    cut.first ∷ map (λ other. other.1) cut.others

-- what stands before the last lexeme, if that is this symbol
abbrev pub before_last : AnySymbol → List Lexeme → Option (List Lexeme)
before_last symbol [] = None
before_last symbol (lexeme ∷ []) = if is_sign symbol lexeme then Some [] else None
before_last symbol (lexeme ∷ next ∷ lexemes) = option_map (λ inner. lexeme ∷ inner) (before_last symbol (next ∷ lexemes))
