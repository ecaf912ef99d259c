-- The tokens of a line, or its first fault. Each piece of the line is judged for itself.
-- Source: the Python language reference, "Lexical analysis", cut to what scripts have.
use Rattle.std.specs.Prelude.{ℕ, ◌+◌, ◌-◌, ◌*◌, ◌^◌, Bool, not, ◌&&◌, List, [], ◌∷◌, length, ℤ, pos, Option, Some, None, Result, Ok, Err, nat_lt, if◌then◌else◌}
use Rattle.std.specs.Prelude.{position, fold}
use Rattle.std.specs.List.{list_all}
use Rattle.std.specs.Char.{is_ascii_digit}
use Rattle.model_text.specs.declared.symbol.Symbol.{Symbol as AnySymbol}
use Rattle.model_text.specs.Letters.{is_allowed}
use Rattle.model_text.specs.Symbols.{symbol_text}
use Rattle.model_text.specs.Faults.{TokenFault, BadByte, BadNumber, OpenText, both_or_fault}
use Rattle.model_text.specs.declared.literal.Literal.{Literal}
use Rattle.model_text.specs.declared.literal.Literal.TheVariants.{OfText, OfBytes}
use Rattle.model_text.specs.Literals.{opening, parts_of, literal_bytes}
use Rattle.model_text.specs.Pieces.{Piece, Blank, Comment, Word, Numeral, Quoted, Unclosed, Punctuation, Stray, piece_text, pieces_of}

-- what a token is, with its value
pub data TokenClass : Type 0 where
  -- a letter or _, then letters, digits and _
  Name : (name : List ℕ) → TokenClass
  -- decimal digits, perhaps with zeros before them
  Int : (number : ℤ) → TokenClass
  -- what a literal between quotes says
  Text : (text : List ℕ) → TokenClass
  -- what a literal between quotes says that a b touches
  Bytes : (bytes : List ℕ) → TokenClass
  Symbol : (symbol : AnySymbol) → TokenClass

-- A token, the column of its first byte, counted from 1, and the column behind its last byte.
pub record Token : Type 0 where
  pub class : TokenClass
  pub start : ℕ
  pub end : ℕ

-- the number that decimal digits write
abbrev pub number_of : List ℕ → ℕ
number_of digits = fold (λ number digit. 10 * number + (digit - 48)) 0 digits

-- whether the text is decimal digits that write at most 9223372036854775807
abbrev pub is_number : List ℕ → Bool
is_number text = list_all is_ascii_digit text && nat_lt (number_of text) (2 ^ 63)

-- the token of a text that begins in this column
abbrev pub token_of : ℕ → List ℕ → TokenClass → Token
token_of column text class = record { class = class; start = column; end = column + length text }

-- a comment, by the place of its first byte that isn't allowed
abbrev pub comment_tokens : ℕ → Option ℕ → Result (List Token) TokenFault
comment_tokens column None = Ok []
comment_tokens column (Some place) = Err (BadByte (column + place))

-- a literal, by what it says
abbrev pub literal_tokens : ℕ → List ℕ → Literal → Result (List ℕ) TokenFault → Result (List Token) TokenFault
literal_tokens column text OfText (Ok bytes) = Ok (token_of column text (Text bytes) ∷ [])
literal_tokens column text OfBytes (Ok bytes) = Ok (token_of column text (Bytes bytes) ∷ [])
literal_tokens column text literal (Err fault) = Err fault

-- The token of a piece that begins in this column, if it is one, or the piece's first fault.
unfoldable pub piece_tokens : ℕ → Piece → Result (List Token) TokenFault
piece_tokens column Blank = Ok []
piece_tokens column (Comment text) = comment_tokens column (position (λ byte. not (is_allowed byte)) text)
piece_tokens column (Word text) = Ok (token_of column text (Name text) ∷ [])
piece_tokens column (Numeral text) =
    if is_number text then Ok (token_of column text (Int (pos (number_of text))) ∷ [])
    else Err (BadNumber column)
piece_tokens column (Quoted literal inside) =
    literal_tokens column (piece_text (Quoted literal inside)) literal (literal_bytes literal (column + length (opening literal)) (parts_of inside))
piece_tokens column (Unclosed text) = Err (OpenText column)
piece_tokens column (Punctuation symbol) = Ok (token_of column (symbol_text symbol) (Symbol symbol) ∷ [])
piece_tokens column (Stray byte) = Err (BadByte column)

-- The tokens of the pieces, of which the first begins in this column, or the first fault.
abbrev pub tokens_in : ℕ → List Piece → Result (List Token) TokenFault
tokens_in column [] = Ok []
tokens_in column (piece ∷ pieces) =
    both_or_fault (piece_tokens column piece) (tokens_in (column + length (piece_text piece)) pieces)

-- The tokens of a line, or its first fault.
unfoldable pub tokens_of : List ℕ → Result (List Token) TokenFault
tokens_of line = tokens_in 1 (pieces_of line)
