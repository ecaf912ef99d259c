-- A line is cut into pieces from the left, each as long as it can be.
-- Source: the Python language reference, "Lexical analysis", cut to what scripts have.
use Rattle.std.specs.Prelude.{ℕ, zero, suc, ◌-◌, ◌&&◌, List, [], ◌∷◌, ◌++◌, length, drop, slice_index, Option, Some, None, ◌==◌, if◌then◌else◌, take_while}
use Rattle.std.specs.Prelude.{codes, false}
use Rattle.std.specs.Char.{is_ascii_digit}
use Rattle.model_text.specs.declared.symbol.Symbol.{Symbol}
use Rattle.model_text.specs.Letters.{is_word, is_space, is_hash, is_quote}
use Rattle.model_text.specs.Symbols.{symbol_text, symbol_at}
use Rattle.model_text.specs.declared.literal.Literal.{Literal}
use Rattle.model_text.specs.declared.literal.Literal.TheVariants.{OfText, OfBytes}
use Rattle.model_text.specs.Literals.{opening, inside_of}

pub data Piece : Type 0 where
  Blank : Piece
  -- # and all behind it
  Comment : (text : List ℕ) → Piece
  -- letters, digits and _, the first of which is no digit
  Word : (text : List ℕ) → Piece
  -- letters, digits and _, the first of which is a digit
  Numeral : (text : List ℕ) → Piece
  -- a literal, by what stands between its quotes
  Quoted : (literal : Literal) (inside : List ℕ) → Piece
  -- a literal with all behind it, in which no quote closes it
  Unclosed : (text : List ℕ) → Piece
  Punctuation : (symbol : Symbol) → Piece
  -- a byte that nothing begins with
  Stray : (byte : ℕ) → Piece

-- the bytes of a piece
abbrev pub piece_text : Piece → List ℕ
piece_text Blank = codes " "
piece_text (Comment text) = text
piece_text (Word text) = text
piece_text (Numeral text) = text
piece_text (Quoted literal inside) = opening literal ++ (inside ++ codes "\"")
piece_text (Unclosed text) = text
piece_text (Punctuation symbol) = symbol_text symbol
piece_text (Stray byte) = byte ∷ []

-- a literal, by the bytes behind its first quote and the inside that they begin with
abbrev pub literal_at : Literal → List ℕ → Option (List ℕ) → Piece
literal_at literal bytes (Some inside) = Quoted literal inside
literal_at literal bytes None = Unclosed (opening literal ++ bytes)

abbrev pub punctuation_at : ℕ → Option Symbol → Piece
punctuation_at byte (Some symbol) = Punctuation symbol
punctuation_at byte None = Stray byte

-- The piece at the front: a literal where a quote stands, or a b that a quote touches; the longest run of letters,
-- digits and _; the longest symbol.
unfoldable pub piece_at : ℕ → List ℕ → Piece
piece_at byte bytes =
    if is_space byte then Blank
    else (if is_hash byte then Comment (byte ∷ bytes)
    else (if is_quote byte then literal_at OfText bytes (inside_of false bytes)
    else (if byte == 98 && is_quote (slice_index bytes 0) then literal_at OfBytes (drop 1 bytes) (inside_of false (drop 1 bytes))
    else (if is_ascii_digit byte then Numeral (take_while is_word (byte ∷ bytes))
    else (if is_word byte then Word (take_while is_word (byte ∷ bytes))
    else punctuation_at byte (symbol_at (byte ∷ bytes)))))))

-- the pieces of bytes of which the first few belong to the piece before them
abbrev pub pieces_after : ℕ → List ℕ → List Piece
pieces_after taken [] = []
pieces_after zero (byte ∷ bytes) =
    piece_at byte bytes ∷ pieces_after (length (piece_text (piece_at byte bytes)) - 1) bytes
pieces_after (suc taken) (byte ∷ bytes) = pieces_after taken bytes

abbrev pub pieces_of : List ℕ → List Piece
pieces_of line = pieces_after 0 line
