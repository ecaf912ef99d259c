-- What a piece is, told without a way to find it: nothing that follows it would make it longer. Each line has exactly
-- one cut into such pieces, and `pieces_of` gives it.
use Rattle.std.specs.Prelude.{◌≡◌, ℕ, ◌≤◌, Bool, true, false, List, [], ◌∷◌, ◌++◌, length, Some, None, codes}
use Rattle.std.specs.List.{list_all}
use Rattle.std.specs.Char.{is_ascii_digit}
use Rattle.model_text.specs.declared.symbol.Symbol.{Symbol}
use Rattle.model_text.specs.Letters.{is_word, is_space, is_hash, is_quote}
use Rattle.model_text.specs.Symbols.{symbol_text}
use Rattle.model_text.specs.declared.literal.Literal.{Literal}
use Rattle.model_text.specs.Literals.{opening, inside_of}
use Rattle.model_text.specs.Pieces.{Piece, Blank, Comment, Word, Numeral, Quoted, Unclosed, Punctuation, Stray, piece_text}

-- the bytes begin with the front
abbrev pub BeginsWith : List ℕ → List ℕ → Type 0
BeginsWith bytes front = (others : List ℕ) × (bytes ≡ front ++ others)

-- the first byte, if there is one, passes the test
abbrev pub FirstIs : (ℕ → Bool) → Bool → List ℕ → Type 0
FirstIs test answer [] = Unit {0}
FirstIs test answer (byte ∷ bytes) = test byte ≡ answer

-- a letter or _, then letters, digits and _
abbrev pub IsName : List ℕ → Type 0
IsName [] = ⊥
IsName (first ∷ others) =
    (is_ascii_digit first ≡ false) × (list_all is_word (first ∷ others) ≡ true)

-- a digit, then letters, digits and _
abbrev pub IsNumeral : List ℕ → Type 0
IsNumeral [] = ⊥
IsNumeral (first ∷ others) =
    (is_ascii_digit first ≡ true) × (list_all is_word (first ∷ others) ≡ true)

-- no longer symbol fits
abbrev pub IsLongest : Symbol → List ℕ → Type 0
IsLongest symbol rest =
    (other : Symbol) → BeginsWith (symbol_text symbol ++ rest) (symbol_text other) → length (symbol_text other) ≤ length (symbol_text symbol)

-- the piece ends where these bytes begin, and no sooner or later
abbrev pub Fits : Piece → List ℕ → Type 0
Fits Blank rest = Unit {0}
Fits (Comment []) rest = ⊥
Fits (Comment (first ∷ others)) rest = (is_hash first ≡ true) × (rest ≡ [])
Fits (Word text) rest =
    IsName text × FirstIs is_word false rest × (text ≡ codes "b" → FirstIs is_quote false rest)
Fits (Numeral text) rest = IsNumeral text × FirstIs is_word false rest
Fits (Quoted literal inside) rest = inside_of false (inside ++ codes "\"") ≡ Some inside
Fits (Unclosed text) rest =
    (literal : Literal) × (others : List ℕ) × (text ≡ opening literal ++ others) × (inside_of false others ≡ None) × (rest ≡ [])
Fits (Punctuation symbol) rest = IsLongest symbol rest
Fits (Stray byte) rest =
    (is_space byte ≡ false) × (is_hash byte ≡ false) × (is_quote byte ≡ false) × (is_word byte ≡ false) × ((symbol : Symbol)
    → BeginsWith (byte ∷ rest) (symbol_text symbol) → ⊥)

-- the line is these pieces in order
abbrev pub Cuts : List ℕ → List Piece → Type 0
Cuts line [] = line ≡ []
Cuts line (piece ∷ pieces) =
    (rest : List ℕ) × (line ≡ piece_text piece ++ rest) × Fits piece rest × Cuts rest pieces
